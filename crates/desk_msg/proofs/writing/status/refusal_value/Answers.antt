use Rattle.std.proofs.Common.{◌++◌, ap, codes}
use Rattle.desk_msg.proofs.PrintableLemmas.{two_digits}
use Rattle.desk_msg.proofs.writing.status.refusal_value.Goals as goal

pub returns : goal.returns
returns c = ap (λ digits. codes ":REAS//DESK " ++ digits) (two_digits c.args.number c.requires)
