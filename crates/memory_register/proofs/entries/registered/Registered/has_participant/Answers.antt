use Rattle.std.proofs.Common.{◌∙◌, ap}
use Rattle.std.specs.Prelude.{is_some}
use Rattle.desk_rules.specs.Facts.{adds_participant}
use Rattle.memory_register.proofs.FirstLemmas.{first_any}
use Rattle.memory_register.proofs.entries.registered.Registered.has_participant.Goals as goal

pub returns : goal.returns
returns c history are = c.contains_key.ensures ∙ ap is_some (are.participants c.args.bic.now) ∙ first_any (adds_participant c.args.bic.now) history
