use Rattle.std.specs.Prelude.{refl}
use Rattle.std.specs.Fmt.{digits}
use Rattle.desk_msg.specs.ConfirmationText.{confirmation, confirmation_parts}
use Rattle.desk_msg.specs.OwnText.{last_digits}
use Rattle.desk_tests.proofs.rules.worked_day.confirmed.Goals as goal

pub returns : goal.returns
unfolding digits confirmation confirmation_parts last_digits
returns c = refl
