use Rattle.desk_msg.proofs.ConfirmationLaws.{confirms}
use Rattle.desk_msg.proofs.laws.confirmation_says.Goals as goal

pub returns : goal.returns
returns c = confirms
