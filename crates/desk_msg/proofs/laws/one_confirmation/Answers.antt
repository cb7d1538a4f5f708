use Rattle.desk_msg.proofs.OneConfirmation as laws
use Rattle.desk_msg.proofs.laws.one_confirmation.Goals as goal

pub returns : goal.returns
returns c = laws.one_confirmation
