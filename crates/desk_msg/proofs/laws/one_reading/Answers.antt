use Rattle.desk_msg.proofs.MessageLaws as laws
use Rattle.desk_msg.proofs.laws.one_reading.Goals as goal

pub returns : goal.returns
returns c = laws.one_reading
