use Rattle.desk_msg.proofs.StatementLaws.{statement_block}
use Rattle.desk_msg.proofs.laws.statement_is_block.Goals as goal

pub returns : goal.returns
returns c = statement_block
