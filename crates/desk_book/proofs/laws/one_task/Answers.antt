use Rattle.desk_book.proofs.OneTask as laws
use Rattle.desk_book.proofs.laws.one_task.Goals as goal

pub returns : goal.returns
returns c = laws.one_task
