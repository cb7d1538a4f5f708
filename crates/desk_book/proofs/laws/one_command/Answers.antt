use Rattle.desk_book.proofs.OneCommand.{one_each}
use Rattle.desk_book.proofs.laws.one_command.Goals as goal

pub returns : goal.returns
returns c = one_each
