use Rattle.desk_book.proofs.RunLemmas.{open_all_along}
use Rattle.desk_book.proofs.laws.closed_for_good.Goals as goal

pub returns : goal.returns
returns c = open_all_along
