use Rattle.desk_book.proofs.OnceLemmas as laws
use Rattle.desk_book.proofs.laws.accepted_again.Goals as goal

pub returns : goal.returns
returns c = laws.accepted_again
