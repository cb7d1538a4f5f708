use Rattle.desk_book.proofs.KnownReplies as laws
use Rattle.desk_book.proofs.laws.sums_agree.Goals as goal

pub returns : goal.returns
returns c = laws.sums_agree
