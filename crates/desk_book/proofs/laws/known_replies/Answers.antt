use Rattle.desk_book.proofs.KnownReplies as laws
use Rattle.desk_book.proofs.laws.known_replies.Goals as goal

pub returns : goal.returns
returns c = laws.known
