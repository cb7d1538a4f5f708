use Rattle.desk_book.proofs.OneStep as laws
use Rattle.desk_book.proofs.laws.one_reply.Goals as goal

pub returns : goal.returns
returns c = laws.one_step
