-- A line that is neither a command nor a message asks nothing.
use Rattle.std.proofs.Common.{codes, refl}
use Rattle.desk_book.proofs.FormLemmas.{nothing_posted, is_not}
use Rattle.desk_book.proofs.requests.form.posted.Goals as goal

pub returns-in-None : goal.returns-in-None
returns-in-None c = nothing_posted c.args.said.now c.args.text.now (is_not c.args.said.now (codes "op") c.if-eq.ensures refl) c.in-None.ensures.none
