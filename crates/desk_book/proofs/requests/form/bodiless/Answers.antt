-- A line that is no question asks nothing.
use Rattle.std.proofs.Common.{codes, refl}
use Rattle.desk_book.proofs.FormLemmas.{nothing_asked, is_not}
use Rattle.desk_book.proofs.requests.form.bodiless.Goals as goal

pub returns-in-None : goal.returns-in-None
returns-in-None c = nothing_asked c.args.said.now (is_not c.args.said.now (codes "sums") c.if-eq.ensures refl) c.in_default.ensures.none c.in_default-sent_line.ensures.none c.in-None.ensures.none
