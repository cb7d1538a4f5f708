use Rattle.std.proofs.Common.{Bool, sym, subst}
use Rattle.desk_book.specs.DeskValue.{DeskValue}
use Rattle.desk_book.specs.Held.{Holds}
use Rattle.desk_book.proofs.HeadlineLemmas.{promised}
use Rattle.desk_book.proofs.TellingLemmas.{holds_after_writing}
use Rattle.desk_book.proofs.desk.Desk.report.Goals as goal

pub returns-clause-keeps : goal.returns-clause-keeps
returns-clause-keeps g c = λ books honest holds.
    let new = g.R.Register.view c.tell_to-written.new.register in
    let inside = subst (λ (d : DeskValue g.row.R.Denot). Holds d.is_closed (g.R.Register.view d.register) books) (sym c.self.view_is) holds in
    let kept = holds_after_writing c.tell_to-written.result (g.R.Register.view c.self.inside.register) new c.tell_to-written.ensures.ends books honest (inside c.if-self.false) in
    let K : Bool → Type 0 = λ b. Holds b new books in
    let kept_so = subst K (sym c.is_closed_after-self-inside.ensures) kept in
    (kept_so, promised c.is_closed_after-self-inside.result new books kept_so)
