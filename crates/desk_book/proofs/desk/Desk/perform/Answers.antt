use Rattle.desk_book.proofs.AnsweringLemmas.{ready_after}
use Rattle.desk_book.proofs.desk.Desk.perform.Goals as goal

pub invariant_of-self : goal.invariant_of-self
invariant_of-self g c =
    let a = c.answer-answer.ensures in
    ready_after c.in-Ok.task c.answer-answer.result (g.R.Register.view c.self.inside.register) (g.R.Register.view c.answer-answer.new.register) c.is_closed_by-self-inside.result c.is_closed_by-self-inside.ensures
    a.ends (rw c.if-self.false at c.self.invariant) a.answered
