use Rattle.desk_book.specs.Asked.{asked_by}
use Rattle.desk_book.proofs.RunLemmas.{step_of}
use Rattle.desk_book.proofs.desk.Desk.ask.Goals as goal

pub returns-clause-step : goal.returns-clause-step
returns-clause-step g c = λ books honest holds.
    step_of (g.R.Register.view c.args.self.now.register).room books (asked_by c.args.request.now) c.task_of.result c.perform.result c.perform.new.self.is_closed (g.R.Register.view c.perform.new.self.register)
    c.task_of.ensures.task (c.perform.ensures.answered books honest holds)
