use Rattle.desk_book.proofs.EndsLemmas.{ends_failed, ends_put}
use Rattle.desk_book.proofs.answers.answering.take_in.Goals as goal

pub returns-in-Ok-clause-ends : goal.returns-in-Ok-clause-ends
returns-in-Ok-clause-ends g c = ends_put _ (g.R.Register.view c.args.register.now) (g.R.Register.view c.accept.new.register) c.requires.ready c.in-Ok.ensures.ok c.in-Ok.ensures.later

pub returns-in-Err-clause-ends : goal.returns-in-Err-clause-ends
returns-in-Err-clause-ends g c =
    let a = c.in-Err.ensures in
    rw c.fault_of_failure.ensures (ends_failed c.in-Err.failure (g.R.Register.view c.args.register.now) (g.R.Register.view c.accept.new.register) c.requires.ready a.err a.later a.blame)
