use Rattle.desk.proofs.ServeLemmas.{served}
use Rattle.desk.proofs.answers.serve.serve_stream.Goals as goal

pub returns-clause-served : goal.returns-clause-served
returns-clause-served g c = λ honest.
    let s = c.serve_one.ensures in
    served (λ d. d.is_closed) (λ d. g.D.Register.view d.register) c.args.desk.now c.serve_one.new.desk _ _ _ c.serve_one.result honest s.responds (λ is. (s.unread is).0) (λ is. (s.memory is).0) s.stands
