use Rattle.desk_http.proofs.ServeLemmas.{found_asks, found_refused, none_responded, none_served}
use Rattle.desk_http.proofs.serving.respond.Goals as goal

pub returns-in-Ok-clause-stands : goal.returns-in-Ok-clause-stands
returns-in-Ok-clause-stands g c = λ stream asks books honest holds.
    c.answer.ensures.stands stream (found_asks stream c.args.input.now c.args.found c.in-Ok.call c.in-Ok.start _ c.in-Ok.is c.request.ensures asks) books honest holds

pub returns-in-Err-clause-responds : goal.returns-in-Err-clause-responds
returns-in-Err-clause-responds g c = λ stream asks books honest holds.
    none_responded c.refuse.result _ _ stream c.args.desk.now.is_closed books c.in-Err.refusal (g.R.Register.view c.args.desk.now.register) c.refuse.ensures.written (found_refused stream c.args.input.now c.args.found c.in-Err.refusal c.in-Err.is asks) holds

pub returns-in-Err-clause-stands : goal.returns-in-Err-clause-stands
returns-in-Err-clause-stands g c = λ stream asks books honest holds.
    none_served stream c.args.desk.now.is_closed books c.in-Err.refusal (g.R.Register.view c.args.desk.now.register) (found_refused stream c.args.input.now c.args.found c.in-Err.refusal c.in-Err.is asks) holds
