use Rattle.std.proofs.Common.{refl, None}
use Rattle.desk_book.specs.Asked.{asked_by}
use Rattle.desk_http.specs.Response.{response}
use Rattle.desk_http.proofs.ServeLemmas.{one_responded, one_served}
use Rattle.desk_http.proofs.serving.answer.Goals as goal

pub returns-in-Ok-clause-responds : goal.returns-in-Ok-clause-responds
returns-in-Ok-clause-responds g c = λ stream asks books honest holds.
    let a = c.ask.ensures in
    one_responded g.R.Register.view g.R.Register.in_memory c.write_response.result (response c.in-Ok.reply.status c.in-Ok.reply.mt c.in-Ok.reply.text) _ _ stream books (asked_by c.args.request.now) c.ask.result c.args.desk.now c.ask.new.self
    (rw c.in-Ok.is refl) (rw c.as_bytes.ensures at c.write_response.ensures.written) asks a.answers (a.step books honest holds)

pub returns-in-Ok-clause-stands : goal.returns-in-Ok-clause-stands
returns-in-Ok-clause-stands g c = λ stream asks books honest holds.
    let a = c.ask.ensures in
    one_served g.R.Register.view g.R.Register.in_memory stream books (asked_by c.args.request.now) c.ask.result c.args.desk.now c.ask.new.self asks a.answers (a.step books honest holds)

pub returns-in-Err-clause-responds : goal.returns-in-Err-clause-responds
returns-in-Err-clause-responds g c = λ stream asks books honest holds.
    let a = c.ask.ensures in
    one_responded g.R.Register.view g.R.Register.in_memory c.write_response-in-Err.result (response c.status.result None c.as_bytes-in-Err.result.now) _ _ stream books (asked_by c.args.request.now) c.ask.result c.args.desk.now c.ask.new.self
    (rw (c.in-Err.is, c.status.ensures, c.as_bytes-in-Err.ensures.value, c.text.ensures) refl) c.write_response-in-Err.ensures.written asks a.answers (a.step books honest holds)

pub returns-in-Err-clause-stands : goal.returns-in-Err-clause-stands
returns-in-Err-clause-stands g c = λ stream asks books honest holds.
    let a = c.ask.ensures in
    one_served g.R.Register.view g.R.Register.in_memory stream books (asked_by c.args.request.now) c.ask.result c.args.desk.now c.ask.new.self asks a.answers (a.step books honest holds)
