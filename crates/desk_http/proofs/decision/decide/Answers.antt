use Rattle.std.proofs.Common.{ap, Err, rules}
use Rattle.desk_http.proofs.DecisionLemmas.{found_call, found_refusal, refuses_error}
use Rattle.desk_http.proofs.decision.decide.Goals as goal

pub by_length-requires : goal.by_length-requires
by_length-requires c =
    let e = c.in-Ok-Complete.ensures in
    found_call c.args.bytes.now c.front_of-front.result.now c.parse_request.new.headers c.in-Ok-Complete.head c.in-Ok.call c.front_of-front.ensures (search rules)
    (rw c.in-Ok-Complete.field-0-is at e.within) (rw c.in-Ok-Complete.field-0-is at e.complete) c.in-Ok.ensures

pub returns-in-Err-call_of : goal.returns-in-Err-call_of
returns-in-Err-call_of c =
    let e = c.in-Ok-Complete.ensures in
    found_refusal c.args.bytes.now c.front_of-front.result.now c.parse_request.new.headers c.in-Ok-Complete.head c.in-Err-call_of.refusal c.front_of-front.ensures (search rules)
    (rw c.in-Ok-Complete.field-0-is at e.within) (rw c.in-Ok-Complete.field-0-is at e.complete) c.in-Err-call_of.ensures

pub returns-in-Err : goal.returns-in-Err
returns-in-Err c =
    rw c.refusal_of.ensures
    (refuses_error c.args.bytes.now c.in-Err.error
    (rw c.front_of-front.ensures at c.in-Err.ensures.invalid)
    (λ e. rw c.front_of-front.ensures at (c.in-Err.ensures.too_many (ap Err e)))
    (rw c.front_of-front.ensures at c.in-Err.ensures.no_room))
