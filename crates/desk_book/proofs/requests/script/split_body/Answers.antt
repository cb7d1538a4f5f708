-- The lines up to one that ends the body, sought by its full stop.
use Rattle.std.proofs.Common.{true, false, refl, sym}
use Rattle.std.proofs.lemmas.Bool.{false≢true}
use Rattle.desk_book.proofs.StopLemmas.{past_full_stop, at_stop, no_stop_left}
use Rattle.desk_book.proofs.requests.script.split_body.Goals.{else-ends_line-via-then-ends_line+else-is_stop, else-ends_line-via-else-ends_line}
use Rattle.desk_book.proofs.requests.script.split_body.Goals as goal

pub returns-then-is_stop-clause-body : goal.returns-then-is_stop-clause-body
returns-then-is_stop-clause-body c =
    let s = c.in-Some.ensures in
    at_stop c.args.text.now c.loop-front.rest.now c.in-Some.front.now c.in-Some.line.now c.in-Some.after.now _ refl c.loop-front.invariant s.split s.line s.front
    (sym c.if-ends_line.ensures) (sym c.if-is_stop.ensures)

pub loop-front-preserved : goal.loop-front-preserved
loop-front-preserved c =
    let s = c.in-Some.ensures in
    elim c.else-ends_line.branch [
      | else-ends_line-via-then-ends_line+else-is_stop w ↦ past_full_stop c.args.text.now c.loop-front.rest.now c.in-Some.front.now c.in-Some.line.now c.in-Some.after.now true
          c.loop-front.invariant s.split s.line s.front (sym w.if-ends_line.ensures) (λ _. sym w.if-is_stop.ensures)
      | else-ends_line-via-else-ends_line w ↦ past_full_stop c.args.text.now c.loop-front.rest.now c.in-Some.front.now c.in-Some.line.now c.in-Some.after.now false
          c.loop-front.invariant s.split s.line s.front (sym w.if-ends_line.ensures) (λ no. absurd (false≢true no))
    ]

pub returns-clause-none : goal.returns-clause-none
returns-clause-none c = no_stop_left c.args.text.now c.loop-front.rest.now c.loop-front.invariant c.in_default.ensures.none
