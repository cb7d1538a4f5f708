use Rattle.memory_short.proofs.TryLemmas.{first_of_tried, none_to_try, past_all}
use Rattle.memory_short.proofs.due_places.first_to_try.Goals as goal

pub returns-in_err-place : goal.returns-in_err-place
returns-in_err-place c = rw c.from_residual.ensures (λ content knows. none_to_try c.args.shortages.now content c.args.day c.args.above.now c.requires.known c.requires.none knows (rw c.beginning.ensures at c.in_err-place.ensures.none))

pub returns-then-place-day : goal.returns-then-place-day
returns-then-place-day c = λ content knows.
    past_all c.args.shortages.now content c.args.day c.args.above.now c.requires.known c.requires.none knows c.in_ok-place.place (rw c.beginning.ensures at c.in_ok-place.ensures.least) c.if-place-day.true

pub returns : goal.returns
returns c = λ content knows.
    first_of_tried c.args.shortages.now content c.args.day c.args.above.now c.requires.known c.requires.none knows c.in_ok-place.place (rw c.beginning.ensures at c.in_ok-place.ensures.least) c.if-place-day.false
    (rw c.beginning.ensures at c.in_ok-place.ensures.behind) c.in_ok-place.ensures.there
