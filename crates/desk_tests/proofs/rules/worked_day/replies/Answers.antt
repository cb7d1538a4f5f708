use Rattle.std.specs.Prelude.{refl}
use Rattle.std.specs.Fmt.{digits}
use Rattle.desk_tests.proofs.rules.worked_day.replies.Goals as goal

pub returns-clause-run : goal.returns-clause-run
unfolding digits
returns-clause-run c = refl

pub returns-clause-short_run : goal.returns-clause-short_run
unfolding digits
returns-clause-short_run c = refl

pub returns-clause-full : goal.returns-clause-full
unfolding digits
returns-clause-full c = refl

pub returns-clause-asked_run : goal.returns-clause-asked_run
unfolding digits
returns-clause-asked_run c = refl

pub returns-clause-cancelled_run : goal.returns-clause-cancelled_run
unfolding digits
returns-clause-cancelled_run c = refl
