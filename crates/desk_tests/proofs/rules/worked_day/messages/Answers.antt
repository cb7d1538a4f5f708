use Rattle.std.specs.Prelude.{refl}
use Rattle.std.specs.Fmt.{digits}
use Rattle.desk_tests.proofs.rules.worked_day.messages.Goals as goal

pub returns-clause-none_such : goal.returns-clause-none_such
unfolding digits
returns-clause-none_such c = refl

pub returns-clause-stranger : goal.returns-clause-stranger
unfolding digits
returns-clause-stranger c = refl

pub returns-clause-past : goal.returns-clause-past
unfolding digits
returns-clause-past c = refl

pub returns-clause-nought : goal.returns-clause-nought
unfolding digits
returns-clause-nought c = refl
