use Rattle.std.specs.Prelude.{◌≡◌, ℕ, refl, option_and_then}
use Rattle.std.proofs.Common.{ap, arith}
use Rattle.desk_rules.specs.History.{instructed}
use Rattle.desk_rules.specs.Balances.{quantity_on}
use Rattle.desk_tests.specs.WorkedDay.{a_1, share}
use Rattle.desk_tests.proofs.rules.worked_day.verdicts_on_messages.Goals as goal

pub returns-clause-reused : goal.returns-clause-reused
returns-clause-reused c = (refl, λ e. let same : ◌≡◌ {A = ℕ} 400 401 = ap (λ x. quantity_on a_1 share (option_and_then instructed x)) e in omega arith)
