use Rattle.desk_codes.proofs.CurrencyLemmas.{found_again, in_order}
use Rattle.desk_codes.proofs.laws.every_currency.Goals as goal

pub returns-clause-listed : goal.returns-clause-listed
returns-clause-listed c = found_again

pub returns-clause-in_order : goal.returns-clause-in_order
returns-clause-in_order c = in_order
