use Rattle.desk_rules.proofs.PlaceLemmas.{by_order}
use Rattle.desk_rules.proofs.laws.places_in_order.Goals as goal

pub returns : goal.returns
returns c = λ a b. by_order a b
