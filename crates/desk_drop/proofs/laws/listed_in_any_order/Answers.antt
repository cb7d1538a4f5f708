use Rattle.desk_drop.proofs.ListingLemmas.{listed_again}
use Rattle.desk_drop.proofs.laws.listed_in_any_order.Goals as goal

pub returns : goal.returns
returns c = listed_again
