-- Places under keys, in the order of the keys and then of the places. Only private contracts and proofs speak of it.
use Rattle.std.specs.Ordering.{ordering_then}
use Rattle.std.specs.declared.cmp.Ordering.{Ordering}
use Rattle.desk_rules.specs.declared.history.pair.Place.{Place}
use Rattle.desk_rules.specs.Places.{place_cmp}

abbrev pub placed_cmp : {K : Type 0} → (K → K → Ordering) → K × Place → K × Place → Ordering
placed_cmp cmp a b = ordering_then (cmp a.0 b.0) (place_cmp a.1 b.1)
