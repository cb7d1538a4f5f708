-- The order of places.
use Rattle.std.specs.declared.cmp.Ordering.{Ordering}
use Rattle.desk_rules.specs.declared.history.pair.Place.{Place}
use Rattle.desk_rules.specs.contracts.history.pair.PlaceOrd.TheImpl as place_ord

-- the order in which the values of the type stand
abbrev pub place_cmp : Place → Place → Ordering
place_cmp = (place_ord.ghosts).cmp
