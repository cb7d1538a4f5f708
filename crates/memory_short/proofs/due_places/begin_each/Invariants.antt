use Rattle.std.proofs.Common.{◌≡◌}
use Rattle.std.specs.Prelude.{◌||◌}
use Rattle.std.specs.BTreeSet.{contains}
use Rattle.desk_rules.specs.Places.{place_cmp}
use Rattle.desk_rules.specs.declared.history.pair.Place.{Place}
use Rattle.memory_short.specs.Shortages.{is_to_try}
use Rattle.memory_short.proofs.DueLemmas.{has}
use Rattle.memory_short.proofs.due_places.begin_each.Given as goal

abbrev pub invariant-loop-place : goal.invariant-loop-place
invariant-loop-place l = record { each : (q : Place) → (is_to_try l.counts q || has q l.place-iterator) ≡ contains place_cmp l.places q }
