use Rattle.std.proofs.Common.{◌≡◌, true}
use Rattle.std.specs.List.Sorted.{IsStrictlySortedBy}
use Rattle.desk_rules.specs.declared.history.pair.Place.{Place}
use Rattle.memory_short.specs.DuePlaces.{IsDueOf}
use Rattle.desk_rules.specs.Places.{place_cmp}
use Rattle.memory_rows.specs.RowsView.{view_of_rows}
use Rattle.memory_short.proofs.DueLemmas.{has}
use Rattle.memory_short.proofs.due_places.first_due_of.Given as goal

abbrev pub invariant-loop-place : goal.invariant-loop-place
invariant-loop-place l = record {
  left : (p : Place) → IsDueOf l.places (view_of_rows l.held).content l.day l.above p → has p l.place-iterator ≡ true;
  sorted : IsStrictlySortedBy place_cmp l.place-iterator;
}
