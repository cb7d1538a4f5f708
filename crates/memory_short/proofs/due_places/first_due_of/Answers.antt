use Rattle.std.proofs.Common.{◌∙◌}
use Rattle.std.specs.declared.ops.Bound.TheVariants.{Excluded, Unbounded}
use Rattle.std.proofs.lemmas.List.Kept.{IsStrictlySortedBy-filter}
use Rattle.std.specs.BTreeMap.Range.{range_contains}
use Rattle.memory_short.specs.DuePlaces.{beginning}
use Rattle.desk_rules.specs.Places.{place_cmp}
use Rattle.memory_rows.specs.RowsView.{view_of_rows}
use Rattle.memory_short.proofs.DueLemmas.{all_behind, all_behind_beginning, first_is_due, none_past_day, sorted_behind}
use Rattle.memory_short.proofs.due_places.first_due_of.Goals as goal

pub loop-place-init : goal.loop-place-init
loop-place-init c =
    let is = c.into_iter-place-iterator.ensures.into_iter_gives ∙ c.range-place-items.ensures.between tt in
    let at = rw c.beginning.ensures at is in
    record {
      left = all_behind_beginning c.args.places.now (view_of_rows c.args.held.now).content c.args.day c.args.above.now c.into_iter-place-iterator.result at;
      sorted = rw at (IsStrictlySortedBy-filter place_cmp (range_contains place_cmp (Excluded (beginning c.args.above.now)) Unbounded) c.args.places.now.keys c.range-place-items.ensures.ordered);
    }

pub returns-then-place-day : goal.returns-then-place-day
returns-then-place-day c =
    none_past_day c.args.places.now (view_of_rows c.args.held.now).content c.args.day c.args.above.now c.in-Some.place.now c.loop-place.place-iterator c.next.new.self c.in-Some.ensures.steps c.loop-place.invariant.left c.loop-place.invariant.sorted c.if-place-day.true

pub returns-in-Some-due_at : goal.returns-in-Some-due_at
returns-in-Some-due_at c =
    first_is_due c.args.places.now (view_of_rows c.args.held.now).content c.args.day c.args.above.now c.in-Some.place.now c.loop-place.place-iterator c.next.new.self c.in-Some.ensures.steps c.loop-place.invariant.left c.loop-place.invariant.sorted c.in-Some-due_at.due c.in-Some-due_at.ensures

pub loop-place-preserved : goal.loop-place-preserved
loop-place-preserved c = record {
  left = all_behind c.args.places.now (view_of_rows c.args.held.now).content c.args.day c.args.above.now c.in-Some.place.now c.loop-place.place-iterator c.next.new.self c.in-Some.ensures.steps c.loop-place.invariant.left c.loop-place.invariant.sorted c.in_default.ensures;
  sorted = sorted_behind c.in-Some.place.now c.loop-place.place-iterator c.next.new.self c.in-Some.ensures.steps c.loop-place.invariant.sorted;
}
