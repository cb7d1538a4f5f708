use Rattle.std.proofs.Common.{◌≡◌, [], subst, rules}
use Rattle.desk_rules.specs.Content.{history_of}
use Rattle.memory_rows.specs.RowsView.{view_of_rows}
use Rattle.memory_short.specs.DuePlaces.{AreMatched}
use Rattle.memory_register.proofs.OnlyLemmas.{fewer_placed, untouched_one}
use Rattle.memory_register.proofs.tidying.tidy_all.Goals as goal

pub loop-number-preserved : goal.loop-number-preserved
loop-number-preserved c =
    let content = (view_of_rows c.args.held.now).content in
    let before = c.loop-number.invariant in
    record {
      open_left = λ has. c.tidy_open.ensures.now (before.open_left has);
      due_left = λ has. c.tidy_due.ensures.now (before.due_left has);
      fewer = λ q there. before.fewer q (c.tidy_due.ensures.fewer q there);
      only_left = λ placed only.
          untouched_one c.loop-number.places c.tidy_due.new.places content c.loop-number.touched.items c.pop.new.self.items c.in-Some.number c.in-Some.ensures.items c.tidy_due.ensures.fewer
          (c.tidy_due.ensures.only (fewer_placed c.args.places.now c.loop-number.places (history_of content) before.fewer placed)) (before.only_left placed only);
    }

pub returns-clause-placed : goal.returns-clause-placed
returns-clause-placed c = fewer_placed c.args.places.now c.loop-number.places (history_of (view_of_rows c.args.held.now).content) c.loop-number.invariant.fewer

pub returns-clause-only : goal.returns-clause-only
returns-clause-only c = λ placed only.
    let none : c.loop-number.touched.items ≡ [] = search rules in
    subst (AreMatched c.loop-number.places (view_of_rows c.args.held.now).content) none (c.loop-number.invariant.only_left placed only)
