use Rattle.std.proofs.Common.{vec_len}
use Rattle.desk_rules.specs.Content.{history_of}
use Rattle.memory_short.specs.DuePlaces.{AreMatched, ArePlaced, FewerDue, HasDue}
use Rattle.memory_rows.specs.RowsView.{view_of_rows}
use Rattle.memory_register.specs.Open.{HasOpen}
use Rattle.memory_register.proofs.tidying.tidy_all.Given as goal

abbrev pub invariant-loop-number : goal.invariant-loop-number
invariant-loop-number l = record {
  open_left : HasOpen l.fn.numbers (view_of_rows l.held).content → HasOpen l.numbers (view_of_rows l.held).content;
  due_left : HasDue l.fn.places (view_of_rows l.held).content → HasDue l.places (view_of_rows l.held).content;
  fewer : FewerDue l.fn.places l.places;
  only_left : ArePlaced l.fn.places (history_of (view_of_rows l.held).content) → AreMatched l.fn.places (view_of_rows l.held).content l.fn.touched.items → AreMatched l.places (view_of_rows l.held).content l.touched.items;
}

abbrev pub decreases-loop-number : goal.decreases-loop-number
decreases-loop-number l = vec_len l.touched
