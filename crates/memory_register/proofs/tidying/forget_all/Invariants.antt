use Rattle.std.proofs.Common.{◌≡◌, ◌++◌, List, length, vec_len}
use Rattle.desk_rules.specs.declared.history.entry.Entry.{Entry}
use Rattle.desk_rules.specs.Content.{Content}
use Rattle.memory_short.specs.DuePlaces.{ArePlaced, FewerDue, HasDue}
use Rattle.memory_register.specs.Known.{AreKnown}
use Rattle.memory_register.proofs.tidying.forget_all.Given as goal

abbrev pub invariant-loop-entry : goal.invariant-loop-entry
invariant-loop-entry l = record {
  known : (history : List Entry) → AreKnown l.fn.known (history ++ l.fn.noted.items) → l.count ≡ length history → AreKnown l.known (history ++ l.noted.items);
  due : (mark : Content) → l.count ≡ length mark.register → HasDue l.fn.places mark → HasDue l.places mark;
  placed : (history : List Entry) → l.count ≡ length history → ArePlaced l.fn.places (history ++ l.fn.noted.items) → ArePlaced l.places (history ++ l.noted.items);
  fewer : FewerDue l.fn.places l.places;
}

abbrev pub decreases-loop-entry : goal.decreases-loop-entry
decreases-loop-entry l = vec_len l.noted
