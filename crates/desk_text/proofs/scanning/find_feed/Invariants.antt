use Rattle.std.proofs.Common.{◌≤◌, ◌-◌, length}
use Rattle.desk_text.specs.Scanning.{NoFeed}
use Rattle.desk_text.proofs.scanning.find_feed.Given as goal

abbrev pub invariant-loop-at : goal.invariant-loop-at
invariant-loop-at l = record {
  within : l.at ≤ length l.text;
  none : NoFeed l.text l.at;
}

abbrev pub decreases-loop-at : goal.decreases-loop-at
decreases-loop-at l = length l.text - l.at
