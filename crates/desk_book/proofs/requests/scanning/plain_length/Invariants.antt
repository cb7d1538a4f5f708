use Rattle.std.proofs.Common.{◌-◌, ◌≤◌, length}
use Rattle.desk_book.specs.Runs.{IsPlainTo}
use Rattle.desk_book.proofs.requests.scanning.plain_length.Given as goal

-- all so far stand for themselves
abbrev pub invariant-loop-at : goal.invariant-loop-at
invariant-loop-at l = record {
  within : l.at ≤ length l.text;
  plain : IsPlainTo l.text l.at;
}

abbrev pub decreases-loop-at : goal.decreases-loop-at
decreases-loop-at l = length l.text - l.at

abbrev pub invariant-loop-index : goal.invariant-loop-index
invariant-loop-index l = IsPlainTo l.text l.index
