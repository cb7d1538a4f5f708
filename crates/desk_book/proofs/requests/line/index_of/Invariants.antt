use Rattle.std.proofs.Common.{◌≡◌, ℕ, ◌-◌, ◌<◌, ◌≤◌, false, eqb, get_or, length}
use Rattle.desk_book.proofs.requests.line.index_of.Given as goal

-- the byte stands at none of the places so far
abbrev pub invariant-loop-at : goal.invariant-loop-at
invariant-loop-at l = record {
  within : l.at ≤ length l.text;
  none : (k : ℕ) → k < l.at → eqb (get_or l.text k 0) l.byte ≡ false;
}

abbrev pub decreases-loop-at : goal.decreases-loop-at
decreases-loop-at l = length l.text - l.at

abbrev pub invariant-loop-index : goal.invariant-loop-index
invariant-loop-index l = (k : ℕ) → k < l.index → eqb (get_or l.text k 0) l.byte ≡ false
