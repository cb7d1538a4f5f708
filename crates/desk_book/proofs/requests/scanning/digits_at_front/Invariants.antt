use Rattle.std.proofs.Common.{ℕ, ◌<◌, ◌≤◌, get_or}
use Rattle.desk_codes.specs.Characters.{IsDigit}
use Rattle.desk_book.specs.declared.limits.TheConstants.{LONGEST_NUMBER}
use Rattle.desk_book.proofs.requests.scanning.digits_at_front.Given as goal

-- few bytes so far, each a digit
abbrev pub invariant-loop-index : goal.invariant-loop-index
invariant-loop-index l = (l.index ≤ LONGEST_NUMBER) × ((k : ℕ) → k < l.index → IsDigit (get_or l.text k 0))
