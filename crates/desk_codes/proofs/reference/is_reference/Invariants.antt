use Rattle.std.proofs.Common.{◌≡◌, ◌≢◌, ℕ, ◌+◌, ◌<◌, get_or}
use Rattle.desk_codes.proofs.reference.is_reference.Given as goal

-- no two slashes stand together so far
abbrev pub invariant-loop-i : goal.invariant-loop-i
invariant-loop-i l = (k : ℕ) → k + 1 < l.i → get_or l.text k 0 ≡ 47 → get_or l.text (k + 1) 0 ≢ 47
