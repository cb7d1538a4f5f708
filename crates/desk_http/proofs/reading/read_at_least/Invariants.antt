use Rattle.std.proofs.Common.{◌≡◌, ◌≤◌, ◌-◌, ◌++◌, ℕ, List, vec_len, vec_capacity}
use Rattle.std.specs.Io.KnownBytes.{Consumes}
use Rattle.desk_http.proofs.reading.read_at_least.Given as goal

-- what was read stands behind what was there
abbrev pub invariant-reads : goal.invariant-reads
invariant-reads g l =
    (73728 ≤ vec_capacity l.input) × (vec_len l.input ≤ 73728) × (more : List ℕ) × (l.input.items ≡ l.fn.input.items ++ more) × Consumes (g.R.Read.remaining l.fn.reader) (g.R.Read.remaining l.reader) more

abbrev pub decreases-reads : goal.decreases-reads
decreases-reads g l = 73728 - vec_len l.input
