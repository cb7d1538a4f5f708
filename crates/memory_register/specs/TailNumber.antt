-- A number by which texts are told apart, mostly, in one comparison. Only private contracts and proofs speak of it.
use Rattle.std.specs.Prelude.{ℕ, ◌+◌, ◌*◌, ◌%◌, ◌^◌, List, fold}

-- the number that the last eight bytes of a text are in base 256, the last byte least
abbrev pub tail_number : List ℕ → ℕ
tail_number text = fold (λ number byte. (number * 256 % 2 ^ 64 + byte) % 2 ^ 64) 0 text
