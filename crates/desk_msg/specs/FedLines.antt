-- The lines of a message as they are added to a text. Only proofs and private contracts speak of it.
use Rattle.std.specs.Prelude.{ℕ, List, ◌++◌, codes}
use Rattle.std.specs.List.{flat_map}

-- lines, each behind a line feed
abbrev pub fed : List (List ℕ) → List ℕ
fed lines = flat_map (λ line. codes "\n" ++ line) lines
