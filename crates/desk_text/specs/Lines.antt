-- The lines of a text.
use Rattle.std.specs.Prelude.{ℕ, Bool, false, ◌&&◌, List, [], ◌∷◌, ◌++◌, ◌==◌, codes, if◌then◌else◌}
use Rattle.std.specs.List.{flat_map}
use Rattle.std.specs.Str.{byte}

-- a character in front of the first line
abbrev pub onto_first : ℕ → List (List ℕ) → List (List ℕ)
onto_first c [] = (c ∷ []) ∷ []
onto_first c (line ∷ lines) = (c ∷ line) ∷ lines

-- whether a CR is followed by an LF
abbrev pub is_return_feed : ℕ → List ℕ → Bool
is_return_feed c [] = false
is_return_feed c (d ∷ text) = (d == byte "\n") && (c == byte "\r")

-- The lines of a text with a character in front: an LF ends a line of its own, a CR before an LF is part of that end.
abbrev pub lines_more : ℕ → Bool → List (List ℕ) → List (List ℕ)
lines_more c returns lines = if c == byte "\n" then [] ∷ lines else (if returns then lines else onto_first c lines)

-- The lines of a text, without their ends. A line ends with LF or CR LF, and the last may have no end.
abbrev pub lines_of : List ℕ → List (List ℕ)
lines_of [] = []
lines_of (c ∷ text) = lines_more c (is_return_feed c text) (lines_of text)

-- the lines of a value, which stand in one text with LF between them
abbrev pub value_lines : List ℕ → List (List ℕ)
value_lines [] = [] ∷ []
value_lines (c ∷ value) = let later = value_lines value in if c == byte "\n" then [] ∷ later else onto_first c later

-- a line with its end, as it is written
abbrev pub ended : List ℕ → List ℕ
ended line = line ++ codes "\r\n"

-- lines as they are written, one after another
abbrev pub written : List (List ℕ) → List ℕ
written lines = flat_map ended lines
