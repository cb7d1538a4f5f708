-- The lines of a script.
use Rattle.std.specs.Prelude.{ℕ, ◌-◌, ◌==◌, ◌||◌, Bool, true, if◌then◌else◌, List, [], ◌∷◌, length, take, drop, codes}
use Rattle.std.specs.List.{before_first, onto_first}
use Rattle.std.specs.Str.{byte, bytes_eq}

-- each line with its line feed; the last may have none
abbrev pub script_lines : List ℕ → List (List ℕ)
script_lines [] = []
script_lines (c ∷ text) = if c == byte "\n" then (c ∷ []) ∷ script_lines text else onto_first c (script_lines text)

-- the line ends so
abbrev pub has_end : List ℕ → List ℕ → Bool
has_end end line = bytes_eq (drop (length line - length end) line) end

-- what a line says: without its line feed, and without a carriage return right before that
abbrev pub said_by : List ℕ → List ℕ
said_by line =
    if has_end (codes "\r\n") line then take (length line - 2) line else (if has_end (codes "\n") line then take (length line - 1) line else line)

-- what stands before the first space, or all of it
abbrev pub first_word : List ℕ → List ℕ
first_word said = before_first (λ c. c == byte " ") said

-- a line that says this asks nothing: an empty one, or a comment
abbrev pub is_skipped : List ℕ → Bool
is_skipped [] = true
is_skipped (c ∷ said) = c == byte "#"

-- a body follows a line that says this
abbrev pub has_body : List ℕ → Bool
has_body said = bytes_eq (first_word said) (codes "in") || bytes_eq (first_word said) (codes "op")

-- the line ends a body
abbrev pub is_stop : List ℕ → Bool
is_stop line = bytes_eq (said_by line) (codes ".")
