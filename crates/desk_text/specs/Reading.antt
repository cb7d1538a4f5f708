-- Reading a block line by line, with a stack of open names. Only proofs and private contracts speak of it.
use Rattle.std.specs.Prelude.{ℕ, ◌+◌, nat_lt, Bool, true, false, ◌==◌, List, [], ◌∷◌, ◌++◌, length, map, reverse, codes, Result, Ok, Err, if◌then◌else◌}
use Rattle.std.specs.Str.{byte, bytes_eq}
use Rattle.desk_text.specs.declared.limits.TheConstants.{DEEPEST, LONGEST_TEXT}
use Rattle.desk_text.specs.declared.faults.TextFault.{TextFault}
use Rattle.desk_text.specs.declared.faults.TextFault.TheVariants.{NotBlock, BadLine, BadNesting, TooLong}
use Rattle.desk_text.specs.Lines.{lines_of}
use Rattle.desk_text.specs.Fields.{Found}
use Rattle.desk_text.specs.Signs.{Sign, opens, closes, starts, further, ends, strange, sign_of}

-- a line without the CR at its end, if it has one
abbrev pub strip_return : List ℕ → List ℕ
strip_return [] = []
strip_return (c ∷ []) = if c == byte "\r" then [] else c ∷ []
strip_return (c ∷ d ∷ line) = c ∷ strip_return (d ∷ line)

-- what reading from a line on gives: the lines that go on the value before it, and the fields after these
pub record Rest : Type 0 where
  pub values : List (List ℕ)
  pub fields : List Found

abbrev pub nothing : Rest
nothing = record { values = []; fields = [] }

-- a field in front, whose value goes on
abbrev pub with_field : Found → Result Rest TextFault → Result Rest TextFault
with_field x (Ok rest) = Ok (record { values = []; fields = record x { values = x.values ++ rest.values } ∷ rest.fields })
with_field x (Err fault) = Err fault

abbrev pub with_value : List ℕ → Result Rest TextFault → Result Rest TextFault
with_value line (Ok rest) = Ok (record rest { values = line ∷ rest.values })
with_value line (Err fault) = Err fault

-- after `-}`, from line k on
abbrev pub read_after : List Sign → ℕ → Result Rest TextFault
read_after [] k = Ok nothing
read_after (further [] ∷ signs) k = read_after signs (k + 1)
read_after (sign ∷ signs) k = Err (BadLine k)

-- Before `-}`, from line k on, within open names, the innermost first; a value may go on or not.
abbrev pub read_from : List Sign → List (List ℕ) → Bool → ℕ → Result Rest TextFault
read_from [] within goes_on k = Err NotBlock
read_from (opens name ∷ signs) within goes_on k = if nat_lt (length within) DEEPEST then read_from signs (name ∷ within) false (k + 1) else Err (BadNesting k)
read_from (closes name ∷ signs) [] goes_on k = Err (BadNesting k)
read_from (closes name ∷ signs) (top ∷ within) goes_on k = if bytes_eq top name then read_from signs within false (k + 1) else Err (BadNesting k)
read_from (starts tag first ∷ signs) within goes_on k =
    with_field (record { path = reverse within; tag = tag; values = first ∷ []; line = k }) (read_from signs within true (k + 1))
read_from (further line ∷ signs) within true k = with_value line (read_from signs within true (k + 1))
read_from (further line ∷ signs) within false k = Err (BadLine k)
read_from (ends ∷ signs) [] goes_on k = read_after signs (k + 1)
read_from (ends ∷ signs) (top ∷ within) goes_on k = Err (BadNesting k)
read_from (strange ∷ signs) within goes_on k = Err (BadLine k)

-- all lines of a text
abbrev pub read_lines : List (List ℕ) → Result Rest TextFault
read_lines [] = Err NotBlock
read_lines (first ∷ lines) = if bytes_eq first (codes "{4:") then read_from (map sign_of lines) [] false 2 else Err NotBlock

abbrev pub read_text : List ℕ → Result Rest TextFault
read_text text = if nat_lt LONGEST_TEXT (length text) then Err TooLong else read_lines (lines_of text)

-- values go on that of the last field
abbrev pub extend_last : List Found → List (List ℕ) → List Found
extend_last [] values = []
extend_last (x ∷ []) values = record x { values = x.values ++ values } ∷ []
extend_last (x ∷ y ∷ found) values = x ∷ extend_last (y ∷ found) values

-- what was found before, and what reading gives from there on
abbrev pub after_found : List Found → Result Rest TextFault → Result Rest TextFault
after_found found (Ok rest) = Ok (record { values = []; fields = extend_last found rest.values ++ rest.fields })
after_found found (Err fault) = Err fault
