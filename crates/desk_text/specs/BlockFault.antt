-- Why a text is no block that is read.
use Rattle.std.specs.Prelude.{◌≡◌, ℕ, ◌-◌, ◌<◌, ◌≤◌, ◌⊎◌, List, [], ◌∷◌, ◌++◌, length, map, take, codes, IsTrue, slice_get, Some, Contains}
use Rattle.desk_text.specs.declared.limits.TheConstants.{DEEPEST, LONGEST_TEXT}
use Rattle.desk_text.specs.declared.faults.TextFault.{TextFault}
use Rattle.desk_text.specs.declared.faults.TextFault.TheVariants.{NotBlock, BadLine, BadNesting, TooLong, Memory}
use Rattle.desk_text.specs.Lines.{lines_of}
use Rattle.desk_text.specs.BlockGrammar.{Items, IsTree, is_name, is_tag, is_first, opening, closing, field_line}

-- the lines begin a block: some further lines make them one
pub record Begins (lines : List (List ℕ)) : Type 0 where
  pub more : List (List ℕ)
  pub items : Items
  pub tree : IsTree (lines ++ more) items

-- k is the least number such that lines 1 to k begin no block
pub record IsFirstBad (lines : List (List ℕ)) (k : ℕ) : Type 0 where
  pub within : k ≤ length lines
  pub bad : Begins (take k lines) → ⊥
  pub least : (j : ℕ) → j < k → Begins (take j lines)

-- These names are open after the lines, the innermost first: closing them, and `-}`, makes the lines a block.
pub record AreOpen (lines names : List (List ℕ)) : Type 0 where
  pub items : Items
  pub tree : IsTree (lines ++ (map closing names ++ codes "-}" ∷ [])) items

-- The line is right where these names are open, the innermost first, whatever line stands before it.
-- (A further line of a value hangs on the line before it, and on no names. The law `right_lines` says that this is the grammar.)
pub data IsRight (names : List (List ℕ)) (line : List ℕ) : Type 0 where
  is_opening : (name : List ℕ) → line ≡ opening name → IsTrue (is_name name) → length names < DEEPEST → IsRight names line
  is_closing : (name : List ℕ) (outer : List (List ℕ)) → line ≡ closing name → IsTrue (is_name name) → names ≡ name ∷ outer → IsRight names line
  is_field : (tag first : List ℕ) → line ≡ field_line tag first → IsTrue (is_tag tag) → IsTrue (is_first first) → IsRight names line
  is_end : line ≡ codes "-}" → names ≡ [] → IsRight names line

-- No `-}` came before line k, and it is right under some list of open names.
pub record IsMisnested (lines : List (List ℕ)) (k : ℕ) : Type 0 where
  pub line : List ℕ
  pub is : slice_get lines (k - 1) ≡ Some line
  pub unended : Contains (take (k - 1) lines) (codes "-}") → ⊥
  pub names : List (List ℕ)
  pub right : IsRight names line

-- The fault of a text. Too long comes first. Else it stands at the first line k such that lines 1 to k begin no block:
-- no block where that is the first line, or where there is none; bad nesting where the line is misnested; else a bad line.
abbrev pub IsFault : List ℕ → TextFault → Type 0
IsFault text TooLong = LONGEST_TEXT < length text
IsFault text NotBlock = (length text ≤ LONGEST_TEXT) × (IsFirstBad (lines_of text) 1 ⊎ (Begins (lines_of text) × ((items : Items) → IsTree (lines_of text) items → ⊥)))
IsFault text (BadLine k) = (length text ≤ LONGEST_TEXT) × (1 < k) × IsFirstBad (lines_of text) k × (IsMisnested (lines_of text) k → ⊥)
IsFault text (BadNesting k) = (length text ≤ LONGEST_TEXT) × (1 < k) × IsFirstBad (lines_of text) k × IsMisnested (lines_of text) k
IsFault text Memory = ⊥
