-- What a writer writes, part by part.
use Rattle.std.specs.Prelude.{◌≡◌, ℕ, ◌+◌, ◌<◌, Bool, false, ◌&&◌, List, [], ◌∷◌, ◌++◌, length, reverse, drop, codes, IsTrue}
use Rattle.std.specs.List.{flat_map, list_all}
use Rattle.desk_text.specs.declared.limits.TheConstants.{DEEPEST}
use Rattle.desk_text.specs.Lines.{value_lines, written}
use Rattle.desk_text.specs.BlockGrammar.{is_name, is_tag, is_first, is_further, opening, closing, field_line}
use Rattle.desk_text.specs.Fields.{Found}

-- a part of a block: an opening, a field with its value (LF between the lines of it), or a closing
pub data Part : Type 0 where
  open_part : (name : List ℕ) → Part
  field_part : (tag value : List ℕ) → Part
  close_part : (name : List ℕ) → Part

-- the tag goes before the first line
abbrev pub tagged : List ℕ → List (List ℕ) → List (List ℕ)
tagged tag [] = []
tagged tag (first ∷ further) = field_line tag first ∷ further

abbrev pub lines_of_part : Part → List (List ℕ)
lines_of_part (open_part name) = opening name ∷ []
lines_of_part (field_part tag value) = tagged tag (value_lines value)
lines_of_part (close_part name) = closing name ∷ []

-- the first line, as it is written
abbrev pub first_line : List ℕ
first_line = written (codes "{4:" ∷ [])

-- the text of a block whose lines so far are written, `{4:` and `-}` left out
abbrev pub finished : List ℕ → List ℕ
finished text = first_line ++ text ++ codes "-}"

-- The one text of a block with these parts: CR LF after each line but `-}`, and nothing after that.
abbrev pub block_text : List Part → List ℕ
block_text parts = finished (written (flat_map lines_of_part parts))

abbrev pub are_lines : List (List ℕ) → Bool
are_lines [] = false
are_lines (first ∷ further) = is_first first && list_all is_further further

-- a field's value: printable characters, and LF between its lines; no line but the first begins with `:` or `-`
abbrev pub is_value : List ℕ → Bool
is_value value = are_lines (value_lines value)

-- Within open names, the innermost first, these parts are right, and close all that is open.
abbrev pub AreParts : List (List ℕ) → List Part → Type 0
AreParts within [] = within ≡ []
AreParts within (open_part name ∷ parts) = IsTrue (is_name name) × (length within < DEEPEST) × AreParts (name ∷ within) parts
AreParts within (field_part tag value ∷ parts) = IsTrue (is_tag tag) × IsTrue (is_value value) × AreParts within parts
AreParts [] (close_part name ∷ parts) = ⊥
AreParts (top ∷ within) (close_part name ∷ parts) = (name ≡ top) × AreParts within parts

-- the fields that parts write, within open names, from that line on
abbrev pub fields_of_parts : List (List ℕ) → ℕ → List Part → List Found
fields_of_parts within line [] = []
fields_of_parts within line (open_part name ∷ parts) = fields_of_parts (name ∷ within) (line + 1) parts
fields_of_parts within line (field_part tag value ∷ parts) =
    record { path = reverse within; tag = tag; values = value_lines value; line = line } ∷ fields_of_parts within (line + length (value_lines value)) parts
fields_of_parts within line (close_part name ∷ parts) = fields_of_parts (drop 1 within) (line + 1) parts

-- the fields of a whole block of these parts
abbrev pub fields_written : List Part → List Found
fields_written parts = fields_of_parts [] 2 parts

-- A block in the making: the lines that are written, but `{4:`, and the open names, the innermost first.
pub record Draft : Type 0 where
  pub text : List ℕ
  pub names : List (List ℕ)

abbrev pub fresh : Draft
fresh = record { text = []; names = [] }

abbrev pub names_after : Part → List (List ℕ) → List (List ℕ)
names_after (open_part name) names = name ∷ names
names_after (field_part tag value) names = names
names_after (close_part name) names = drop 1 names

-- the draft with one part more
abbrev pub after : Part → Draft → Draft
after part draft = record { text = draft.text ++ written (lines_of_part part); names = names_after part draft.names }

-- the innermost name
abbrev pub innermost : List (List ℕ) → List ℕ
innermost [] = []
innermost (name ∷ names) = name
