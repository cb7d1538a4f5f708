-- The fields of a block.
use Rattle.std.specs.Prelude.{◌≡◌, ℕ, ◌+◌, List, [], ◌∷◌, ◌++◌, length, reverse}
use Rattle.desk_text.specs.Lines.{lines_of}
use Rattle.desk_text.specs.BlockGrammar.{Items, none, field, sequence, lines_of_items, IsTree}

-- a field: the names of the sequences that it stands in (the outermost first), its tag, the lines of its value, and the number of its first line
pub record Found : Type 0 where
  pub path : List (List ℕ)
  pub tag : List ℕ
  pub values : List (List ℕ)
  pub line : ℕ

-- the fields of items in order, within open names (the innermost first), where the first item begins at that line
abbrev pub fields_from : List (List ℕ) → ℕ → Items → List Found
fields_from within line none = []
fields_from within line (field tag first further rest) =
    record { path = reverse within; tag = tag; values = first ∷ further; line = line } ∷ fields_from within (line + 1 + length further) rest
fields_from within line (sequence name inner rest) =
    fields_from (name ∷ within) (line + 1) inner ++ fields_from within (line + 2 + length (lines_of_items inner)) rest

-- the fields of a block: its items begin at line 2
abbrev pub fields_of : Items → List Found
fields_of items = fields_from [] 2 items

-- the text is a block with these fields
pub record IsBlock (text : List ℕ) (found : List Found) : Type 0 where
  pub items : Items
  pub tree : IsTree (lines_of text) items
  pub fields : found ≡ fields_of items
