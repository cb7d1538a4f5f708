-- What the code holds, without where it lies in memory.
use Rattle.std.specs.Prelude.{◌≡◌, ◌≤◌, ◌∷◌, ℕ, List, length, map, codes, Result, Ok, Err}
use Rattle.std.specs.Borrow.{Bor}
use Rattle.desk_text.specs.declared.limits.TheConstants.{LONGEST_TEXT}
use Rattle.desk_text.specs.declared.lines.Line.{Line}
use Rattle.desk_text.specs.declared.lines.Line.TheVariants.{Opening, Closing, Start, Further, End, Strange}
use Rattle.desk_text.specs.declared.fields.Field.{Field}
use Rattle.desk_text.specs.declared.fields.Block.{Block}
use Rattle.desk_text.specs.declared.faults.TextFault.{TextFault}
use Rattle.desk_text.specs.declared.faults.TextFault.TheVariants.{Memory}
use Rattle.desk_text.specs.Fields.{Found, IsBlock}
use Rattle.desk_text.specs.Lines.{lines_of}
use Rattle.desk_text.specs.BlockFault.{IsFault}
use Rattle.desk_text.specs.Signs.{Sign, opens, closes, starts, further, ends, strange}

abbrev pub texts : List (Bor (List ℕ)) → List (List ℕ)
texts lines = map (λ line. line.now) lines

abbrev pub sign_seen : Line → Sign
sign_seen (Opening name) = opens name.now
sign_seen (Closing name) = closes name.now
sign_seen (Start tag first) = starts tag.now first.now
sign_seen (Further line) = further line.now
sign_seen End = ends
sign_seen Strange = strange

-- a field as the grammar sees it
abbrev pub found_of : Field → Found
found_of f = record { path = texts f.path.items; tag = f.tag.now; values = texts f.values.items; line = f.line }

-- the fields of a block that was read
abbrev pub found_in : Block → List Found
found_in block = map found_of block.fields.items

-- a text, not too long, whose first line is `{4:`: that a text is none of these is told without taking memory
pub record MayBeBlock (text : List ℕ) : Type 0 where
  pub short : length text ≤ LONGEST_TEXT
  pub further : List (List ℕ)
  pub lines : lines_of text ≡ codes "{4:" ∷ further

-- What reading a text gives: the fields of a block that is not too long, or the one fault. Memory is wanted only of a text that may be one.
abbrev pub Reads : List ℕ → Result Block TextFault → Type 0
Reads text (Ok block) = (length text ≤ LONGEST_TEXT) × IsBlock text (found_in block)
Reads text (Err Memory) = MayBeBlock text
Reads text (Err fault) = IsFault text fault
