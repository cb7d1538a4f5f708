-- Why a text is no block, by its lines.
use Rattle.std.specs.Prelude.{ℕ, ◌+◌, ◌-◌, nat_lt, Bool, not, ◌&&◌, ◌||◌, ◌==◌, List, [], ◌∷◌, ◌++◌, length, take, drop, get_or, codes, if◌then◌else◌}
use Rattle.std.specs.List.{list_all, prefix_len}
use Rattle.std.specs.Str.{byte, bytes_eq}
use Rattle.desk_text.specs.Lines.{lines_of}
use Rattle.desk_text.specs.BlockGrammar.{is_printable, is_digit, is_name, is_tag}
use Rattle.desk_reasons.specs.declared.reasons.BlockReason.{BlockReason}
use Rattle.desk_reasons.specs.declared.reasons.BlockReason.TheVariants as blocks
use Rattle.desk_reasons.specs.declared.reasons.LineReason.{LineReason}
use Rattle.desk_reasons.specs.declared.reasons.LineReason.TheVariants as lines
use Rattle.desk_reasons.specs.declared.reasons.NestingReason.{NestingReason}
use Rattle.desk_reasons.specs.declared.reasons.NestingReason.TheVariants as nestings
use Rattle.desk_reasons.specs.Characters.{stands_in, begins_so, is_empty, has_lower_case}

-- the line of that number, counted from 1
abbrev pub line_at : ℕ → List ℕ → List ℕ
line_at number text = get_or (lines_of text) (number - 1) []

-- the blocks before block 4
abbrev pub begins_earlier : List ℕ → Bool
begins_earlier text = begins_so text (codes "{1:") || begins_so text (codes "{2:") || begins_so text (codes "{3:")

-- why a text is no block where no line of it is wrong but the first: the first of the table that holds
abbrev pub block_reason : List ℕ → BlockReason
block_reason text =
    if is_empty text then blocks.Empty
    else if begins_so text (239 ∷ 187 ∷ 191 ∷ []) then blocks.ByteOrderMark
    else if begins_earlier text then blocks.EarlierBlock
    else if begins_so (line_at 1 text) (codes "{4:\r") then blocks.ReturnAlone
    else if not (stands_in (byte "\n") text) then blocks.NoLineFeed
    else if bytes_eq (line_at 1 text) (codes "{4:") then blocks.CutOff
    else blocks.FirstLine

-- in which line that stands: the first, or the last of a text that is cut off
abbrev pub block_line : BlockReason → List ℕ → ℕ
block_line blocks.CutOff text = length (lines_of text)
block_line reason text = 1

-- where the first byte stands that is not printable, counted from 0; the line's length where there is none
abbrev pub odd_place : List ℕ → ℕ
odd_place line = prefix_len is_printable line

-- a line with a tag of so many characters between colons
abbrev pub has_tag_of : ℕ → List ℕ → Bool
has_tag_of count line = is_tag (take count (drop 1 line)) && begins_so (drop (count + 1) line) (codes ":")

-- a line with a tag of two digits and a letter in lower case between colons
abbrev pub has_lower_tag : List ℕ → Bool
has_lower_tag line = list_all is_digit (take 2 (drop 1 line)) && has_lower_case (take 1 (drop 3 line)) && begins_so (drop 4 line) (codes ":")

-- a line that opens or closes a sequence
abbrev pub is_bracket : List ℕ → Bool
is_bracket line = begins_so line (codes ":16R:") || begins_so line (codes ":16S:")

-- why a line that begins with a colon may not stand there: the first of the table that holds
abbrev pub colon_reason : List ℕ → LineReason
colon_reason line =
    if is_bracket line then (if is_name (drop 5 line) then lines.Other else lines.Name)
    else if has_tag_of 2 line || has_tag_of 3 line then lines.Other
    else if has_lower_tag line then lines.LowerCaseTag
    else lines.Tag

-- why a line of printable characters may not stand there: the first of the table that holds
abbrev pub printable_reason : List ℕ → LineReason
printable_reason line =
    if begins_so line (codes "{5:") || begins_so line (codes "-}{5:") then lines.Trailer
    else if begins_so line (codes "-}") then lines.BehindEnd
    else if begins_so line (codes "-") then lines.Hyphen
    else if begins_so line (codes ":") then colon_reason line
    else if is_empty line then lines.Blank
    else lines.NoValue

-- why a line may not stand there: its first byte that is not printable, with its column, or the first of the table
abbrev pub line_reason : List ℕ → LineReason
line_reason line =
    if nat_lt (odd_place line) (length line) then lines.Byte (odd_place line + 1) (get_or line (odd_place line) 0)
    else printable_reason line

-- The lines in which sequences were opened, the outermost first, behind a line more: it opens one, or closes the innermost.
abbrev pub opened_by : ℕ → List ℕ → List ℕ → List ℕ
opened_by number line begun =
    if begins_so line (codes ":16R:") then begun ++ number ∷ []
    else if begins_so line (codes ":16S:") then take (length begun - 1) begun
    else begun

-- the same behind these lines, of which the first has that number
abbrev pub opened_from : ℕ → List ℕ → List (List ℕ) → List ℕ
opened_from number begun [] = begun
opened_from number begun (line ∷ more) = opened_from (number + 1) (opened_by number line begun) more

-- the same before the line of that number
abbrev pub opened_before : ℕ → List ℕ → List ℕ
opened_before number text = opened_from 1 [] (take (number - 1) (lines_of text))

-- why a line opens or closes wrongly, where sequences are open that were opened in these lines: the first of the table that holds
abbrev pub nesting_reason : List ℕ → List ℕ → NestingReason
nesting_reason line begun =
    if begins_so line (codes ":16R:") then nestings.TooMany
    else if length begun == 0 then nestings.NoneOpen
    else if begins_so line (codes ":16S:") then nestings.OtherOpen (get_or begun (length begun - 1) 0)
    else nestings.StillOpen (get_or begun (length begun - 1) 0)
