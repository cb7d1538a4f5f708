-- What each step of the reader gives, in terms of what reading the rest gives. Only private contracts speak of it.
use Rattle.std.specs.Prelude.{◌≡◌, ℕ, ◌+◌, Bool, true, false, List, [], ◌∷◌, map, reverse, Result, Ok, Err}
use Rattle.desk_text.specs.declared.reading.Reader.{Reader}
use Rattle.desk_text.specs.declared.fields.Block.{Block}
use Rattle.desk_text.specs.declared.faults.TextFault.{TextFault}
use Rattle.desk_text.specs.declared.faults.TextFault.TheVariants.{Memory}
use Rattle.desk_text.specs.Lines.{lines_of}
use Rattle.desk_text.specs.Fields.{Found}
use Rattle.desk_text.specs.Reading.{Rest, nothing, read_from, read_after, after_found}
use Rattle.desk_text.specs.Signs.{Sign, sign_of}
use Rattle.desk_text.specs.Seen.{texts, found_of, found_in}

-- the open names, the innermost first
abbrev pub open_names : Reader → List (List ℕ)
open_names reader = reverse (texts reader.names.items)

abbrev pub found_by : Reader → List Found
found_by reader = map found_of reader.fields.items

-- the fault is this one, unless memory ran out
abbrev pub FailsWith : TextFault → Result Rest TextFault → Type 0
FailsWith Memory read = Unit {0}
FailsWith fault read = read ≡ Err fault

-- After one line the reading of whatever comes goes on from what was found, or the line is the fault.
abbrev pub Takes : Reader → Sign → ℕ → Result Bool TextFault → Reader → Type 0
Takes reader sign k (Ok false) reader' =
    (rest : List Sign) → after_found (found_by reader) (read_from (sign ∷ rest) (open_names reader) reader.goes_on k) ≡ after_found (found_by reader') (read_from rest (open_names reader') reader'.goes_on (k + 1))
Takes reader sign k (Ok true) reader' =
    (rest : List Sign) → after_found (found_by reader) (read_from (sign ∷ rest) (open_names reader) reader.goes_on k) ≡ after_found (found_by reader') (read_after rest (k + 1))
Takes reader sign k (Err fault) reader' = (rest : List Sign) → FailsWith fault (read_from (sign ∷ rest) (open_names reader) reader.goes_on k)

-- what stands after `-}`
abbrev pub After : List ℕ → ℕ → Result (Unit {0}) TextFault → Type 0
After text k (Ok _) = read_after (map sign_of (lines_of text)) k ≡ Ok nothing
After text k (Err fault) = FailsWith fault (read_after (map sign_of (lines_of text)) k)

-- What was returned is what reading gives, unless memory ran out.
abbrev pub Returns : Result Block TextFault → Result Rest TextFault → Type 0
Returns (Ok block) read = read ≡ Ok (record { values = []; fields = found_in block })
Returns (Err fault) read = FailsWith fault read
