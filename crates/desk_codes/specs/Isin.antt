-- Reading an ISIN (ISO 6166).
use Rattle.std.specs.Prelude.{◌≡◌, ◌≢◌, ℕ, ◌+◌, List, length, All, take, slice_index, Result, Ok, Err}
use Rattle.std.specs.Str.{byte}
use Rattle.desk_codes.specs.Characters.{IsCapital, IsCodeChar}
use Rattle.desk_codes.specs.CheckDigit.{IsIsin, check_of}
use Rattle.desk_codes.specs.declared.fault.CodeFault.{CodeFault}
use Rattle.desk_codes.specs.declared.fault.CodeFault.TheVariants.{Length, Prefix, Body, Check, Shape}

-- What reading a text gives. Of several faults it is the first in this order.
abbrev pub ReadsIsin : List ℕ → Result (List ℕ) CodeFault → Type 0
ReadsIsin text (Ok isin) = (isin ≡ text) × IsIsin text
ReadsIsin text (Err Length) = length text ≢ 12
ReadsIsin text (Err Prefix) = (length text ≡ 12) × ¬ All IsCapital (take 2 text)
ReadsIsin text (Err Body) = (length text ≡ 12) × All IsCapital (take 2 text) × ¬ All IsCodeChar (take 11 text)
ReadsIsin text (Err (Check digit)) =
    (length text ≡ 12) × All IsCapital (take 2 text) × All IsCodeChar (take 11 text)
    × (digit ≡ check_of (take 11 text)) × (slice_index text 11 ≢ byte "0" + digit)
ReadsIsin text (Err Shape) = ⊥
