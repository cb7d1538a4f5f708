-- What is told of findings as JSON has no float, and what is shown of a text is text.
use Rattle.std.proofs.Common.{◌≡◌, ◌<◌, ◌||◌, ◌==◌, ℕ, Bool, true, false, List, [], ◌∷◌, ◌++◌, length, map, if◌then◌else◌, refl, arith}
use Rattle.std.proofs.lemmas.Bool.Decides.{nat_tests}
use Rattle.std.proofs.lemmas.Str.{encodes-IsAscii}
use Rattle.std.proofs.lemmas.Str.Ascii.{IsAscii-cons, IsAscii-nil}
use Rattle.std.specs.List.{flat_map}
use Rattle.std.specs.Str.{IsAscii, encode_utf8_all}
use Rattle.serde_json.specs.Data.{Data, null, string}
use Rattle.serde_json.specs.View.{items_of}
use Rattle.serde_json.specs.Written.{has_float, items_have_float}
use Rattle.desk_report.specs.RowData.{number_data}
use Rattle.desk_words.specs.Causes.{CauseValue, catalogue}
use Rattle.desk.specs.Finding.{Refused, Why, count_of, front_text, shown}
use Rattle.desk.specs.FindingData.{count_data, count_rows, reference_data, refused_data, report_data, within_data}

-- Texts.

byte_shown : (c : ℕ) → shown c < 128
byte_shown c = grind (arith, nat_tests)

shown_is_ascii : (text : List ℕ) → IsAscii (map shown text)
shown_is_ascii [] = IsAscii-nil
shown_is_ascii (c ∷ text) = IsAscii-cons (shown c) (map shown text) (byte_shown c) (shown_is_ascii text)

-- each byte that is shown is a character
pub shown_as_text : (text : List ℕ) → encode_utf8_all (map shown text) ≡ map shown text
shown_as_text text = encodes-IsAscii (map shown text) (shown_is_ascii text)

-- Floats.

none_or : (is_none : Bool) (d : Data) → has_float d ≡ false → has_float (if is_none then null else d) ≡ false
none_or true d known = refl
none_or false d known = known

within_known : (line : ℕ) (why : Why) → has_float (within_data line why) ≡ false
within_known line why = none_or (why.line == line) (number_data why.line) refl

reference_known : (line : ℕ) (why : Why) → has_float (reference_data line why) ≡ false
reference_known line why = none_or (why.line == line || length why.reference == 0) (string (front_text why.reference)) refl

one_known : (refused : Refused) → has_float (refused_data refused) ≡ false
one_known refused = simp (reference_known refused.found.line refused.why, within_known refused.found.line refused.why)

refused_known : (findings : List Refused) → items_have_float (items_of (map refused_data findings)) ≡ false
refused_known [] = refl
refused_known (refused ∷ findings) = simp (one_known refused, refused_known findings)

-- rows behind others
rows_known : (is_none : Bool) (row : Data) (rows : List Data) → has_float row ≡ false → items_have_float (items_of rows) ≡ false → items_have_float (items_of ((if is_none then [] else row ∷ []) ++ rows)) ≡ false
rows_known true row rows known more = more
rows_known false row rows known more = simp (known, more)

counts_known : (findings : List Refused) (causes : List CauseValue) → items_have_float (items_of (flat_map (λ cause. count_rows findings cause.number) causes)) ≡ false
counts_known findings [] = refl
counts_known findings (cause ∷ causes) =
    let count = count_of cause.number findings in
    rows_known (count == 0) (count_data cause.number count) (flat_map (λ x. count_rows findings x.number) causes) refl (counts_known findings causes)

pub report_known : (requests : ℕ) (findings : List Refused) → has_float (report_data requests findings) ≡ false
report_known requests findings = simp (counts_known findings catalogue, refused_known findings)
