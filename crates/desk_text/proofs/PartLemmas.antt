-- The text of parts is a block of their fields.
use Rattle.std.proofs.Common.{◌≡◌, ◌≢◌, ℕ, ◌+◌, nat_lt, Bool, true, false, not, cond, ◌&&◌, ◌||◌, eqb, List, [], ◌∷◌, ◌++◌, length, map, reverse, codes, All, Ok, Err, refl, sym, ap, ◌∙◌, subst, arith, append_assoc, append-nil}
use Rattle.std.proofs.lemmas.Bool.Decides.{nat_tests}
use Rattle.std.proofs.lemmas.List.{map-append}
use Rattle.std.proofs.lemmas.List.Elements.{All-nil, All-cons, All-append}
use Rattle.std.specs.Prelude.{IsTrue, nat_le}
use Rattle.std.specs.List.{list_all, flat_map}
use Rattle.desk_text.specs.declared.limits.TheConstants.{DEEPEST, LONGEST_NAME}
use Rattle.desk_text.specs.declared.faults.TextFault.TheVariants.{BadNesting}
use Rattle.desk_text.specs.Lines.{lines_of, value_lines, ended, written}
use Rattle.desk_text.specs.BlockGrammar.{is_printable, is_digit, is_capital, is_any_tag, is_name, is_tag, is_first, is_further, opening, closing, field_line}
use Rattle.desk_text.specs.Fields.{Found, IsBlock}
use Rattle.desk_text.specs.Written.{Part, open_part, field_part, close_part, tagged, lines_of_part, are_lines, AreParts, fields_of_parts, fields_written, block_text, finished}
use Rattle.desk_text.specs.Reading.{with_field, read_from, read_lines}
use Rattle.desk_text.specs.Signs.{sign_of}
use Rattle.desk_text.proofs.LinesLemmas.{lines_of-line, strip_return-at}
use Rattle.desk_text.proofs.SignLemmas.{both, opening-sign, closing-sign, field-sign}
use Rattle.desk_text.proofs.ReadingLemmas.{same_name, with_values, read-further, further-signs, block-read}
use Rattle.desk_text.proofs.FaultLemmas.{AreNames}

-- Lines hold no line feed.

abbrev pub IsLine : List ℕ → Type 0
IsLine line = All (λ c. c ≢ 10) line

from_test : (p : ℕ → Bool) → ((c : ℕ) → p c ≡ true → c ≢ 10) → (line : List ℕ) → list_all p line ≡ true → IsLine line
from_test p says [] e = All-nil (λ c. c ≢ 10)
from_test p says (c ∷ line) e =
    let parts = both (p c) (list_all p line) e in
    All-cons (λ c. c ≢ 10) c line (says c parts.0) (from_test p says line parts.1)

printable_line : (c : ℕ) → is_printable c ≡ true → c ≢ 10
printable_line c e = let parts = both (nat_le 32 c) (nat_le c 126) e in grind (arith, nat_tests, parts.0)

digit_line : (c : ℕ) → is_digit c ≡ true → c ≢ 10
digit_line c e = let parts = both (nat_le 48 c) (nat_le c 57) e in grind (arith, nat_tests, parts.0)

capital_line : (c : ℕ) → is_capital c ≡ true → c ≢ 10
capital_line c e = let parts = both (nat_le 65 c) (nat_le c 90) e in grind (arith, nat_tests, parts.0)

either_true : (a b : Bool) (P : Type 0) → (a || b) ≡ true → (a ≡ true → P) → (b ≡ true → P) → P
either_true true b P e x y = x refl
either_true false b P e x y = y e

name_char : (c : ℕ) → (is_capital c || is_digit c) ≡ true → c ≢ 10
name_char c e = either_true (is_capital c) (is_digit c) (c ≢ 10) e (capital_line c) (digit_line c)

name_line : (name : List ℕ) → IsTrue (is_name name) → IsLine name
name_line name e =
    from_test (λ c. is_capital c || is_digit c) name_char name (both (nat_lt 0 (length name) && nat_le (length name) LONGEST_NAME) (list_all (λ c. is_capital c || is_digit c) name) e).1

pub first_is_line : (line : List ℕ) → IsTrue (is_first line) → IsLine line
first_is_line line e = from_test is_printable printable_line line e

further_is_line : (line : List ℕ) → IsTrue (is_further line) → IsLine line
further_is_line [] e = All-nil (λ c. c ≢ 10)
further_is_line (c ∷ line) e = first_is_line (c ∷ line) (both (not (eqb c 58) && not (eqb c 45)) (list_all is_printable (c ∷ line)) e).1

tag_line : (tag : List ℕ) → is_any_tag tag ≡ true → IsLine tag
tag_line [] e = All-nil (λ c. c ≢ 10)
tag_line (a ∷ []) e = absurd (let h = e in cc)
tag_line (a ∷ b ∷ []) e =
    let parts = both (is_digit a) (is_digit b) e in
    All-cons (λ c. c ≢ 10) a (b ∷ []) (digit_line a parts.0) (All-cons (λ c. c ≢ 10) b [] (digit_line b parts.1) (All-nil (λ c. c ≢ 10)))
tag_line (a ∷ b ∷ c ∷ []) e =
    let parts = both (is_digit a && is_digit b) (is_capital c) e in
    let two = both (is_digit a) (is_digit b) parts.0 in
    All-cons (λ c. c ≢ 10) a (b ∷ c ∷ []) (digit_line a two.0) (All-cons (λ c. c ≢ 10) b (c ∷ []) (digit_line b two.1) (All-cons (λ c. c ≢ 10) c [] (capital_line c parts.1) (All-nil (λ c. c ≢ 10))))
tag_line (a ∷ b ∷ c ∷ d ∷ more) e = absurd (let h = e in cc)

any_tag : (tag : List ℕ) → IsTrue (is_tag tag) → is_any_tag tag ≡ true
any_tag tag e = grind arith

opening_line : (name : List ℕ) → IsTrue (is_name name) → IsLine (opening name)
opening_line name e = All-append (λ c. c ≢ 10) (codes ":16R:") name (from_test (λ c. not (eqb c 10)) (λ c h. grind (arith, nat_tests, h)) (codes ":16R:") refl) (name_line name e)

closing_line : (name : List ℕ) → IsTrue (is_name name) → IsLine (closing name)
closing_line name e = All-append (λ c. c ≢ 10) (codes ":16S:") name (from_test (λ c. not (eqb c 10)) (λ c h. grind (arith, nat_tests, h)) (codes ":16S:") refl) (name_line name e)

colon : ◌≢◌ {A = ℕ} 58 10
colon e = omega arith

field_is_line : (tag first : List ℕ) → IsTrue (is_tag tag) → IsTrue (is_first first) → IsLine (field_line tag first)
field_is_line tag first t f =
    All-cons (λ c. c ≢ 10) 58 (tag ++ 58 ∷ first) colon (All-append (λ c. c ≢ 10) tag (58 ∷ first) (tag_line tag (any_tag tag t)) (All-cons (λ c. c ≢ 10) 58 first colon (first_is_line first f)))

abbrev pub AreLines : List (List ℕ) → Type 0
AreLines [] = Unit {0}
AreLines (line ∷ lines) = IsLine line × AreLines lines

lines-append : (a b : List (List ℕ)) → AreLines a → AreLines b → AreLines (a ++ b)
lines-append [] b x y = y
lines-append (line ∷ a) b x y = (x.0, lines-append a b x.1 y)

further_are_lines : (more : List (List ℕ)) → IsTrue (list_all is_further more) → AreLines more
further_are_lines [] e = tt
further_are_lines (line ∷ more) e =
    let parts = both (is_further line) (list_all is_further more) e in
    (further_is_line line parts.0, further_are_lines more parts.1)

tagged_lines : (tag : List ℕ) (lines : List (List ℕ)) → IsTrue (is_tag tag) → IsTrue (are_lines lines) → AreLines (tagged tag lines)
tagged_lines tag [] t e = tt
tagged_lines tag (first ∷ more) t e =
    let parts = both (is_first first) (list_all is_further more) e in
    (field_is_line tag first t parts.0, further_are_lines more parts.1)

part_lines : (parts : List Part) (within : List (List ℕ)) → AreNames within → AreParts within parts → AreLines (flat_map lines_of_part parts)
part_lines [] within names right = tt
part_lines (open_part name ∷ parts) within names right = (opening_line name right.0, part_lines parts (name ∷ within) (right.0, names) right.2)
part_lines (field_part tag value ∷ parts) within names right =
    lines-append (tagged tag (value_lines value)) (flat_map lines_of_part parts) (tagged_lines tag (value_lines value) right.0 right.1) (part_lines parts within names right.2)
part_lines (close_part name ∷ parts) [] names right = absurd right
part_lines (close_part name ∷ parts) (top ∷ within) names right =
    (closing_line name (ap is_name right.0 ∙ names.0), part_lines parts within names.1 right.1)

-- The lines of a text that was written.

pub one_line : (line rest : List ℕ) → IsLine line → lines_of (ended line ++ rest) ≡ line ∷ lines_of rest
one_line line rest is =
    let with_return : IsLine (line ++ 13 ∷ []) = All-append (λ c. c ≢ 10) line (13 ∷ []) is (from_test (λ c. not (eqb c 10)) (λ c h. grind (arith, nat_tests, h)) (13 ∷ []) refl) in
    ap lines_of (append_assoc line (13 ∷ 10 ∷ []) rest ∙ sym (append_assoc line (13 ∷ []) (10 ∷ rest)))
    ∙ lines_of-line (line ++ 13 ∷ []) rest with_return ∙ ap (λ z. z ∷ lines_of rest) (strip_return-at line)

written-lines : (lines : List (List ℕ)) (rest : List ℕ) → AreLines lines → lines_of (written lines ++ rest) ≡ lines ++ lines_of rest
written-lines [] rest are = refl
written-lines (line ∷ lines) rest are =
    ap lines_of (append_assoc (ended line) (written lines) rest) ∙ one_line line (written lines ++ rest) are.0 ∙ ap (λ z. line ∷ z) (written-lines lines rest are.1)

-- What parts write is read.

field-read : (tag : List ℕ) (lines : List (List ℕ)) (rest : List (List ℕ)) (within : List (List ℕ)) (goes_on : Bool) (k : ℕ) (found : List Found) → IsTrue (is_tag tag) → IsTrue (are_lines lines)
    → read_from (map sign_of rest) within true (k + length lines) ≡ Ok (record { values = []; fields = found })
    → read_from (map sign_of (tagged tag lines ++ rest)) within goes_on k ≡ Ok (record { values = []; fields = record { path = reverse within; tag = tag; values = lines; line = k } ∷ found })
field-read tag [] rest within goes_on k found t e later = absurd (let h = e in cc)
field-read tag (first ∷ more) rest within goes_on k found t e later =
    let parts = both (is_first first) (list_all is_further more) e in
    let x : Found = record { path = reverse within; tag = tag; values = first ∷ []; line = k } in
    ap (λ s. read_from (s ∷ map sign_of (more ++ rest)) within goes_on k) (field-sign tag first t parts.0)
    ∙ ap (λ z. with_field x (read_from z within true (k + 1))) (map-append sign_of more rest ∙ ap (λ z. z ++ map sign_of rest) (further-signs more parts.1))
    ∙ ap (with_field x) (read-further more (map sign_of rest) within (k + 1) (k + length (first ∷ more)) (omega arith) ∙ ap (with_values more) later)
    ∙ ap (λ (z : List (List ℕ)). Ok (record { values = []; fields = record { path = reverse within; tag = tag; values = first ∷ z; line = k } ∷ found })) (append-nil more)

parts-read : (parts : List Part) (within : List (List ℕ)) (goes_on : Bool) (k : ℕ) → AreNames within → AreParts within parts
    → read_from (map sign_of (flat_map lines_of_part parts ++ codes "-}" ∷ [])) within goes_on k ≡ Ok (record { values = []; fields = fields_of_parts within k parts })
parts-read [] [] goes_on k names right = refl
parts-read [] (name ∷ within) goes_on k names right = absurd (let h = right in cc)
parts-read (open_part name ∷ parts) within goes_on k names right =
    let rest = map sign_of (flat_map lines_of_part parts ++ codes "-}" ∷ []) in
    let fits : nat_lt (length within) DEEPEST ≡ true = let room = right.1 in grind (arith, nat_tests) in
    ap (λ s. read_from (s ∷ rest) within goes_on k) (opening-sign name right.0)
    ∙ ap (λ b. cond b (read_from rest (name ∷ within) false (k + 1)) (Err (BadNesting k))) fits
    ∙ parts-read parts (name ∷ within) false (k + 1) (right.0, names) right.2
parts-read (field_part tag value ∷ parts) within goes_on k names right =
    ap (λ z. read_from (map sign_of z) within goes_on k) (append_assoc (tagged tag (value_lines value)) (flat_map lines_of_part parts) (codes "-}" ∷ []))
    ∙ field-read tag (value_lines value) (flat_map lines_of_part parts ++ codes "-}" ∷ []) within goes_on k (fields_of_parts within (k + length (value_lines value)) parts) right.0 right.1
    (parts-read parts within true (k + length (value_lines value)) names right.2)
parts-read (close_part name ∷ parts) [] goes_on k names right = absurd right
parts-read (close_part name ∷ parts) (top ∷ within) goes_on k names right =
    let rest = map sign_of (flat_map lines_of_part parts ++ codes "-}" ∷ []) in
    ap (λ z. read_from (sign_of (closing z) ∷ rest) (top ∷ within) goes_on k) right.0
    ∙ ap (λ s. read_from (s ∷ rest) (top ∷ within) goes_on k) (closing-sign top names.0)
    ∙ ap (λ b. cond b (read_from rest within false (k + 1)) (Err (BadNesting k))) (same_name top)
    ∙ parts-read parts within false (k + 1) names.1 right.1

-- What is written is a block of what was written.
pub parts_block : (parts : List Part) → AreParts [] parts → IsBlock (block_text parts) (fields_written parts)
parts_block parts right =
    let lines = flat_map lines_of_part parts in
    let first : lines_of (written (codes "{4:" ∷ []) ++ (written lines ++ codes "-}")) ≡ codes "{4:" ∷ lines_of (written lines ++ codes "-}") = refl in
    let are : lines_of (block_text parts) ≡ codes "{4:" ∷ (lines ++ codes "-}" ∷ []) =
    ap (λ z. codes "{4:" ∷ z) (written-lines lines (codes "-}") (part_lines parts [] tt right)) in
    let read : read_lines (lines_of (block_text parts)) ≡ Ok (record { values = []; fields = fields_written parts }) = ap read_lines are ∙ parts-read parts [] false 2 tt right in
    let b = block-read (lines_of (block_text parts)) (record { values = []; fields = fields_written parts }) read in
    record { items = b.items; tree = b.tree; fields = b.fields }

pub finished-block : (text written_so_far : List ℕ) (parts : List Part) → text ≡ finished written_so_far → AreParts [] parts → written_so_far ≡ written (flat_map lines_of_part parts) → IsBlock text (fields_written parts)
finished-block text so_far parts e right same =
    subst (λ (z : List ℕ). IsBlock z (fields_written parts)) (sym (e ∙ ap finished same)) (parts_block parts right)
