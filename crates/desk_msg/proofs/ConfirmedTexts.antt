-- The texts of an instruction that was read are printable, and its numbers are read back.
use Rattle.std.proofs.Common.{◌≡◌, ℕ, ◌<◌, ◌≤◌, ◌-◌, ◌%◌, ◌^◌, ◌&&◌, Bool, true, false, if◌then◌else◌, List, [], ◌∷◌, ◌++◌, length, sym, ◌∙◌, ap, inl, inr, All, take, drop, Ok, subst, arith, get_or, length-append, lit≤, refl}
use Rattle.std.specs.List.{list_all}
use Rattle.std.proofs.lemmas.List.Elements.{All-weaker, All-take, All-append, All-cons, All-nil}
use Rattle.std.proofs.lemmas.List.Folds.{list_all-append}
use Rattle.std.proofs.lemmas.List.{drop_all}
use Rattle.std.proofs.lemmas.Nat.{mod_below}
use Rattle.std.proofs.Math.Seq.{drop-cons}
use Rattle.desk_codes.specs.Characters.{IsPrintable, IsCodeChar, IsDigit}
use Rattle.desk_codes.specs.Number.{written_number, ReadsNumber, SpellsNumber}
use Rattle.desk_codes.specs.Currency.{letters_of}
use Rattle.desk_codes.specs.declared.currency.Ccy.{Ccy}
use Rattle.desk_codes.proofs.CurrencyLemmas.{agree}
use Rattle.desk_codes.specs.Day.{IsDay}
use Rattle.desk_codes.specs.CheckDigit.{IsIsin, check_of, weighed_sum, expanded}
use Rattle.desk_codes.specs.Bic.{ReadsBic, party_of}
use Rattle.desk_codes.proofs.CharacterLemmas.{All-split}
use Rattle.desk_codes.proofs.BicLemmas.{shape_codes}
use Rattle.desk_codes.proofs.NumberLemmas.{more_digits}
use Rattle.desk_codes.proofs.WrittenSpells.{written_spells}
use Rattle.desk_codes.proofs.SpellingLaws.{written_shortest}
use Rattle.desk_text.specs.BlockGrammar.{is_printable}
use Rattle.desk_msg.proofs.PrintableLemmas.{printable_text}

codes_printable : (text : List ℕ) → All IsCodeChar text → All IsPrintable text
codes_printable text all = All-weaker IsCodeChar IsPrintable (λ c h. elim h [ inl d ↦ (omega arith, omega arith) | inr l ↦ (omega arith, omega arith) ]) text all

digits_printable : (text : List ℕ) → All IsDigit text → All IsPrintable text
digits_printable text all = All-weaker IsDigit IsPrintable (λ c h. (omega arith, omega arith)) text all

pub code_text : (text : List ℕ) → All IsCodeChar text → list_all is_printable text ≡ true
code_text text all = printable_text text (codes_printable text all)

pub day_text : (day : List ℕ) → IsDay day → list_all is_printable day ≡ true
day_text day is = printable_text day (digits_printable day is.digits)

pub isin_text : (isin : List ℕ) → IsIsin isin → list_all is_printable isin ≡ true
isin_text isin is =
    let digit : check_of (take 11 isin) < 10 = mod_below (10 - weighed_sum (expanded (take 11 isin)) % 10) 10 (omega arith) in
    let last : IsPrintable (get_or isin 11 0) = (omega (arith, is.check), omega (arith, is.check)) in
    let within : 11 < length isin = omega (arith, is.len) in
    let tail : drop 11 isin ≡ get_or isin 11 0 ∷ [] = drop-cons isin 11 0 within ∙ ap (λ z. get_or isin 11 0 ∷ z) (drop_all 12 isin (omega (arith, is.len))) in
    printable_text isin
    (All-split IsPrintable 11 isin (codes_printable (take 11 isin) is.body)
    (subst (All IsPrintable) (sym tail) (All-cons IsPrintable (get_or isin 11 0) [] last (All-nil IsPrintable))))

party_either : (b : Bool) (text : List ℕ) → All IsCodeChar text → All IsCodeChar (if b then take 8 text else text)
party_either true text all = All-take IsCodeChar 8 text all
party_either false text all = all

pub party_text : (text bic : List ℕ) → ReadsBic text (Ok bic) → list_all is_printable bic ≡ true
party_text text bic reads =
    let all : All IsCodeChar (party_of text) = party_either _ text (shape_codes text reads.2) in
    code_text bic (subst (All IsCodeChar) (sym reads.0) all)

-- a number that was read is small
number_small : (text : List ℕ) (value d : ℕ) → d ≤ 3 → ReadsNumber text d (Ok value) → value < 2 ^ 64
number_small text value d few reads =
    let s = reads.0 in
    let short : length s.whole ≤ 14 = omega (arith, length-append s.whole (44 ∷ s.part), ap length s.shaped.split, reads.1) in
    let below = more_digits s.whole s.part d d s.shaped.whole_digits s.shaped.part_digits short few (omega arith) in
    omega (arith, below, s.is)

-- a number that was read is read back from its written form
pub number_back : (text : List ℕ) (value d : ℕ) → d ≤ 3 → ReadsNumber text d (Ok value) → ReadsNumber (written_number value d) d (Ok value)
number_back text value d few reads =
    let small = number_small text value d few reads in
    (written_spells value d small few, omega (arith, written_shortest text value d small few reads.0, reads.1), reads.2)

pub spelled_text : (value d : ℕ) → SpellsNumber (written_number value d) value d → list_all is_printable (written_number value d) ≡ true
spelled_text value d s =
    let front : All IsPrintable s.whole = digits_printable s.whole s.shaped.whole_digits in
    let back : All IsPrintable (44 ∷ s.part) = All-cons IsPrintable 44 s.part (lit≤ tt, lit≤ tt) (digits_printable s.part s.shaped.part_digits) in
    printable_text (written_number value d) (subst (All IsPrintable) (sym s.shaped.split) (All-append IsPrintable s.whole (44 ∷ s.part) front back))

pub number_text : (value d : ℕ) → ReadsNumber (written_number value d) d (Ok value) → list_all is_printable (written_number value d) ≡ true
number_text value d reads = spelled_text value d reads.0

letters_printable : (ccy : Ccy) → list_all is_printable (letters_of ccy) ≡ true
letters_printable = agree (λ ccy. list_all is_printable (letters_of ccy)) (λ ccy. true) refl

pub amount_printable : (ccy : Ccy) (number : List ℕ) → list_all is_printable number ≡ true → list_all is_printable (letters_of ccy ++ number) ≡ true
amount_printable ccy number p = list_all-append is_printable (letters_of ccy) number ∙ ap (λ b. b && list_all is_printable number) (letters_printable ccy) ∙ p
