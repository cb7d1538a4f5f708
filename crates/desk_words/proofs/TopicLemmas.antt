-- Texts that spell numbers, and rows that are found by their values.
use Rattle.std.proofs.Common.{◌≡◌, ◌==◌, ◌∙◌, ◌<◌, ◌^◌, ◌&&◌, ℕ, Bool, true, false, List, [], ◌∷◌, Option, Some, None, option_map, cond, find, map, length, refl, nat_lt, sym, ap, ap₂, arith, subst}
use Rattle.std.specs.List.{list_all}
use Rattle.std.specs.Str.{all_ascii_digits}
use Rattle.std.specs.Str.Parse.{IsNumeral, digits_value, without_leading_plus}
use Rattle.std.specs.Char.{is_ascii_digit}
use Rattle.std.proofs.lemmas.Bool.{eqb-true}
use Rattle.std.proofs.lemmas.Grind.{common_steps}
use Rattle.std.proofs.lemmas.Str.Parse.{IsNumeralModel, numerals_by_value, tells_all_ascii_digits}
use Rattle.std.specs.Borrow.{Bor}
use Rattle.std.specs.Prelude.{IsSome}
use Rattle.desk_msg.specs.Words.{letters_of_word}
use Rattle.desk_msg.specs.declared.fault.Word.{Word}
use Rattle.desk_msg.specs.declared.fault.Word.TheVariants.{Date, Deag, Eset, Field19A, Field23G, Field35B, Field36B, Prev, Pset, Reag, Rela, Safe, Seme, Setr}
use Rattle.desk_words.specs.Causes.{CauseValue, catalogue, value_of_cause}
use Rattle.desk_words.specs.Topics.{IsTold, detail_among, either_text, explained_alone, explained_with, fields, is_numeral, other_among, other_text, others, spelled_among, spells, text_with, whole_text}

-- what is found among rows is found among their values

module _ {R V : Type 0} (value : R → V) (test : V → Bool) where
  chosen : (b : Bool) (row : R) (r : Option R) (s : Option V) → option_map value r ≡ s → option_map value (cond b (Some row) r) ≡ cond b (Some (value row)) s
  chosen true row r s same = refl
  chosen false row r s same = same

  found_value : (rows : List R) → option_map value (find (λ row. test (value row)) rows) ≡ find test (map value rows)
  found_value [] = refl
  found_value (row ∷ rows) = chosen (test (value row)) row _ _ (found_value rows)

  as_it_is : (r : Option R) → option_map value r ≡ option_map value (option_map (λ row. row) r)
  as_it_is None = refl
  as_it_is (Some row) = refl

  pub found_so : (rows : List R) (r : Option R) → option_map (λ row. row) r ≡ find (λ row. test (value row)) rows → option_map value r ≡ find test (map value rows)
  found_so rows r is = as_it_is r ∙ ap (option_map value) is ∙ found_value rows

-- a text of digits spells a number

pub all_digits : (text : List ℕ) → list_all is_ascii_digit text ≡ all_ascii_digits text
all_digits [] = refl
all_digits (c ∷ text) = ap (λ rest. is_ascii_digit c && rest) (all_digits text)

digits : IsNumeralModel (λ ds. all_ascii_digits ds ≡ true) (digits_value 10)
digits = numerals_by_value (λ ds. all_ascii_digits ds ≡ true) tells_all_ascii_digits

numeral_of : (c : ℕ) (text : List ℕ) → is_numeral (c ∷ text) ≡ all_ascii_digits (c ∷ text)
numeral_of c text = ap (λ (b : Bool). b && all_ascii_digits (c ∷ text)) some
  where
    some : nat_lt 0 (length (c ∷ text)) ≡ true
    some = grind (arith, common_steps)

pub numeral_if : (text : List ℕ) → (length text == 0) ≡ false → is_numeral text ≡ all_ascii_digits text
numeral_if [] some = cc
numeral_if (c ∷ text) some = numeral_of c text

numeral_told : (ds : List ℕ) → IsNumeral 10 ds → is_numeral ds ≡ true
numeral_told [] numeral = absurd (omega (arith, numeral.0))
numeral_told (c ∷ ds) numeral = numeral_of c ds ∙ digits.from (c ∷ ds) numeral.1

numeral_by : (ds : List ℕ) → is_numeral ds ≡ true → IsNumeral 10 ds
numeral_by [] is = cc
numeral_by (c ∷ ds) is = (omega arith, digits.to (c ∷ ds) (sym (numeral_of c ds) ∙ is))

pub spelled : (number read : ℕ) (text : List ℕ) → IsNumeral 10 (without_leading_plus text) → read ≡ digits_value 10 (without_leading_plus text) → (read == number) ≡ spells number text
spelled number read text numeral value = ap₂ (λ (b : Bool) (n : ℕ). b && (n == number)) (sym (numeral_told (without_leading_plus text) numeral)) value

pub unspelled : (number : ℕ) (text : List ℕ) → number < 2 ^ 8 → (IsNumeral 10 (without_leading_plus text) × (digits_value 10 (without_leading_plus text) < 2 ^ 8) → ⊥) → false ≡ spells number text
unspelled number text small other = go (is_numeral ds) refl (digits_value 10 ds == number) refl
  where
    ds : List ℕ
    ds = without_leading_plus text

    go : (b : Bool) → is_numeral ds ≡ b → (e : Bool) → (digits_value 10 ds == number) ≡ e → false ≡ (b && e)
    go false is e same = refl
    go true is false same = refl
    go true is true same = absurd (other (numeral_by ds is, subst (λ n. n < 2 ^ 8) (sym (eqb-true (digits_value 10 ds) number same)) small))

-- what is told of a number that was found, or was not

abbrev CauseRow : Type 0
CauseRow = ℕ × Bor (List ℕ) × Bor (List ℕ)

module _ (key : List ℕ) (found : Option CauseRow) (same : option_map value_of_cause found ≡ spelled_among key catalogue) where
  pub cause_alone : (cause : CauseRow) → found ≡ Some cause → Some (whole_text (value_of_cause cause)) ≡ explained_alone key
  cause_alone cause is = ap (λ (s : Option CauseValue). either_text s (other_among key others)) (sym (ap (option_map value_of_cause) is) ∙ same)

  pub other_alone : (told : Option (List ℕ)) → found ≡ None → told ≡ option_map other_text (other_among key others) → told ≡ explained_alone key
  other_alone told is text = text ∙ ap (λ (s : Option CauseValue). either_text s (other_among key others)) (sym (ap (option_map value_of_cause) is) ∙ same)

  pub told_with : (name : List ℕ) (cause : CauseRow) (told : Option (List ℕ)) → found ≡ Some cause → told ≡ text_with name (Some (value_of_cause cause)) → told ≡ explained_with key name
  told_with name cause told is text = text ∙ ap (text_with name) (sym (ap (option_map value_of_cause) is) ∙ same)

  pub none_with : (name : List ℕ) → found ≡ None → None ≡ explained_with key name
  none_with name is = ap (text_with name) (sym (ap (option_map value_of_cause) is) ∙ same)

-- each word of a field that is told is explained
pub word_explained : (word : Word) → IsTold word → IsSome (detail_among (letters_of_word word) fields)
unfolding fields
word_explained Field23G is = refl
word_explained Seme is = refl
word_explained Prev is = refl
word_explained Date is = refl
word_explained Field35B is = refl
word_explained Field36B is = refl
word_explained Safe is = refl
word_explained Setr is = refl
word_explained Pset is = refl
word_explained Deag is = refl
word_explained Reag is = refl
word_explained Field19A is = refl
word_explained Rela is = absurd is
word_explained Eset is = absurd is
