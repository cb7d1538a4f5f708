-- What a text that has a form can't be else.
use Rattle.std.proofs.Common.{◌≡◌, ℕ, ◌<◌, ◌≤◌, ◌^◌, ◌==◌, if◌then◌else◌, List, [], ◌∷◌, ◌++◌, length, take, drop, get_or, sym, ◌∙◌, ap, subst, refl, inl, inr, arith, length-append, Option, Some, None, Ok, Err}
use Rattle.std.proofs.lemmas.Grind.{common_steps}
use Rattle.std.proofs.Math.Seq.{take-append_seam, drop-append_seam}
use Rattle.desk_codes.specs.Number.{IsExact, ReadsNumber, written_number}
use Rattle.desk_codes.specs.declared.number.NumberFault.{NumberFault}
use Rattle.desk_codes.specs.declared.number.NumberFault.TheVariants.{Shape, TooLong, Decimals, Zero}
use Rattle.desk_codes.specs.Currency.{letters_of, decimals_of}
use Rattle.desk_codes.specs.declared.currency.Ccy.{Ccy}
use Rattle.desk_codes.proofs.CurrencyLemmas.{known_by_letters, three_letters}
use Rattle.desk_codes.proofs.NumberLemmas.{one_shape, digits_no_comma}
use Rattle.desk_codes.proofs.SpellingLaws.{one_value_each, written_shortest}
use Rattle.desk_codes.specs.Day.{IsDay}
use Rattle.desk_msg.specs.declared.instruction.Kind.{Kind}
use Rattle.desk_msg.specs.declared.instruction.Kind.TheVariants.{Unit as Units, FaceAmount}
use Rattle.desk_msg.specs.Profile.{IsCode, IsFunctionText, IsTimed, IsAmountText, IsQuantityText, code_of_kind}
use Rattle.desk_msg.specs.Named.{IsFound, code_itself}

-- two splits of a text whose fronts are equally long are one
pub one_cut : (a b s t : List ℕ) → length a ≡ length b → a ++ s ≡ b ++ t → (a ≡ b) × (s ≡ t)
one_cut a b s t n e =
    let fronts : take (length a) (a ++ s) ≡ take (length b) (b ++ t) = (ap (take (length a)) e ∙ ap (λ k. take k (b ++ t)) n) in
    let backs : drop (length a) (a ++ s) ≡ drop (length b) (b ++ t) = (ap (drop (length a)) e ∙ ap (λ k. drop k (b ++ t)) n) in
    (sym (take-append_seam a s) ∙ fronts ∙ take-append_seam b t, sym (drop-append_seam a s) ∙ backs ∙ drop-append_seam b t)

drop_whole : (text : List ℕ) → length text ≡ 4 → drop 4 text ≡ []
drop_whole text n = grind (arith, common_steps)

pub one_cut_back : (a b s t : List ℕ) → length s ≡ length t → a ++ s ≡ b ++ t → (a ≡ b) × (s ≡ t)
one_cut_back a b s t n e = one_cut a b s t (omega (arith, length-append a s, length-append b t, ap length e)) e

-- a number that is read has no fault
pub number_excludes : (text : List ℕ) (d value : ℕ) (fault : NumberFault) → ReadsNumber text d (Err fault) → ReadsNumber text d (Ok value) → ⊥
number_excludes text d value Shape none read = none read.0.whole read.0.part read.0.shaped
number_excludes text d value TooLong long read = omega (arith, long.3, read.1)
number_excludes text d value Decimals bad read =
    let same = one_shape text bad.0 bad.1 read.0.whole read.0.part (bad.2.split, digits_no_comma bad.0 bad.2.whole_digits) read.0.shaped in
    let P : List ℕ → Type 0 = IsExact d in bad.4 (subst P (sym same.1) read.0.exact)
number_excludes text d value Zero zero read =
    let same : 0 ≡ value = one_value_each text 0 value d zero.0 read.0 in omega (arith, same, read.2)

-- what was read is written in at most 15 characters
pub written_fits : (text : List ℕ) (d value : ℕ) → value < 2 ^ 64 → d ≤ 3 → ReadsNumber text d (Ok value) → length (written_number value d) ≤ 15
written_fits text d value small few read =
    let shorter : length (written_number value d) ≤ length text = written_shortest text value d small few read.0 in omega (arith, shorter, read.1)

-- an amount is of one currency and has one number
pub one_amount_text : (a b : Ccy) (m n : List ℕ) → letters_of a ++ m ≡ letters_of b ++ n → (a ≡ b) × (m ≡ n)
one_amount_text a b m n e =
    let parts = one_cut (letters_of a) (letters_of b) m n (three_letters a ∙ sym (three_letters b)) e in (known_by_letters a b parts.0, parts.1)

-- where the number of an amount has a fault, the text is no amount
pub amount_excludes : (text number : List ℕ) (ccy : Ccy) (fault : NumberFault) → text ≡ letters_of ccy ++ number → ReadsNumber number (decimals_of ccy) (Err fault) → (y : Ccy × ℕ) → IsAmountText text y.0 y.1 → ⊥
amount_excludes text number ccy fault split bad y h =
    let same = one_amount_text ccy y.0 number h.0 (sym split ∙ h.1) in
    let P : List ℕ → Type 0 = λ t. ReadsNumber t (decimals_of y.0) (Ok y.1) in
    let Q : Ccy → Type 0 = λ c. ReadsNumber number (decimals_of c) (Err fault) in
    number_excludes number (decimals_of y.0) y.1 fault (subst Q same.0 bad) (subst P (sym same.1) h.2)

four_letters : (kind : Kind) → length (code_of_kind kind) ≡ 4
four_letters Units = refl
four_letters FaceAmount = refl

kind_of : ℕ → Kind
kind_of c = if c == 85 then Units else FaceAmount

kind_again : (kind : Kind) → kind_of (get_or (code_of_kind kind) 0 0) ≡ kind
unfolding kind_of
kind_again Units = refl
kind_again FaceAmount = refl

-- a quantity is counted in one way and has one number
pub one_quantity_text : (a b : Kind) (m n : List ℕ) → code_of_kind a ++ 47 ∷ m ≡ code_of_kind b ++ 47 ∷ n → (a ≡ b) × (m ≡ n)
one_quantity_text a b m n e =
    let parts = one_cut (code_of_kind a) (code_of_kind b) (47 ∷ m) (47 ∷ n) (four_letters a ∙ sym (four_letters b)) e in
    let backs : 47 ∷ m ≡ 47 ∷ n = parts.1 in
    (sym (kind_again a) ∙ ap (λ letters. kind_of (get_or letters 0 0)) parts.0 ∙ kind_again b, cc)

-- where the number of a quantity has a fault, the text is no quantity
pub quantity_excludes : (text number : List ℕ) (kind : Kind) (fault : NumberFault) → text ≡ code_of_kind kind ++ 47 ∷ number → ReadsNumber number 0 (Err fault) → (y : Kind × ℕ) → IsQuantityText text y.0 y.1 → ⊥
quantity_excludes text number kind fault split bad y h =
    let same = one_quantity_text kind y.0 number h.0 (sym split ∙ h.1) in
    let P : List ℕ → Type 0 = λ t. ReadsNumber t 0 (Ok y.1) in
    number_excludes number 0 y.1 fault bad (subst P (sym same.1) h.2)

-- a day is found before the time exactly where it is found in what stands before it
pub day_found : (text front : List ℕ) (r : Option (List ℕ)) → IsTimed text front → IsFound code_itself (λ day. IsDay day × (front ≡ day)) r → IsFound code_itself (λ day. IsDay day × IsTimed text day) r
day_found text front (Some day) timed found = let P : List ℕ → Type 0 = IsTimed text in (found.0, subst P found.1 timed)
day_found text front None timed found = λ y h.
    let same = one_cut_back front y timed.0 h.1.0 (timed.1 ∙ sym h.1.1) (sym timed.3 ∙ h.1.3) in found y (h.0, same.0)

-- where no four letters or digits stand behind the slash, the text is no function
pub function_excludes : (text sub : List ℕ) → drop 4 text ≡ 47 ∷ sub → (IsCode 4 sub → ⊥) → (y : List ℕ) → IsFunctionText text y → ⊥
function_excludes text sub split bad y h = elim h.1 [
  | inl e ↦
      let none : drop 4 text ≡ [] = (ap (drop 4) e ∙ drop_whole y h.0.0) in
      let both : 47 ∷ sub ≡ [] = sym split ∙ none in cc
  | inr (further, code, e) ↦
      let backs : drop 4 text ≡ 47 ∷ further = (ap (drop 4) e ∙ ap (λ n. drop n (y ++ 47 ∷ further)) (sym h.0.0) ∙ drop-append_seam y (47 ∷ further)) in
      let both : 47 ∷ sub ≡ 47 ∷ further = sym split ∙ backs in
      let same : sub ≡ further = cc in
      let P : List ℕ → Type 0 = λ t. IsCode 4 t in bad (subst P (sym same) code)
]
