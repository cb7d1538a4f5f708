-- No ISIN is below the least, and so no position.
use Rattle.std.proofs.Common.{◌≡◌, ℕ, zero, suc, ◌+◌, ◌≤◌, inl, inr, true, List, [], ◌∷◌, length, take, Option, Some, None, refl, ap, sym, ◌∙◌, subst, arith}
use Rattle.std.specs.Prelude.{All, is_some, option_map, slice_index}
use Rattle.std.specs.Ordering.{nat_cmp}
use Rattle.std.specs.declared.cmp.Ordering.{Ordering}
use Rattle.std.specs.declared.cmp.Ordering.TheVariants.{Less, Equal, Greater}
use Rattle.desk_codes.specs.Characters.{IsCodeChar}
use Rattle.desk_codes.specs.CheckDigit.{IsIsin, check_of}
use Rattle.desk_register.specs.Looked.{IsLess}
use Rattle.desk_register.proofs.CaseLemmas.{by_bool}
use Rattle.memory_rows.specs.declared.balance_key.BalanceKey.{BalanceKey}
use Rattle.memory_rows.specs.declared.balance_key.BalanceKey.TheVariants.{Position}
use Rattle.memory_rows.specs.BalanceKeys.{HasNoneBelow, IsFromLeast, is_key, least_isin, put_back, with_record}
use Rattle.memory_rows.proofs.BalanceLemmas.{key_true}

pub by_order : {G : Type 0} (o : Ordering) → (o ≡ Less → G) → (o ≡ Equal → G) → (o ≡ Greater → G) → G
by_order Less less equal greater = less refl
by_order Equal less equal greater = equal refl
by_order Greater less equal greater = greater refl

-- a text that is less begins with a lesser character, or is less behind the same
not_less : (c l : ℕ) (cs ls : List ℕ) → l ≤ c → (c ≡ l → IsLess cs ls → ⊥) → IsLess (c ∷ cs) (l ∷ ls) → ⊥
not_less c l cs ls le behind less =
    by_order (nat_cmp c l)
    (λ e. absurd (grind arith))
    (λ e. let same : c ≡ l = grind arith in behind same (rw e at less))
    (λ e. let bad = rw e at less in cc)

-- so many times the character 0, and the check digit 6 behind
abbrev zeros : ℕ → List ℕ
zeros zero = []
zeros (suc n) = 48 ∷ zeros n

abbrev zeros_and_six : ℕ → List ℕ
zeros_and_six zero = 54 ∷ []
zeros_and_six (suc n) = 48 ∷ zeros_and_six n

from_zero : (c : ℕ) → IsCodeChar c → 48 ≤ c
from_zero c (inl digit) = digit.0
from_zero c (inr capital) = let le = capital.0 in omega arith

body_not_less : (n : ℕ) (cs : List ℕ) → length cs ≡ suc n → All IsCodeChar (take n cs) → (take n cs ≡ zeros n → 54 ≤ slice_index cs n) → IsLess cs (zeros_and_six n) → ⊥
body_not_less zero [] len all last less = absurd (omega arith)
body_not_less zero (c ∷ []) len all last less = not_less c 54 [] [] (last refl) (λ e bad. cc) less
body_not_less zero (c ∷ d ∷ cs) len all last less = absurd (omega arith)
body_not_less (suc n) [] len all last less = absurd (omega arith)
body_not_less (suc n) (c ∷ cs) len all last less =
    not_less c 48 cs (zeros_and_six n) (from_zero c (all 0 0 (omega arith)))
    (λ e. body_not_less n cs (omega arith) (λ k d lt. all (suc k) d (omega arith)) (λ same. last ((λ i. e i ∷ same i))))
    less

-- the check digit of the least body is 6
last_of : (a b : ℕ) (rest : List ℕ) → IsIsin (a ∷ b ∷ rest) → a ≡ 65 → b ≡ 65 → take 9 rest ≡ zeros 9 → 54 ≤ slice_index rest 9
last_of a b rest isin first second same =
    let digit : slice_index rest 9 ≡ 54 = isin.check ∙ (λ i. 48 + check_of (first i ∷ second i ∷ same i)) in
    omega (arith, digit)

isin_not_less : (text : List ℕ) → IsIsin text → IsLess text least_isin → ⊥
isin_not_less [] isin less = let len = isin.len in absurd (omega arith)
isin_not_less (a ∷ []) isin less = let len = isin.len in absurd (omega arith)
isin_not_less (a ∷ b ∷ rest) isin less =
    let len : length (a ∷ b ∷ rest) ≡ 12 = isin.len in
    let first = isin.prefix 0 0 (omega arith) in
    let second = isin.prefix 1 0 (omega arith) in
    not_less a 65 (b ∷ rest) (65 ∷ zeros_and_six 9) first.0
    (λ e. not_less b 65 rest (zeros_and_six 9) second.0
    (λ f. body_not_less 9 rest (omega arith) (λ k d lt. isin.body (suc (suc k)) d (omega arith)) (last_of a b rest isin e f)))
    less

pub position_from_least : (key : BalanceKey) (account isin : List ℕ) → key ≡ Position account isin → IsIsin isin → IsFromLeast key
position_from_least key account isin is valid = λ a i e less.
    let same : i ≡ isin = let both : Position a i ≡ Position account isin = sym e ∙ is in cc in
    isin_not_less isin valid (subst (λ z. IsLess z least_isin) same less)

-- what is recorded, or put back

pub floor_recorded : (balances : BalanceKey → Option ℕ) (key : BalanceKey) (amount : Option ℕ) → IsFromLeast key → HasNoneBelow balances → HasNoneBelow (with_record balances key amount)
floor_recorded balances key amount from floor = record {
  each = λ account isin there.
      by_bool (is_key key (Position account isin))
      (λ t. from account isin (key_true key (Position account isin) t))
      (λ f. floor.each account isin (rw f at there));
}

pub floor_back : (balances : BalanceKey → Option ℕ) (key : BalanceKey) (was : Option ℕ) → HasNoneBelow balances → HasNoneBelow (put_back balances key was)
floor_back balances key None floor = record {
  each = λ account isin there.
      by_bool (is_key key (Position account isin))
      (λ t. let bad = rw t at there in absurd (cc))
      (λ f. floor.each account isin (rw f at there));
}
floor_back balances key (Some was) floor = record {
  each = λ account isin there.
      by_bool (is_key key (Position account isin))
      (λ t. floor.each account isin (mapped (balances key) was (rw t at there) (ap balances (key_true key (Position account isin) t))))
      (λ f. floor.each account isin (rw f at there));
} where
  mapped : (o : Option ℕ) (w : ℕ) {p : Option ℕ} → is_some (option_map (λ amount. w) o) ≡ true → o ≡ p → is_some p ≡ true
  mapped None w some e = absurd (cc)
  mapped (Some x) w some e = ap is_some (sym e)

pub floored_by : (old new : BalanceKey → Option ℕ) (key : BalanceKey) (amount : Option ℕ) → IsFromLeast key → new ≡ with_record old key amount → HasNoneBelow old → HasNoneBelow new
floored_by old new key amount from is floor = subst HasNoneBelow (sym is) (floor_recorded old key amount from floor)
