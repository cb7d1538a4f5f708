-- Balances by their keys.
use Rattle.std.proofs.Common.{◌≡◌, ◌≢◌, ℕ, zero, suc, true, false, eqb, Option, Some, None, refl, ap, sym, ◌∙◌, arith}
use Rattle.std.specs.Prelude.{◌&&◌, bytes_eq, cond, option_map, unwrap_or, Result, Ok, Err, OnOk}
use Rattle.std.specs.Cmp.{tied_then}
use Rattle.std.specs.Ordering.{is_eq}
use Rattle.std.proofs.lemmas.Bool.{and_parts, and_from}
use Rattle.std.proofs.lemmas.Bool.Decides.{nat_tests}
use Rattle.std.proofs.lemmas.Map.Text.{is_eq-slice_cmp}
use Rattle.desk_codes.proofs.CurrencyLemmas.{ccy_cmp, tied_by_letters}
use Rattle.desk_codes.specs.Currency.{letters_of}
use Rattle.desk_rules.specs.Balances.{same_ccy}
use Rattle.desk_rules.proofs.Deciding.{same_ccy-true}
use Rattle.desk_register.proofs.CaseLemmas.{by_bool, same_bytes, bytes_refl}
use Rattle.memory_rows.specs.declared.balance_key.BalanceKey.{BalanceKey}
use Rattle.memory_rows.specs.declared.balance_key.BalanceKey.TheVariants.{Cash, Outstanding, Paid, Position}
use Rattle.memory_rows.specs.BalanceKeys.{balance_cmp, is_key, put_back, text_cmp, unless_nought, with_record, without_nought}
use Rattle.memory_rows.specs.Lists.{Listed, balance_in}
use Rattle.memory_rows.specs.Moves.{with_balance, with_less, with_more}

-- two keys that are one are equal, and each is one with itself
pub key_true : (a b : BalanceKey) → is_key a b ≡ true → a ≡ b
key_true (Position account isin) (Position a i) e =
    let parts = and_parts (bytes_eq account a) (bytes_eq isin i) e in
    let first = same_bytes account a parts.0 in
    let second = same_bytes isin i parts.1 in
    (λ k. Position (first k) (second k))
key_true (Outstanding isin) (Outstanding i) e = ap Outstanding (same_bytes isin i e)
key_true (Cash bic ccy) (Cash b c) e =
    let parts = and_parts (bytes_eq bic b) (same_ccy ccy c) e in
    let first = same_bytes bic b parts.0 in
    let second = same_ccy-true ccy c parts.1 in
    (λ k. Cash (first k) (second k))
key_true (Paid ccy) (Paid c) e = ap Paid (same_ccy-true ccy c e)
key_true a b e = absurd (cc)

pub key_refl : (a : BalanceKey) → is_key a a ≡ true
key_refl (Position account isin) = and_from (bytes_eq account account) (bytes_eq isin isin) (bytes_refl account) (bytes_refl isin)
key_refl (Outstanding isin) = bytes_refl isin
key_refl (Cash bic ccy) = and_from (bytes_eq bic bic) (same_ccy ccy ccy) (bytes_refl bic) (bytes_refl (letters_of ccy))
key_refl (Paid ccy) = bytes_refl (letters_of ccy)

-- The order of the keys ties exactly those that are one.

pub tied_keys : (a b : BalanceKey) → is_eq (balance_cmp a b) ≡ is_key a b
tied_keys (Position account isin) (Position a i) = sym (tied_then (text_cmp account a) (text_cmp isin i)) ∙ (λ k. is_eq-slice_cmp account a k && is_eq-slice_cmp isin i k)
tied_keys (Outstanding isin) (Outstanding i) = is_eq-slice_cmp isin i
tied_keys (Cash bic ccy) (Cash b c) = sym (tied_then (text_cmp bic b) (ccy_cmp ccy c)) ∙ (λ k. is_eq-slice_cmp bic b k && tied_by_letters ccy c k)
tied_keys (Paid ccy) (Paid c) = tied_by_letters ccy c
tied_keys (Position account isin) (Outstanding i) = refl
tied_keys (Position account isin) (Cash b c) = refl
tied_keys (Position account isin) (Paid c) = refl
tied_keys (Outstanding isin) (Position a i) = refl
tied_keys (Outstanding isin) (Cash b c) = refl
tied_keys (Outstanding isin) (Paid c) = refl
tied_keys (Cash bic ccy) (Position a i) = refl
tied_keys (Cash bic ccy) (Outstanding i) = refl
tied_keys (Cash bic ccy) (Paid c) = refl
tied_keys (Paid ccy) (Position a i) = refl
tied_keys (Paid ccy) (Outstanding i) = refl
tied_keys (Paid ccy) (Cash b c) = refl

-- What a map has once one balance was recorded, or put back.

recorded_at : (balances : BalanceKey → Option ℕ) (key k : BalanceKey) (amount : Option ℕ) → cond (is_eq (balance_cmp key k)) amount (balances k) ≡ with_record balances key amount k
recorded_at balances key k amount = rw (tied_keys key k) (by_bool (is_key key k) (λ t. rw t refl) (λ f. rw f refl))

pub recorded : (old new : BalanceKey → Option ℕ) (key : BalanceKey) (amount : Option ℕ) → ((k : BalanceKey) → new k ≡ cond (is_eq (balance_cmp key k)) amount (old k)) → new ≡ with_record old key amount
recorded old new key amount put = λ i k. (put k ∙ recorded_at old key k amount) i

-- where nothing is recorded of a key, nothing is put back
pub nothing_back : (old : BalanceKey → Option ℕ) (key : BalanceKey) (was : ℕ) → old key ≡ None → old ≡ put_back old key (Some was)
nothing_back old key was none = λ i k. at k i where
  at : (k : BalanceKey) → old k ≡ put_back old key (Some was) k
  at k = by_bool (is_key key k) (λ t. let here : old k ≡ None = ap old (sym (key_true key k t)) ∙ none in rw (t, none) here) (λ f. rw f refl)

pub amount_back : (old new : BalanceKey → Option ℕ) (key : BalanceKey) (was amount : ℕ) → old key ≡ Some amount → ((k : BalanceKey) → new k ≡ cond (is_eq (balance_cmp key k)) (Some was) (old k)) → new ≡ put_back old key (Some was)
amount_back old new key was amount is put = recorded old new key (Some was) put ∙ ap (λ z. with_record old key (option_map (λ a. was) z)) (sym is)

-- A balance that is recorded as 0 is taken out.

is_recorded : (o : Option ℕ) → o ≢ Some 0 → unless_nought o ≡ o
is_recorded None some = refl
is_recorded (Some zero) some = absurd (some refl)
is_recorded (Some (suc n)) some = let other : eqb (suc n) 0 ≡ false = grind (arith, nat_tests) in rw other refl

pub nothing_dropped : (old : BalanceKey → Option ℕ) (key : BalanceKey) → old key ≢ Some 0 → old ≡ without_nought old key
nothing_dropped old key some = λ i k. at k i where
  at : (k : BalanceKey) → old k ≡ without_nought old key k
  at k = by_bool (is_key key k) (λ t. let here : old k ≡ unless_nought (old key) = ap old (sym (key_true key k t)) ∙ sym (is_recorded (old key) some) in rw t here) (λ f. rw f refl)

pub nought_dropped : (old new : BalanceKey → Option ℕ) (key : BalanceKey) → old key ≡ Some 0 → ((k : BalanceKey) → new k ≡ cond (is_eq (balance_cmp key k)) None (old k)) → new ≡ without_nought old key
nought_dropped old new key is put = recorded old new key None put ∙ ap (λ z. with_record old key (unless_nought z)) (sym is)

as_before : (o : Option ℕ) → unwrap_or (unless_nought o) 0 ≡ unwrap_or o 0
as_before None = refl
as_before (Some zero) = refl
as_before (Some (suc n)) = let other : eqb (suc n) 0 ≡ false = grind (arith, nat_tests) in rw other refl

-- the balances are the same
pub same_without : (l : Listed) (key : BalanceKey) → balance_in (record l { balances = without_nought l.balances key }) ≡ balance_in l
same_without l key = λ i k. at k i where
  at : (k : BalanceKey) → unwrap_or (without_nought l.balances key k) 0 ≡ unwrap_or (l.balances k) 0
  at k = by_bool (is_key key k) (λ t. let here : unwrap_or (l.balances key) 0 ≡ unwrap_or (l.balances k) 0 = ap (λ z. unwrap_or (l.balances z) 0) (key_true key k t) in rw t (as_before (l.balances key) ∙ here)) (λ f. rw f refl)

-- none is recorded as 0 but those that were, and not this one
pub nought_before : (old : BalanceKey → Option ℕ) (key k : BalanceKey) → without_nought old key k ≡ Some 0 → (is_key key k ≡ false) × (old k ≡ Some 0)
nought_before old key k e = by_bool (is_key key k) (λ t. absurd (never (old key) (rw t at e))) (λ f. (f, rw f at e))
  where
    never : (o : Option ℕ) → unless_nought o ≡ Some 0 → ⊥
    never None e = cc
    never (Some zero) e = cc
    never (Some (suc n)) e = let other : eqb (suc n) 0 ≡ false = grind (arith, nat_tests) in let same : Some (suc n) ≡ Some 0 = rw other at e in cc

-- the balances, once one is recorded
pub put_well : {T E : Type 0} (r : Result T E) (new l : Listed) (key : BalanceKey) (v : ℕ) → OnOk r (new ≡ record l { balances = with_record l.balances key (Some v) })
    → OnOk r (balance_in new ≡ with_balance (balance_in l) key v)
put_well (Ok x) new l key v is = ap balance_in is ∙ (λ i k. put_at k i) where
  put_at : (k : BalanceKey) → unwrap_or (with_record l.balances key (Some v) k) 0 ≡ with_balance (balance_in l) key v k
  put_at k = by_bool (is_key key k) (λ t. rw t refl) (λ f. rw f refl)
put_well (Err f) new l key v is = is

-- One balance after another was put.

pub on_ok : {T E P Q : Type 0} (r : Result T E) → (P → Q) → OnOk r P → OnOk r Q
on_ok (Ok x) step p = step p
on_ok (Err f) step p = p

module _ (balance : BalanceKey → ℕ) (key other : BalanceKey) (amount : ℕ) (apart : is_key key other ≡ false) where
  pub with_more-other : with_more balance key amount other ≡ balance other
  with_more-other = rw apart refl

  pub with_less-other : with_less balance key amount other ≡ balance other
  with_less-other = rw apart refl

module _ {T E : Type 0} (r : Result T E) (old mid new : BalanceKey → ℕ) (key other : BalanceKey) (amount : ℕ) where
  pub twice_with_more : mid ≡ with_more old key amount → OnOk r (new ≡ with_more mid other amount) → OnOk r (new ≡ with_more (with_more old key amount) other amount)
  twice_with_more first second = on_ok r (λ is. is ∙ ap (λ b. with_more b other amount) first) second

  pub twice_with_less : mid ≡ with_less old key amount → OnOk r (new ≡ with_less mid other amount) → OnOk r (new ≡ with_less (with_less old key amount) other amount)
  twice_with_less first second = on_ok r (λ is. is ∙ ap (λ b. with_less b other amount) first) second

  pub then_with_more : mid ≡ with_less old key amount → OnOk r (new ≡ with_more mid other amount) → OnOk r (new ≡ with_more (with_less old key amount) other amount)
  then_with_more first second = on_ok r (λ is. is ∙ ap (λ b. with_more b other amount) first) second
