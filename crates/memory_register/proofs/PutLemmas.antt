-- What stands at each key of a tree, once one key was given a value.
use Rattle.std.proofs.Common.{◌≡◌, ℕ, Bool, true, false, cond, List, [], ◌∷◌, ◌++◌, Option, Some, None, refl, ap, sym, ◌∙◌}
use Rattle.std.specs.Prelude.{Vec, vec_len, if◌then◌else◌, Result, Ok, Err, OnOk, OnErr}
use Rattle.std.specs.Result.{IsErrAnd}
use Rattle.std.specs.Ordering.{is_eq}
use Rattle.std.specs.Option.{UnwrapsOrElse, option_map_or, unwrap_or}
use Rattle.std.specs.declared.alloc.Global.{Global}
use Rattle.std.specs.declared.cmp.Ordering.{Ordering}
use Rattle.std.specs.declared.cmp.Ordering.TheVariants.{Less, Equal, Greater}
use Rattle.std.specs.Cmp.{IsTotalOrder}
use Rattle.std.specs.BTreeMap.{BTreeMap, get, get_by}
use Rattle.memory_register.specs.FirstNumbers.{number_if, or_number}
use Rattle.memory_register.specs.NumbersAt.{numbers_at}

is_equal : (o : Ordering) → is_eq o ≡ true → o ≡ Equal
is_equal Less e = absurd (cc)
is_equal Equal e = refl
is_equal Greater e = absurd (cc)

-- the one where a test holds, the other where it does not
chosen : {A : Type 0} (b : Bool) (x y z : A) → (b ≡ true → z ≡ x) → (b ≡ false → z ≡ y) → z ≡ (if b then x else y)
chosen true x y z holds other = holds refl
chosen false x y z holds other = other refl

is_first : {A : Type 0} (b : Bool) (x y z : A) → b ≡ true → z ≡ cond b x y → z ≡ x
is_first true x y z here is = is
is_first false x y z here is = absurd (cc)

is_second : {A : Type 0} (b : Bool) (x y z : A) → b ≡ false → z ≡ cond b x y → z ≡ y
is_second true x y z there is = absurd (cc)
is_second false x y z there is = is

-- the list that was taken out: an empty one where there was none
taken_out : (value : Option (Vec ℕ Global)) (found : Vec ℕ Global) → UnwrapsOrElse value (λ v. (v.items ≡ []) × (vec_len v ≡ 0)) found → found.items ≡ option_map_or (λ v. v.items) value []
taken_out None found is = is.0
taken_out (Some v) found is = ap (λ x. x.items) is

-- the first number stays
first_stays : (old : Option ℕ) (value : Option ℕ) (n made : ℕ) → value ≡ old → made ≡ unwrap_or value n → Some made ≡ or_number old (Some n)
first_stays old None n made is made_is = ap Some made_is ∙ ap (λ o. or_number o (Some n)) is
first_stays old (Some k) n made is made_is = ap Some made_is ∙ ap (λ o. or_number o (Some n)) is

no_number : (old : Option ℕ) → or_number old None ≡ old
no_number None = refl
no_number (Some n) = refl

not_put : (b : Bool) (n : ℕ) → b ≡ false → number_if b n ≡ None
not_put true n e = absurd (cc)
not_put false n e = refl

is_put : (b : Bool) (n : ℕ) → b ≡ true → number_if b n ≡ Some n
is_put true n e = refl
is_put false n e = absurd (cc)

module _ {K : Type 0} {R : K → K → Ordering} (total : IsTotalOrder R) (key q : K) where
  -- equal keys have one value
  get_same : {X : Type 0} (m : BTreeMap K X) → is_eq (R key q) ≡ true → get R m key ≡ get R m q
  get_same m here = ap (λ (f : K → Ordering). get_by f m) (λ i z. total.congr key q z (is_equal (R key q) here) i)

  pub pushed_at : (old new : BTreeMap K (Vec ℕ Global)) (n : ℕ) (value : Option (Vec ℕ Global)) (found made : Vec ℕ Global) → value ≡ get R old key → UnwrapsOrElse value (λ v. (v.items ≡ []) × (vec_len v ≡ 0)) found → made.items ≡ found.items ++ n ∷ []
      → get R new q ≡ cond (is_eq (R key q)) (Some made) (get R old q) → numbers_at R new q ≡ (if is_eq (R key q) then numbers_at R old q ++ n ∷ [] else numbers_at R old q)
  pushed_at old new n value found made is out more put =
      let items : Option (Vec ℕ Global) → List ℕ = λ o. option_map_or (λ v. v.items) o [] in
      chosen (is_eq (R key q)) (numbers_at R old q ++ n ∷ []) (numbers_at R old q) (numbers_at R new q)
      (λ here. ap items (is_first (is_eq (R key q)) (Some made) (get R old q) (get R new q) here put) ∙ more ∙ ap (λ l. l ++ n ∷ []) (taken_out value found out ∙ ap items (is ∙ get_same old here)))
      (λ there. ap items (is_second (is_eq (R key q)) (Some made) (get R old q) (get R new q) there put))

  -- what was pushed and could not be kept: the list is as it was
  pub same_at : (old new : BTreeMap K (Vec ℕ Global)) (value : Option (Vec ℕ Global)) (found made : Vec ℕ Global) → value ≡ get R old key → UnwrapsOrElse value (λ v. (v.items ≡ []) × (vec_len v ≡ 0)) found → made.items ≡ found.items
      → get R new q ≡ cond (is_eq (R key q)) (Some made) (get R old q) → numbers_at R new q ≡ numbers_at R old q
  same_at old new value found made is out same put = by_test (is_eq (R key q)) refl
    where
      by_test : (b : Bool) → is_eq (R key q) ≡ b → numbers_at R new q ≡ numbers_at R old q
      by_test true here =
          let items : Option (Vec ℕ Global) → List ℕ = λ o. option_map_or (λ v. v.items) o [] in
          ap items (is_first (is_eq (R key q)) (Some made) (get R old q) (get R new q) here put) ∙ same ∙ taken_out value found out ∙ ap items (is ∙ get_same old here)
      by_test false there =
          let items : Option (Vec ℕ Global) → List ℕ = λ o. option_map_or (λ v. v.items) o [] in
          ap items (is_second (is_eq (R key q)) (Some made) (get R old q) (get R new q) there put)

  pub first_at : (old new : BTreeMap K ℕ) (n : ℕ) (value : Option ℕ) (made : ℕ) → value ≡ get R old key → made ≡ unwrap_or value n → get R new q ≡ cond (is_eq (R key q)) (Some made) (get R old q)
      → get R new q ≡ or_number (get R old q) (number_if (is_eq (R key q)) n)
  first_at old new n value made is made_is put = by_test (is_eq (R key q)) refl
    where
      by_test : (b : Bool) → is_eq (R key q) ≡ b → get R new q ≡ or_number (get R old q) (number_if (is_eq (R key q)) n)
      by_test true here =
          is_first (is_eq (R key q)) (Some made) (get R old q) (get R new q) here put ∙ first_stays (get R old q) value n made (is ∙ get_same old here) made_is
          ∙ ap (or_number (get R old q)) (sym (is_put (is_eq (R key q)) n here))
      by_test false there =
          is_second (is_eq (R key q)) (Some made) (get R old q) (get R new q) there put ∙ sym (no_number (get R old q)) ∙ ap (or_number (get R old q)) (sym (not_put (is_eq (R key q)) n there))

-- By a call's result.

pub not_ok : {X E : Type 0} (r : Result X E) (Q : E → Type 0) (P : Type 0) → IsErrAnd r Q → OnOk r P
not_ok (Ok x) Q P is = absurd is
not_ok (Err e) Q P is = tt

pub on_err : {X E : Type 0} (r : Result X E) (P : Type 0) → P → OnErr r P
on_err (Ok x) P holds = tt
on_err (Err e) P holds = holds
