-- Values as SQL compares them, and as a table casts them.
use Rattle.std.proofs.Common.{◌≡◌, ◌⊎◌, inl, inr, ℕ, ◌<◌, ◌==◌, ℤ, pos, nat_le, nat_lt, List, Bool, true, false, cond, ◌&&◌, Some, refl, sym, ap, subst, ◌∙◌, arith}
use Rattle.std.specs.declared.cmp.Ordering.TheVariants.{Less, Equal, Greater}
use Rattle.std.specs.Ordering.{is_eq, is_ge, is_lt, is_gt, int_cmp, nat_cmp}
use Rattle.std.specs.Cmp.Lexicographic.{slice_cmp}
use Rattle.std.specs.Str.{bytes_eq}
use Rattle.std.proofs.lemmas.Bool.{cases_lt, lt-ltb, le-ltb, lt-leb, le-leb, eq-eqb, ne_eqb}
use Rattle.std.proofs.lemmas.Map.Text.{is_eq-slice_cmp}
use Rattle.std.proofs.Math.Dec.{ltb}
use Rattle.sqlite.specs.Order.{value_cmp}
use Rattle.sqlite.specs.declared.types.Value.{Value}
use Rattle.sqlite.specs.declared.types.Value.TheVariants.{Null, Int, Text as Words}
use Rattle.sqlite_value.proofs.OrderLemmas.{value_cmp-Int, value_cmp-Text}
use Rattle.sqlite.specs.Ops.{unary, is_true, from_truth}
use Rattle.sqlite.specs.Cast.{cast}
use Rattle.sqlite.specs.Kind.TheVariants.{Integer}

-- ---- two numbers

pub three_ways : (m n : ℕ) → (m < n) ⊎ ((m ≡ n) ⊎ (n < m))
three_ways m n = elim (cases_lt m n) [
  | inl low ↦ inl low
  | inr high ↦ elim (cases_lt n m) [ inl low ↦ inr (inr low) | inr same ↦ inr (inl (omega arith)) ]
]

pub number_less : (m n : ℕ) → m < n → value_cmp (Int (pos m)) (Int (pos n)) ≡ Less
number_less m n low = value_cmp-Int (pos m) (pos n) ∙ ap (λ b. cond b Less (cond (ltb n m) Greater Equal)) (lt-ltb m n low)

pub number_greater : (m n : ℕ) → n < m → value_cmp (Int (pos m)) (Int (pos n)) ≡ Greater
number_greater m n high =
    value_cmp-Int (pos m) (pos n) ∙ ap (λ b. cond b Less (cond (ltb n m) Greater Equal)) (le-ltb m n (omega arith)) ∙ ap (λ b. cond b Greater Equal) (lt-ltb n m high)

pub number_equal : (n : ℕ) → value_cmp (Int (pos n)) (Int (pos n)) ≡ Equal
number_equal n =
    value_cmp-Int (pos n) (pos n) ∙ ap (λ b. cond b Less (cond (ltb n n) Greater Equal)) (le-ltb n n (omega arith)) ∙ ap (λ b. cond b Greater Equal) (le-ltb n n (omega arith))

pub number_same : (m n : ℕ) → is_eq (value_cmp (Int (pos m)) (Int (pos n))) ≡ (m == n)
number_same m n = elim (three_ways m n) [
  | inl low ↦ ap is_eq (number_less m n low) ∙ sym (ne_eqb m n (λ e. omega (arith, low, e)))
  | inr (inl same) ↦ subst (λ k. is_eq (value_cmp (Int (pos m)) (Int (pos k))) ≡ (m == k)) same (ap is_eq (number_equal m) ∙ sym (eq-eqb m m refl))
  | inr (inr high) ↦ ap is_eq (number_greater m n high) ∙ sym (ne_eqb m n (λ e. omega (arith, high, e)))
]

pub number_below : (m n : ℕ) → is_lt (value_cmp (Int (pos m)) (Int (pos n))) ≡ nat_lt m n
number_below m n = elim (cases_lt m n) [
  | inl low ↦ ap is_lt (number_less m n low) ∙ sym (lt-ltb m n low)
  | inr high ↦ elim (three_ways m n) [
    | inl low ↦ absurd (omega (arith, low, high))
    | inr (inl same) ↦ subst (λ k. is_lt (value_cmp (Int (pos m)) (Int (pos k))) ≡ nat_lt m k) same (ap is_lt (number_equal m) ∙ sym (le-ltb m m (omega arith)))
    | inr (inr more) ↦ ap is_lt (number_greater m n more) ∙ sym (le-ltb m n high)
  ]
]

either_way : (b : Bool) → is_ge (cond b Greater Equal) ≡ true
either_way true = refl
either_way false = refl

number_at_least : (m n : ℕ) → is_ge (int_cmp (pos m) (pos n)) ≡ nat_le n m
number_at_least m n = elim (cases_lt m n) [
  | inl low ↦ ap (λ b. is_ge (cond b Less (cond (ltb n m) Greater Equal))) (lt-ltb m n low) ∙ sym (lt-leb n m low)
  | inr high ↦ ap (λ b. is_ge (cond b Less (cond (ltb n m) Greater Equal))) (le-ltb m n high) ∙ either_way (ltb n m) ∙ sym (le-leb n m high)
]

-- ---- a test of a WHERE

pub truth_of : (b : Bool) → is_true (from_truth (Some b)) ≡ b
truth_of true = refl
truth_of false = refl

pub and_true : (b : Bool) → (b && true) ≡ b
and_true true = refl
and_true false = refl

pub equal_test : (m n : ℕ) → is_true (from_truth (Some (is_eq (value_cmp (Int (pos m)) (Int (pos n)))))) ≡ (m == n)
equal_test m n = truth_of (is_eq (value_cmp (Int (pos m)) (Int (pos n)))) ∙ number_same m n

pub text_test : (s t : List ℕ) → is_true (from_truth (Some (is_eq (value_cmp (Words s) (Words t))))) ≡ bytes_eq s t
text_test s t = truth_of (is_eq (value_cmp (Words s) (Words t))) ∙ ap is_eq (value_cmp-Text s t) ∙ is_eq-slice_cmp s t

pub text_above_test : (s t : List ℕ) → is_true (from_truth (Some (is_gt (value_cmp (Words s) (Words t))))) ≡ is_gt (slice_cmp nat_cmp s t)
text_above_test s t = truth_of (is_gt (value_cmp (Words s) (Words t))) ∙ ap is_gt (value_cmp-Text s t)

pub below_test : (m n : ℕ) → is_true (from_truth (Some (is_lt (value_cmp (Int (pos m)) (Int (pos n)))))) ≡ nat_lt m n
below_test m n = truth_of (is_lt (value_cmp (Int (pos m)) (Int (pos n)))) ∙ number_below m n

pub at_least_test : (m n : ℕ) → is_true (from_truth (Some (is_ge (value_cmp (Int (pos m)) (Int (pos n)))))) ≡ nat_le n m
at_least_test m n = truth_of (is_ge (value_cmp (Int (pos m)) (Int (pos n)))) ∙ ap is_ge (value_cmp-Int (pos m) (pos n)) ∙ number_at_least m n

pub above_test : (m n : ℤ) → is_true (from_truth (Some (is_gt (value_cmp (Int m) (Int n))))) ≡ is_gt (int_cmp m n)
above_test m n = truth_of (is_gt (value_cmp (Int m) (Int n))) ∙ ap is_gt (value_cmp-Int m n)

-- ---- what is written to a column of integers

either : (b : Bool) (x : Value) → cond b x x ≡ x
either true x = refl
either false x = refl

pub cast_int : (n : ℤ) → cast Integer (Int n) ≡ Int n
unfolding unary
cast_int n = either _ (Int n)

pub cast_null : cast Integer Null ≡ Null
unfolding unary
cast_null = either _ Null
