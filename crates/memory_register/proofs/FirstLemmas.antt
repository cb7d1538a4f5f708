-- The number of the first of which a test holds, with one more, and with one less.
use Rattle.std.proofs.Common.{rules, ◌≡◌, ℕ, zero, suc, ◌+◌, ◌<◌, ◌≤◌, Bool, true, false, List, [], ◌∷◌, ◌++◌, length, Option, Some, None, refl, ap, sym, ◌∙◌, arith}
use Rattle.std.specs.Prelude.{if◌then◌else◌, ◌==◌, is_some, slice_get, option_and_then}
use Rattle.std.specs.List.{list_any}
use Rattle.std.specs.Ordering.{is_eq}
use Rattle.std.specs.BTreeMap.{BTreeMap, get}
use Rattle.std.specs.declared.cmp.Ordering.{Ordering}
use Rattle.desk_rules.specs.declared.history.entry.Entry.{Entry}
use Rattle.desk_rules.specs.declared.history.entry.Sender.{Sender}
use Rattle.desk_rules.specs.Facts.{first_said, or_else}
use Rattle.desk_rules.specs.History.{entry_at, has_key, number_from, number_of_key}
use Rattle.memory_register.specs.FirstNumbers.{first_from, first_number, number_if, or_number, without}
use Rattle.desk_register.proofs.CaseLemmas.{by_bool}

key_from : (n : ℕ) (s : Sender) (r : List ℕ) (history : List Entry) → number_from n s r history ≡ first_from n (has_key s r) history
key_from n s r [] = refl
key_from n s r (x ∷ history) = by_bool (has_key s r x) (λ here. rw here refl) (λ other. rw other (key_from (n + 1) s r history))

-- a key's number is that of the first entry with it
pub key_first : (s : Sender) (r : List ℕ) (history : List Entry) → number_of_key history s r ≡ first_number (has_key s r) history
key_first s r history = key_from 1 s r history

pushed_from : {X : Type 0} (n : ℕ) (t : X → Bool) (history : List X) (e : X) → first_from n t (history ++ e ∷ []) ≡ or_number (first_from n t history) (number_if (t e) (n + length history))
pushed_from n t [] e = by_bool (t e) (λ here. rw here (ap Some (omega arith))) (λ other. rw other refl)
pushed_from n t (x ∷ history) e = by_bool (t x)
    (λ here. rw here refl)
    (λ other. rw other (let more = pushed_from (n + 1) t history e in let same : n + 1 + length history ≡ n + suc (length history) = omega arith in rw same at more))

-- with one more
pub pushed : {X : Type 0} (t : X → Bool) (history : List X) (e : X) (n : ℕ) → n ≡ length history + 1 → first_number t (history ++ e ∷ []) ≡ or_number (first_number t history) (number_if (t e) n)
pushed t history e n is = let same : 1 + length history ≡ n = omega arith in rw same at (pushed_from 1 t history e)

none_or : (o : Option ℕ) → or_number o None ≡ o
none_or None = refl
none_or (Some n) = refl

-- without its own number, there is the number that there was
pub taken : (o : Option ℕ) (test : Bool) (n : ℕ) → ((k : ℕ) → o ≡ Some k → k < n) → (if test then without n (or_number o (number_if test n)) else or_number o (number_if test n)) ≡ o
taken None true n below = let same : (n == n) ≡ true = search rules in rw same refl
taken None false n below = refl
taken (Some k) true n below = let lt = below k refl in let apart : (k == n) ≡ false = grind arith in rw apart refl
taken (Some k) false n below = refl

-- no number is past the end
below_end : {X : Type 0} (m : ℕ) (t : X → Bool) (es : List X) (n : ℕ) → first_from m t es ≡ Some n → n < m + length es
below_end m t [] n e = cc
below_end m t (x ∷ es) n e = by_bool (t x)
    (λ here. let at : m ≡ n = let f = rw here at e in cc in omega arith)
    (λ other. let later = below_end (m + 1) t es n (rw other at e) in omega arith)

below_of : {X : Type 0} (t : X → Bool) (history : List X) (n : ℕ) → n ≡ length history + 1 → (k : ℕ) → first_number t history ≡ Some k → k < n
below_of t history n is k found = let lt = below_end 1 t history k found in omega arith

-- where the test does not hold of one more entry
pub same_first : {X : Type 0} (t : X → Bool) (history : List X) (e : X) (n : ℕ) → n ≡ length history + 1 → t e ≡ false → first_number t (history ++ e ∷ []) ≡ first_number t history
same_first t history e n is other = pushed t history e n is ∙ rw other (none_or (first_number t history))

-- A tree that has, for each key, the number of the first of which the key's test holds.

module _ {K X : Type 0} (cmp : K → K → Ordering) (test : K → X → Bool) (old : BTreeMap K ℕ) (history : List X) (e : X) (n : ℕ) (is : n ≡ length history + 1) where
  -- where the tests hold of one more entry, at one key
  module _ (new : BTreeMap K ℕ) (key : K) (tests : (q : K) → test q e ≡ is_eq (cmp key q)) where
    pub first_noted : ((q : K) → get cmp new q ≡ or_number (get cmp old q) (number_if (is_eq (cmp key q)) n)) → ((q : K) → get cmp old q ≡ first_number (test q) history)
        → (q : K) → get cmp new q ≡ first_number (test q) (history ++ e ∷ [])
    first_noted put was q = put q ∙ rw (was q, sym (tests q)) (sym (pushed (test q) history e n is))

    pub first_forgotten : ((q : K) → get cmp new q ≡ (if is_eq (cmp key q) then without n (get cmp old q) else get cmp old q)) → ((q : K) → get cmp old q ≡ first_number (test q) (history ++ e ∷ []))
        → (q : K) → get cmp new q ≡ first_number (test q) history
    first_forgotten took was q = took q ∙ rw (was q, pushed (test q) history e n is, sym (tests q)) (taken (first_number (test q) history) (test q e) n (below_of (test q) history n is))

  -- where they do not
  module _ (tests : (q : K) → test q e ≡ false) where
    pub first_kept : ((q : K) → get cmp old q ≡ first_number (test q) history) → (q : K) → get cmp old q ≡ first_number (test q) (history ++ e ∷ [])
    first_kept was q = was q ∙ sym (same_first (test q) history e n is (tests q))

    pub first_stays : ((q : K) → get cmp old q ≡ first_number (test q) (history ++ e ∷ [])) → (q : K) → get cmp old q ≡ first_number (test q) history
    first_stays was q = was q ∙ same_first (test q) history e n is (tests q)

-- The same at one key, where the tree has it behind something else.

module _ {K X : Type 0} (cmp : K → K → Ordering) (t : X → Bool) (old new : BTreeMap K ℕ) (history : List X) (e : X) (n : ℕ) (is : n ≡ length history + 1) (key q : K) (tests : t e ≡ is_eq (cmp key q)) where
  pub noted_at : get cmp new q ≡ or_number (get cmp old q) (number_if (is_eq (cmp key q)) n) → get cmp old q ≡ first_number t history → get cmp new q ≡ first_number t (history ++ e ∷ [])
  noted_at put was = put ∙ rw (was, sym tests) (sym (pushed t history e n is))

  pub forgotten_at : get cmp new q ≡ (if is_eq (cmp key q) then without n (get cmp old q) else get cmp old q) → get cmp old q ≡ first_number t (history ++ e ∷ []) → get cmp new q ≡ first_number t history
  forgotten_at took was = took ∙ rw (was, pushed t history e n is, sym tests) (taken (first_number t history) (t e) n (below_of t history n is))

-- What the first entry says.

any_from : (n : ℕ) (t : Entry → Bool) (history : List Entry) → is_some (first_from n t history) ≡ list_any t history
any_from n t [] = refl
any_from n t (x ∷ history) = by_bool (t x) (λ here. rw here refl) (λ other. rw other (any_from (n + 1) t history))

-- there is a first where there is any
pub first_any : (t : Entry → Bool) (history : List Entry) → is_some (first_number t history) ≡ list_any t history
first_any t history = any_from 1 t history

none_if : {X : Type 0} (o : Option X) → is_some o ≡ false → o ≡ None
none_if None e = refl
none_if (Some x) e = absurd (cc)

some_or : {X : Type 0} (o rest : Option X) → is_some o ≡ true → or_else o rest ≡ o
some_or None rest e = absurd (cc)
some_or (Some x) rest e = refl

pub at_least : {X : Type 0} (n : ℕ) (t : X → Bool) (history : List X) (k : ℕ) → first_from n t history ≡ Some k → n ≤ k
at_least n t [] k e = cc
at_least n t (x ∷ history) k e = by_bool (t x)
    (λ here. let at : n ≡ k = let f = rw here at e in cc in omega arith)
    (λ other. let later = at_least (n + 1) t history k (rw other at e) in omega arith)

module _ {X : Type 0} (t : Entry → Bool) (says : Entry → Option X) (same : (e : Entry) → t e ≡ is_some (says e)) where
  says_none : (e : Entry) → t e ≡ false → says e ≡ None
  says_none e other = none_if (says e) (sym (same e) ∙ other)

  says_some : (e : Entry) (rest : Option X) → t e ≡ true → or_else (says e) rest ≡ says e
  says_some e rest here = some_or (says e) rest (sym (same e) ∙ here)

  none_from : (n : ℕ) (history : List Entry) → first_from n t history ≡ None → first_said says history ≡ None
  none_from n [] e = refl
  none_from n (x ∷ history) e = by_bool (t x)
      (λ here. absurd (let bad = rw here at e in cc))
      (λ other. rw (says_none x other) (none_from (n + 1) history (rw other at e)))

  said_from : (n k i : ℕ) (history : List Entry) → first_from n t history ≡ Some k → k ≡ n + i → first_said says history ≡ option_and_then says (slice_get history i)
  said_from n k i [] e is = absurd (let bad = e in cc)
  said_from n k zero (x ∷ history) e is = by_bool (t x)
      (λ here. says_some x (first_said says history) here)
      (λ other. let least = at_least (n + 1) t history k (rw other at e) in absurd (omega arith))
  said_from n k (suc i) (x ∷ history) e is = by_bool (t x)
      (λ here. let at : n ≡ k = let f = rw here at e in cc in absurd (omega arith))
      (λ other. rw (says_none x other) (said_from (n + 1) k i history (rw other at e) (omega arith)))

  -- with no first, nothing is said
  pub said_none : (history : List Entry) → first_number t history ≡ None → first_said says history ≡ None
  said_none history e = none_from 1 history e

  -- the first says it
  pub said_first : (history : List Entry) (k : ℕ) → first_number t history ≡ Some k → first_said says history ≡ option_and_then says (entry_at history k)
  said_first history zero e = let least = at_least 1 t history 0 e in absurd (omega arith)
  said_first history (suc i) e = said_from 1 (suc i) i history e (omega arith)

  pub said_any : (history : List Entry) → is_some (first_said says history) ≡ list_any t history
  said_any [] = refl
  said_any (x ∷ history) = by_bool (t x)
      (λ here. rw (says_some x (first_said says history) here, sym (same x), here) refl)
      (λ other. rw (says_none x other, other) (said_any history))
