-- What the look-ups of registered names give.
use Rattle.std.proofs.Common.{◌≡◌, ℕ, zero, suc, ◌+◌, ◌-◌, get_or, true, List, [], ◌∷◌, length, map, Option, Some, None, refl, ap, sym, ◌∙◌, arith}
use Rattle.std.specs.Prelude.{bytes_eq, filter_map, is_some, option_map, slice_get, IfSome, IfNone}
use Rattle.std.specs.List.{cons_option}
use Rattle.std.specs.BTreeMap.{BTreeMap, get}
use Rattle.std.specs.BTreeMap.Range.{IsLeBy}
use Rattle.std.specs.Cmp.Lexicographic.{nat_list_cmp_total}
use Rattle.std.specs.Ordering.{ordering_reverse}
use Rattle.std.proofs.lemmas.List.{length-map}
use Rattle.desk_codes.specs.Number.{number_of}
use Rattle.desk_rules.specs.declared.history.entry.Entry.{Entry}
use Rattle.desk_rules.specs.declared.history.entry.Entry.TheVariants.{Participant, Account, Security, Issue, Redeem, PayIn, PayOut, Instruct, Cancel, Run}
use Rattle.desk_rules.specs.Facts.{kind_by, kind_of, last_run, last_said, or_else, owner_by}
use Rattle.desk_rules.specs.History.{run_day}
use Rattle.desk_register.specs.Looked.{IsAboveText, IsLess, IsSecurityAfter}
use Rattle.desk_register.proofs.CaseLemmas.{by_bool}
use Rattle.memory_rows.specs.FollowOn.{FollowOn}
use Rattle.memory_register.specs.FirstNumbers.{IsAbove, first_number}
use Rattle.memory_register.specs.Keys.{text_cmp}
use Rattle.memory_register.specs.Registered.{adds_account, adds_security}
use Rattle.memory_register.specs.SecurityRows.{IsNextSecurity}
use Rattle.memory_register.proofs.FirstLemmas.{first_any, said_any}

-- the last run

abbrev last_of : List ℕ → Option ℕ
last_of [] = None
last_of (x ∷ xs) = or_else (last_of xs) (Some x)

last_cons : (o : Option ℕ) (rest : List ℕ) → last_of (cons_option o rest) ≡ or_else (last_of rest) o
last_cons None rest = sym (or_none (last_of rest))
  where
    or_none : (o : Option ℕ) → or_else o None ≡ o
    or_none None = refl
    or_none (Some x) = refl
last_cons (Some x) rest = refl

last_said_is : (history : List Entry) → last_of (filter_map run_day history) ≡ last_said run_day history
last_said_is [] = refl
last_said_is (e ∷ history) = last_cons (run_day e) (filter_map run_day history) ∙ ap (λ z. or_else z (run_day e)) (last_said_is history)

or_some : (o : Option ℕ) (y : ℕ) (z : Option ℕ) → or_else (or_else o (Some y)) z ≡ or_else o (Some y)
or_some None y z = refl
or_some (Some x) y z = refl

last_at : (xs : List ℕ) (k : ℕ) → k ≡ length xs - 1 → slice_get xs k ≡ last_of xs
last_at [] k is = refl
last_at (x ∷ []) k is = let none : k ≡ 0 = omega arith in rw none refl
last_at (x ∷ y ∷ xs) k is =
    let more : k ≡ suc (length xs) = omega arith in
    rw more (last_at (y ∷ xs) (length xs) (omega arith) ∙ sym (or_some (last_of xs) y (Some x)))

number_at : (runs : List (List ℕ)) (k : ℕ) → option_map number_of (slice_get runs k) ≡ slice_get (map number_of runs) k
number_at [] k = refl
number_at (day ∷ runs) zero = refl
number_at (day ∷ runs) (suc k) = number_at runs k

pub last_of_runs : (runs : List (List ℕ)) (history : List Entry) → map number_of runs ≡ filter_map run_day history → option_map number_of (slice_get runs (length runs - 1)) ≡ last_run history
last_of_runs runs history is =
    number_at runs (length runs - 1)
    ∙ last_at (map number_of runs) (length runs - 1) (ap (λ z. z - 1) (sym (length-map runs number_of)))
    ∙ ap last_of is
    ∙ last_said_is history

-- what an entry says of an account, and of a security

pub gives_owner : (account : List ℕ) (e : Entry) → adds_account account e ≡ is_some (owner_by account e)
gives_owner account (Participant r b) = refl
gives_owner account (Account r b a) = by_bool (bytes_eq a account) (λ here. rw here refl) (λ other. rw other refl)
gives_owner account (Security r i k) = refl
gives_owner account (Issue m) = refl
gives_owner account (Redeem m) = refl
gives_owner account (PayIn p) = refl
gives_owner account (PayOut p) = refl
gives_owner account (Instruct s i) = refl
gives_owner account (Cancel s o) = refl
gives_owner account (Run r d rule) = refl

pub gives_kind : (isin : List ℕ) (e : Entry) → adds_security isin e ≡ is_some (kind_by isin e)
gives_kind isin (Participant r b) = refl
gives_kind isin (Account r b a) = refl
gives_kind isin (Security r i k) = by_bool (bytes_eq i isin) (λ here. rw here refl) (λ other. rw other refl)
gives_kind isin (Issue m) = refl
gives_kind isin (Redeem m) = refl
gives_kind isin (PayIn p) = refl
gives_kind isin (PayOut p) = refl
gives_kind isin (Instruct s i) = refl
gives_kind isin (Cancel s o) = refl
gives_kind isin (Run r d rule) = refl

-- the next security

not_below : (a b : List ℕ) → IsLeBy text_cmp a b → IsLess b a → ⊥
not_below a b le less = let back = nat_list_cmp_total.antisymm a b ∙ ap ordering_reverse less in let bad = rw back at le in cc

above_as : (above : Option (List ℕ)) (isin : List ℕ) → IsAbove text_cmp above isin → IsAboveText above isin
above_as None isin is = tt
above_as (Some a) isin is = is

above_from : (above : Option (List ℕ)) (isin : List ℕ) → IsAboveText above isin → IsAbove text_cmp above isin
above_from None isin is = tt
above_from (Some a) isin is = is

module _ (securities : BTreeMap (List ℕ) ℕ) (history : List Entry) (each : (isin : List ℕ) → get text_cmp securities isin ≡ first_number (adds_security isin) history) (above : Option (List ℕ)) where
  registered : (isin : List ℕ) → is_some (get text_cmp securities isin) ≡ is_some (kind_of history isin)
  registered isin = ap is_some (each isin) ∙ first_any (adds_security isin) history ∙ sym (said_any (adds_security isin) (kind_by isin) (gives_kind isin) history)

  pub security_found : (o : Option (List ℕ)) → IfSome o (IsAbove text_cmp above) → IfSome o (λ k. is_some (get text_cmp securities k) ≡ true)
      → IfSome o (λ k. (q : List ℕ) → IsAbove text_cmp above q → is_some (get text_cmp securities q) ≡ true → IsLeBy text_cmp k q)
      → IfNone o ((q : List ℕ) → IsAbove text_cmp above q → is_some (get text_cmp securities q) ≡ true → ⊥) → IsSecurityAfter history above o
  security_found None is there least none = λ isin found. none isin (above_from above isin found.1) (registered isin ∙ found.0)
  security_found (Some isin) is there least none = (
    (sym (registered isin) ∙ there, above_as above isin is),
    λ other found less. not_below isin other (least other (above_from above other found.1) (registered other ∙ found.0)) less,
  )

-- of a next security
pub next_found : (securities : BTreeMap (List ℕ) ℕ) (history : List Entry) (each : (isin : List ℕ) → get text_cmp securities isin ≡ first_number (adds_security isin) history) (above o : Option (List ℕ))
    → IsNextSecurity securities above o → IsSecurityAfter history above o
next_found securities history each above None none = security_found securities history each above None tt tt tt (λ q higher there. none q (record { higher = higher; there = there }))
next_found securities history each above (Some isin) found = security_found securities history each above (Some isin) found.0.higher found.0.there (λ q higher there. found.1 q (record { higher = higher; there = there })) tt

-- of rows
pub follow_found : (securities : BTreeMap (List ℕ) ℕ) (history : List Entry) (each : (isin : List ℕ) → get text_cmp securities isin ≡ first_number (adds_security isin) history) (rows : List (Option (List ℕ))) (count : ℕ)
    → FollowOn (IsNextSecurity securities) rows count → FollowOn (IsSecurityAfter history) rows count
follow_found securities history each rows count follow = record { each = λ k below. next_found securities history each (get_or rows k None) (get_or rows (k + 1) None) (follow.each k below) }
