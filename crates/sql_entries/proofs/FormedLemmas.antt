-- What is said of a history of well-formed entries.
use Rattle.std.proofs.Common.{◌≡◌, ℕ, zero, suc, List, [], ◌∷◌, Bool, true, false, Option, None, Some, is_some, IfSome, refl, subst, arith}
use Rattle.std.specs.Prelude.{if◌then◌else◌}
use Rattle.std.specs.List.{AllByRecursion}
use Rattle.std.specs.Str.{bytes_eq}
use Rattle.std.proofs.lemmas.Slice.Eq.{bytes_eq-Decides}
use Rattle.sqlite_trees.proofs.ListLemmas.{all_from_map}
use Rattle.desk_codes.specs.Bic.{IsBic}
use Rattle.desk_codes.specs.CheckDigit.{IsIsin}
use Rattle.desk_codes.specs.Day.{IsDay}
use Rattle.desk_rules.specs.declared.history.entry.Entry.{Entry}
use Rattle.desk_rules.specs.declared.history.entry.Entry.TheVariants.{Account, Security, Run}
use Rattle.desk_rules.specs.declared.answers.reply.Kept.{Kept}
use Rattle.desk_rules.specs.Facts.{first_said, kind_by, kind_of, last_said, or_else, owner_by, owner_of}
use Rattle.desk_rules.specs.Spelt.{IsSpelt}
use Rattle.desk_rules.specs.WellFormed.{AreWellFormed}
use Rattle.desk_rules.proofs.Readable.{formed_spelt}
use Rattle.desk_register.specs.Looked.{IsSecurityAfter, kept_at}
use Rattle.sql_entries.specs.Entries.{entries_in}
use Rattle.sql_entries.proofs.EntryLemmas.{day_text}

-- the texts of each entry are codes
abbrev pub AreSpelt : List Entry → Type 0
AreSpelt = AllByRecursion IsSpelt

pub are_spelt : (history : List Entry) → AreWellFormed history → AreSpelt history
are_spelt [] formed = tt
are_spelt (entry ∷ entries) formed = (
  formed_spelt entry (formed.each entry (0, omega arith, refl)),
  are_spelt entries (record { each = λ later at. formed.each later (suc at.0, omega (arith, at.1), at.2) }),
)

-- ---- what the first entry says that says anything, and the last

if_some : {Y : Type 0} (P : Y → Type 0) (b : Bool) (y : Y) → (b ≡ true → P y) → IfSome (if b then Some y else None) P
if_some P true y p = p refl
if_some P false y p = tt

either : {Y : Type 0} (P : Y → Type 0) (a b : Option Y) → IfSome a P → IfSome b P → IfSome (or_else a b) P
either P None b p q = q
either P (Some y) b p q = p

module _ {Y : Type 0} (says : Entry → Option Y) (P : Y → Type 0) (each : (entry : Entry) → IsSpelt entry → IfSome (says entry) P) where
  first_is : (history : List Entry) → AreSpelt history → IfSome (first_said says history) P
  first_is [] all = tt
  first_is (entry ∷ entries) all = either P (says entry) (first_said says entries) (each entry all.0) (first_is entries all.1)

  last_is : (history : List Entry) → AreSpelt history → IfSome (last_said says history) P
  last_is [] all = tt
  last_is (entry ∷ entries) all = either P (last_said says entries) (says entry) (last_is entries all.1) (each entry all.0)

-- ---- of each look-up

pub owner_is_bic : (account : List ℕ) (history : List Entry) → AreSpelt history → IfSome (owner_of history account) IsBic
owner_is_bic account = first_is (owner_by account) IsBic each
  where
    each : (entry : Entry) → IsSpelt entry → IfSome (owner_by account entry) IsBic
    each (Account reference bic a) spelt = if_some IsBic (bytes_eq a account) bic (λ same. spelt.1)
    each _ spelt = tt

pub day_is_day : (history : List Entry) → AreSpelt history → IfSome (last_said day_text history) IsDay
day_is_day = last_is day_text IsDay each
  where
    each : (entry : Entry) → IsSpelt entry → IfSome (day_text entry) IsDay
    each (Run reference day rule) spelt = spelt.1
    each _ spelt = tt

known_is_isin : (isin : List ℕ) (history : List Entry) → AreSpelt history → is_some (kind_of history isin) ≡ true → IsIsin isin
known_is_isin isin history all known = given (kind_of history isin) known (first_is (kind_by isin) (λ kind. IsIsin isin) each history all)
  where
    given : {X : Type 0} (found : Option X) → is_some found ≡ true → IfSome found (λ x. IsIsin isin) → IsIsin isin
    given None some is = absurd (cc)
    given (Some x) some is = is

    each : (entry : Entry) → IsSpelt entry → IfSome (kind_by isin entry) (λ kind. IsIsin isin)
    each (Security reference other kind) spelt = if_some (λ kind. IsIsin isin) (bytes_eq other isin) kind (λ same. subst IsIsin ((bytes_eq-Decides other isin).0 same) spelt.1)
    each _ spelt = tt

pub next_is_isin : (history : List Entry) → AreSpelt history → (above found : Option (List ℕ)) → IsSecurityAfter history above found → IfSome found IsIsin
next_is_isin history all above None next = tt
next_is_isin history all above (Some isin) next = known_is_isin isin history all next.0.0

-- ---- what is kept under a number

pub at_number : (P : Kept → Type 0) (register : List Kept) (n : ℕ) → AllByRecursion P register → IfSome (kept_at register n) P
at_number P [] zero all = tt
at_number P [] (suc n) all = tt
at_number P (kept ∷ more) zero all = tt
at_number P (kept ∷ more) (suc zero) all = all.0
at_number P (kept ∷ more) (suc (suc n)) all = at_number P more (suc n) all.1

pub spelt_at : (register : List Kept) (n : ℕ) → AreWellFormed (entries_in register) → IfSome (kept_at register n) (λ kept. IsSpelt kept.entry)
spelt_at register n formed = at_number (λ kept. IsSpelt kept.entry) register n (all_from_map IsSpelt (λ (kept : Kept). kept.entry) register (are_spelt (entries_in register) formed))
