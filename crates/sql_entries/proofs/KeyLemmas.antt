-- A row that is put behind the others of the register keeps the key of sender and reference, where that key was not used.
use Rattle.std.proofs.Common.{◌≡◌, ◌≢◌, inl, inr, ℕ, ◌+◌, pos, List, [], ◌∷◌, ◌++◌, Bool, true, false, not, ◌&&◌, None, refl, sym, ap, subst, ◌∙◌}
use Rattle.std.specs.List.{AllByRecursion, list_any}
use Rattle.std.specs.Ordering.{is_ne}
use Rattle.std.specs.Str.{bytes_eq}
use Rattle.std.proofs.lemmas.Bool.{and_left, and_parts, and_right, both_ways, cases_Bool, or_from}
use Rattle.std.proofs.lemmas.List.Folds.{list_any-append}
use Rattle.std.proofs.lemmas.Slice.Eq.{bytes_eq-Decides}
use Rattle.sqlite.specs.Order.{Row, value_cmp}
use Rattle.sqlite.specs.declared.types.Value.TheVariants.{Int}
use Rattle.sqlite.specs.Ops.{binary}
use Rattle.sqlite.specs.Tree.{Trees, rowid}
use Rattle.sqlite_value.specs.Keys.{first_key}
use Rattle.sqlite_schema.specs.Rules.{agree, clashes, differ, passes}
use Rattle.sqlite_schema.specs.declared.schema.Constraint.TheVariants.{Unique}
use Rattle.sqlite_trees.proofs.ListLemmas.{all-append, all_weaker}
use Rattle.desk_rules.specs.declared.history.entry.Entry.{Entry}
use Rattle.desk_rules.specs.declared.history.entry.Entry.TheVariants.{Instruct, Cancel}
use Rattle.desk_rules.specs.declared.history.entry.Sender.{Sender}
use Rattle.desk_rules.specs.declared.history.entry.Sender.TheVariants.{Operator, Participant as FromParticipant}
use Rattle.desk_rules.specs.declared.answers.reply.Kept.{Kept}
use Rattle.desk_rules.specs.declared.answers.reply.Reply.{Reply}
use Rattle.desk_rules.specs.History.{has_key, number_from, reference_of, same_sender, sender_of}
use Rattle.desk_rules.specs.Spelt.{IsSpelt}
use Rattle.sql_tables.specs.Schema.{ascending, desk_schema, register_table}
use Rattle.sql_tables.proofs.UniqueLemmas.{AreUnique}
use Rattle.sql_tables.proofs.ValueLemmas.{and_true, number_equal, text_test, truth_of}
use Rattle.sql_entries.specs.Columns.{sender_text}
use Rattle.sql_entries.specs.Entries.{entries_in, row_of, rows_from}
use Rattle.sql_entries.proofs.FormedLemmas.{AreSpelt}
use Rattle.sql_entries.proofs.LookLemmas.{bic_is_some}

-- ---- a key that no entry has, no row has

-- the texts of the key are the same
abbrev same_key : Entry → Entry → Bool
same_key a b = bytes_eq (sender_text (sender_of a)) (sender_text (sender_of b)) && bytes_eq (reference_of a) (reference_of b)

abbrev HasName : Sender → Type 0
HasName Operator = Unit {0}
HasName (FromParticipant bic) = bic ≢ []

has_name : (entry : Entry) → IsSpelt entry → HasName (sender_of entry)
has_name (Instruct sender instruction) spelt = bic_is_some sender spelt.0
has_name (Cancel sender order) spelt = bic_is_some sender spelt.0
has_name _ spelt = tt

same_text : (a b : Sender) → HasName a → HasName b → bytes_eq (sender_text a) (sender_text b) ≡ same_sender a b
same_text Operator Operator p q = refl
same_text Operator (FromParticipant []) p q = absurd (q refl)
same_text Operator (FromParticipant (x ∷ xs)) p q = refl
same_text (FromParticipant []) Operator p q = absurd (p refl)
same_text (FromParticipant (x ∷ xs)) Operator p q = refl
same_text (FromParticipant a) (FromParticipant b) p q = refl

-- no entry has the key of this one
abbrev pub IsNewKey : Entry → List Kept → Type 0
IsNewKey entry = AllByRecursion (λ kept. same_key kept.entry entry ≡ false)

pub new_key : (entry : Entry) → IsSpelt entry → (n : ℕ) (register : List Kept) → AreSpelt (entries_in register) → number_from n (sender_of entry) (reference_of entry) (entries_in register) ≡ None → IsNewKey entry register
new_key entry spelt n [] all none = tt
new_key entry spelt n (kept ∷ more) all none = elim (cases_Bool (has_key (sender_of entry) (reference_of entry) kept.entry)) [
  | inl here ↦ absurd (let e = rw here at none in cc)
  | inr apart ↦ (
    ap (λ b. b && bytes_eq (reference_of kept.entry) (reference_of entry)) (same_text (sender_of kept.entry) (sender_of entry) (has_name kept.entry all.0) (has_name entry spelt)) ∙ apart,
    new_key entry spelt (n + 1) more all.1 (rw apart at none),
  )
]

same_flips : (a b : Entry) → same_key a b ≡ false → same_key b a ≡ false
same_flips a b apart = elim (cases_Bool (same_key b a)) [
  | inl here ↦ (
      let both = and_parts (bytes_eq (sender_text (sender_of b)) (sender_text (sender_of a))) (bytes_eq (reference_of b) (reference_of a)) here in
      let sender = sym ((bytes_eq-Decides (sender_text (sender_of b)) (sender_text (sender_of a))).0 both.0) in
      let reference = sym ((bytes_eq-Decides (reference_of b) (reference_of a)).0 both.1) in
      absurd (both_ways _ apart (flipped ((bytes_eq-Decides (sender_text (sender_of a)) (sender_text (sender_of b))).1 sender) ((bytes_eq-Decides (reference_of a) (reference_of b)).1 reference))))
  | inr other ↦ other
]
  where
    flipped : bytes_eq (sender_text (sender_of a)) (sender_text (sender_of b)) ≡ true → bytes_eq (reference_of a) (reference_of b) ≡ true → same_key a b ≡ true
    flipped p q = ap (λ x. x && bytes_eq (reference_of a) (reference_of b)) p ∙ q

-- ---- as the rules of the table see it

abbrev key : List ℕ
key = 2 ∷ 3 ∷ []

abbrev meets : Row → Row → Bool
meets r s = agree ascending key s key r && differ (rowid s) (rowid r)

agree_rows : (m n : ℕ) (a b : Entry) (p q : Reply) → agree ascending key (row_of m a p) key (row_of n b q) ≡ same_key a b
unfolding binary first_key
agree_rows m n a b p q =
    rw (text_test (sender_text (sender_of a)) (sender_text (sender_of b)), text_test (reference_of a) (reference_of b), and_true (bytes_eq (reference_of a) (reference_of b))) refl

differ_not : (n : ℕ) → differ (Int (pos n)) (Int (pos n)) ≡ false
unfolding binary
differ_not n = truth_of (is_ne (value_cmp (Int (pos n)) (Int (pos n)))) ∙ ap is_ne (number_equal n)

free_passes : (db : Trees) (row : Row) → clashes ascending key (db 6) row ≡ false → passes Unique desk_schema db register_table row ≡ true
free_passes db row free = ap (λ b. not b && true) free

passes_free : (db : Trees) (row : Row) → passes Unique desk_schema db register_table row ≡ true → clashes ascending key (db 6) row ≡ false
passes_free db row passes' = elim (cases_Bool (clashes ascending key (db 6) row)) [
  | inl here ↦ absurd (both_ways _ (ap (λ b. not b && true) here) passes')
  | inr apart ↦ apart
]

module _ (entry : Entry) (reply : Reply) (number : ℕ) where
  abbrev new : Row
  new = row_of number entry reply

  new_free : (n : ℕ) (register : List Kept) → IsNewKey entry register → list_any (meets new) (rows_from n register) ≡ false
  new_free n [] apart = refl
  new_free n (kept ∷ more) apart =
      or_from (meets new (row_of (n + 1) kept.entry kept.reply)) (list_any (meets new) (rows_from (n + 1) more))
      (and_left _ _ (agree_rows (n + 1) number kept.entry entry kept.reply reply ∙ apart.0)) (new_free (n + 1) more apart.1)

  new_itself : meets new new ≡ false
  new_itself = and_right (agree ascending key new key new) _ (differ_not number)

  -- the others are free of it
  old_free : (held : List Row) (n : ℕ) (register : List Kept) → IsNewKey entry register → AllByRecursion (λ row. clashes ascending key held row ≡ false) (rows_from n register)
      → AllByRecursion (λ row. clashes ascending key (held ++ new ∷ []) row ≡ false) (rows_from n register)
  old_free held n [] apart free = tt
  old_free held n (kept ∷ more) apart free =
      let row = row_of (n + 1) kept.entry kept.reply in (
        list_any-append (meets row) held (new ∷ [])
            ∙ or_from _ _ free.0 (or_from (meets row new) false (and_left _ _ (agree_rows number (n + 1) entry kept.entry reply kept.reply ∙ same_flips kept.entry entry apart.0)) refl),
        old_free held (n + 1) more apart.1 free.1,
      )

  -- each row of the table passes, with the new one behind the others
  pub all_unique : (db : Trees) (register : List Kept) → db 6 ≡ rows_from 0 register → IsNewKey entry register → AllByRecursion (λ row. passes Unique desk_schema db register_table row ≡ true) (db 6)
      → AreUnique register_table db (rows_from 0 register ++ new ∷ [])
  all_unique db register is apart kept =
      let held = rows_from 0 register in
      let free : AllByRecursion (λ row. clashes ascending key held row ≡ false) held =
      subst (λ rows. AllByRecursion (λ row. clashes ascending key rows row ≡ false) rows) is (all_weaker _ (λ row. clashes ascending key (db 6) row ≡ false) (passes_free db) (db 6) kept) in
      let last : clashes ascending key (held ++ new ∷ []) new ≡ false = list_any-append (meets new) held (new ∷ []) ∙ or_from _ _ (new_free 0 register apart) (or_from (meets new new) false new_itself refl) in
      all_weaker (λ row. clashes ascending key (held ++ new ∷ []) row ≡ false) _ (λ row is_free. ap (λ b. not b && true) is_free) (held ++ new ∷ [])
      (all-append (λ row. clashes ascending key (held ++ new ∷ []) row ≡ false) held (new ∷ []) (old_free held 0 register apart free) (last, tt))
