-- Which rows of the register pass the tests of the texts.
use Rattle.std.proofs.Common.{◌≡◌, ◌≢◌, inl, inr, ℕ, pos, List, [], ◌∷◌, Bool, true, false, not, ◌&&◌, nat_eq, nat_lt, Some, refl, sym, ap, subst, ◌∙◌, arith}
use Rattle.std.specs.Str.{bytes_eq}
use Rattle.std.specs.Ordering.{is_ne, is_gt, nat_cmp, int_cmp}
use Rattle.std.specs.Cmp.Lexicographic.{slice_cmp}
use Rattle.std.proofs.lemmas.Bool.{le-ltb, lt-ltb}
use Rattle.std.proofs.lemmas.Bool.Decides.{nat_tests}
use Rattle.sqlite.specs.Order.{Row, value_cmp}
use Rattle.sqlite_value.proofs.OrderLemmas.{value_cmp-Int}
use Rattle.sqlite.specs.declared.types.Value.TheVariants.{Int, Text as Words}
use Rattle.sqlite.specs.Ops.{binary, is_true, from_truth}
use Rattle.desk_rules.specs.declared.history.entry.Entry.{Entry}
use Rattle.desk_rules.specs.declared.history.entry.Entry.TheVariants.{Participant, Account, Security, Issue, Redeem, PayIn, PayOut, Instruct, Cancel, Run}
use Rattle.desk_rules.specs.declared.history.entry.Sender.{Sender}
use Rattle.desk_rules.specs.declared.history.entry.Sender.TheVariants.{Operator, Participant as FromParticipant}
use Rattle.desk_rules.specs.declared.answers.reply.Reply.{Reply}
use Rattle.desk_rules.specs.History.{sender_of, reference_of, same_sender, has_key}
use Rattle.sql_tables.specs.Queries.{passes_all, equals}
use Rattle.sql_tables.proofs.ValueLemmas.{truth_of, and_true, equal_test, number_equal, number_greater, number_less, text_test, text_above_test, three_ways}
use Rattle.sql_entries.specs.Columns.{sender_text, kind_number, about_of}
use Rattle.sql_entries.specs.Entries.{row_of}
use Rattle.sql_entries.proofs.FindingTexts.{is_number, is_other, is_empty, is_above}

-- ---- one test of a row

nat_unequal : (m n : ℕ) → is_ne (int_cmp (pos m) (pos n)) ≡ not (nat_eq m n)
nat_unequal m n = grind (arith, nat_tests)

other_test : (m n : ℕ) → is_true (from_truth (Some (is_ne (value_cmp (Int (pos m)) (Int (pos n)))))) ≡ not (nat_eq m n)
other_test m n = truth_of (is_ne (value_cmp (Int (pos m)) (Int (pos n)))) ∙ ap is_ne (value_cmp-Int (pos m) (pos n)) ∙ nat_unequal m n

number_above : (m n : ℕ) → is_gt (value_cmp (Int (pos m)) (Int (pos n))) ≡ nat_lt n m
number_above m n = elim (three_ways m n) [
  | inl low ↦ ap is_gt (number_less m n low) ∙ sym (le-ltb n m (omega (arith, low)))
  | inr (inl same) ↦ subst (λ k. is_gt (value_cmp (Int (pos m)) (Int (pos k))) ≡ nat_lt k m) same (ap is_gt (number_equal m) ∙ sym (le-ltb m m (omega arith)))
  | inr (inr high) ↦ ap is_gt (number_greater m n high) ∙ sym (lt-ltb n m high)
]

pub number_above_test : (m n : ℕ) → is_true (from_truth (Some (is_gt (value_cmp (Int (pos m)) (Int (pos n)))))) ≡ nat_lt n m
number_above_test m n = truth_of (is_gt (value_cmp (Int (pos m)) (Int (pos n)))) ∙ number_above m n

module _ (number : ℕ) (entry : Entry) (reply : Reply) where
  abbrev row : Row
  row = row_of number entry reply

  -- an entry of this kind, about this
  pub about_test : (kind : ℕ) (about : List ℕ) → passes_all (is_number 4 kind ∷ equals 5 0 ∷ []) (Words about ∷ []) row ≡ (nat_eq (kind_number entry) kind && bytes_eq (about_of entry) about)
  unfolding binary
  about_test kind about = rw (equal_test (kind_number entry) kind, text_test (about_of entry) about) (ap (λ b. nat_eq (kind_number entry) kind && b) (and_true (bytes_eq (about_of entry) about)))

  -- an entry of this kind
  pub kind_test : (kind : ℕ) → passes_all (is_number 4 kind ∷ []) [] row ≡ nat_eq (kind_number entry) kind
  unfolding binary
  kind_test kind = rw (equal_test (kind_number entry) kind) (and_true (nat_eq (kind_number entry) kind))

  -- an entry of this kind, about something above this
  pub later_test : (kind : ℕ) (about : List ℕ) → passes_all (is_number 4 kind ∷ is_above 5 0 ∷ []) (Words about ∷ []) row ≡ (nat_eq (kind_number entry) kind && is_gt (slice_cmp nat_cmp (about_of entry) about))
  unfolding binary
  later_test kind about = rw (equal_test (kind_number entry) kind, text_above_test (about_of entry) about) (ap (λ b. nat_eq (kind_number entry) kind && b) (and_true (is_gt (slice_cmp nat_cmp (about_of entry) about))))

  -- an entry of this kind, about nothing
  pub plain_test : (kind : ℕ) → passes_all (is_number 4 kind ∷ is_empty 5 ∷ []) [] row ≡ (nat_eq (kind_number entry) kind && bytes_eq (about_of entry) [])
  unfolding binary
  plain_test kind = rw (equal_test (kind_number entry) kind, text_test (about_of entry) []) (ap (λ b. nat_eq (kind_number entry) kind && b) (and_true (bytes_eq (about_of entry) [])))

  -- an entry of a participant, with a reference
  pub participants_test : (bic reference : List ℕ) → bic ≢ [] → passes_all (equals 2 0 ∷ equals 3 1 ∷ []) (Words bic ∷ Words reference ∷ []) row ≡ has_key (FromParticipant bic) reference entry
  unfolding binary
  participants_test bic reference named =
      rw (text_test (sender_text (sender_of entry)) bic, text_test (reference_of entry) reference)
      (ap (λ b. bytes_eq (sender_text (sender_of entry)) bic && b) (and_true (bytes_eq (reference_of entry) reference)) ∙ ap (λ b. b && bytes_eq (reference_of entry) reference) (same (sender_of entry) bic named))
    where
      same : (sender : Sender) (bic : List ℕ) → bic ≢ [] → bytes_eq (sender_text sender) bic ≡ same_sender sender (FromParticipant bic)
      same Operator [] named = absurd (named refl)
      same Operator (b ∷ bs) named = refl
      same (FromParticipant other) bic named = refl

  -- an entry of the operator, with a reference
  pub operators_test : (reference : List ℕ) → passes_all (is_empty 2 ∷ equals 3 0 ∷ is_other 4 8 ∷ is_other 4 9 ∷ []) (Words reference ∷ []) row ≡ has_key Operator reference entry
  unfolding binary
  operators_test reference =
      rw (text_test (sender_text (sender_of entry)) [], text_test (reference_of entry) reference, other_test (kind_number entry) 8, other_test (kind_number entry) 9) (same entry)
    where
      neither : (a b : Bool) → (a && (b && false)) ≡ false
      neither true true = refl
      neither true false = refl
      neither false b = refl

      same : (entry : Entry) → (bytes_eq (sender_text (sender_of entry)) [] && (bytes_eq (reference_of entry) reference && (not (nat_eq (kind_number entry) 8) && (not (nat_eq (kind_number entry) 9) && true)))) ≡ has_key Operator reference entry
      same (Participant reference' bic) = and_true (bytes_eq reference' reference)
      same (Account reference' bic account) = and_true (bytes_eq reference' reference)
      same (Security reference' isin kind) = and_true (bytes_eq reference' reference)
      same (Issue movement) = and_true (bytes_eq movement.reference reference)
      same (Redeem movement) = and_true (bytes_eq movement.reference reference)
      same (PayIn payment) = and_true (bytes_eq payment.reference reference)
      same (PayOut payment) = and_true (bytes_eq payment.reference reference)
      same (Instruct sender instruction) = neither (bytes_eq sender []) (bytes_eq instruction.reference reference)
      same (Cancel sender order) = neither (bytes_eq sender []) (bytes_eq order.reference reference)
      same (Run reference' day rule) = and_true (bytes_eq reference' reference)
