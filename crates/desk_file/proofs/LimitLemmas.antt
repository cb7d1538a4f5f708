-- A history that was accepted is accepted by any desk that may hold as many entries.
use Rattle.std.proofs.Common.{◌≡◌, ◌≤◌, ◌<◌, ℕ, inl, inr, Bool, false, List, [], ◌∷◌, length, nat_le, Option, Some, None, arith, refl}
use Rattle.std.proofs.lemmas.Bool.{cases_Bool, lt-leb}
use Rattle.desk_rules.specs.declared.answers.verdict.Verdict.TheVariants.{Accept, Refuse}
use Rattle.desk_rules.specs.declared.history.entry.Entry.{Entry}
use Rattle.desk_rules.specs.Books.{Books}
use Rattle.desk_rules.specs.History.{before, number_of_key, reference_of, sender_of}
use Rattle.desk_rules.specs.Verdict.{Check, IsVerdict, IsVerdictAt, WasAccepted, checks_of, first_failing, is_from_stranger}
use Rattle.desk_rules.proofs.Accepted.{none_fails}
use Rattle.desk_rules.proofs.Decided.{In}
use Rattle.desk_rules.proofs.HistoryLemmas.{entry_at-known, length-before}

-- where no check fails and there is room, the verdict is to accept
accepts : (checks : List Check) (is_full : Bool) → is_full ≡ false → ((c : Check) → In checks c → c.fails ≡ false) → Accept ≡ first_failing checks is_full
accepts [] is_full room passes = rw room refl
accepts (c ∷ checks) is_full room passes = rw (passes c (inl refl)) (accepts checks is_full room (λ d i. passes d (inr i)))

module _ (most limit : ℕ) where
  accepted_key : (books : Books) (e : Entry) (key : Option ℕ) → length books.history < limit → IsVerdictAt most books e key Accept → IsVerdictAt limit books e key Accept
  accepted_key books e None room was =
      accepts (checks_of books e) (nat_le limit (length books.history)) (lt-leb limit (length books.history) room) (none_fails (checks_of books e) (nat_le most (length books.history)) was)
  accepted_key books e (Some n) room was = was

  accepted_entry : (books : Books) (e : Entry) → length books.history < limit → IsVerdict most books e Accept → IsVerdict limit books e Accept
  accepted_entry books e room was = elim (cases_Bool (is_from_stranger books.history (sender_of e))) [
    | inl stranger ↦ (let refused : Accept ≡ Refuse _ = (rw stranger at was) in absurd (cc))
    | inr known ↦ (
        let key = number_of_key books.history (sender_of e) (reference_of e) in
        let at_key : IsVerdictAt most books e key Accept = (rw known at was) in
        rw known (accepted_key books e key room at_key))
  ]

  pub accepted_within : (h : List Entry) → length h ≤ limit → WasAccepted most h → WasAccepted limit h
  accepted_within h few was = record {
    each = λ n e books at is are.
        let known = entry_at-known h n e at in
        let some = known.0 in
        let last = known.1 in
        let size = length-before h n some (omega (arith, last)) in
        let own : length books.history ≡ length (before n h) = rw is refl in
        accepted_entry books e (omega (arith, few, some, last, size, own)) (was.each n e books at is are);
  }
