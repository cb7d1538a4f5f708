-- What it says of an entry that it was accepted.
use Rattle.std.proofs.Common.{◌≡◌, ℕ, ◌+◌, ◌≤◌, inl, inr, Bool, false, List, [], ◌∷◌, ◌++◌, length, Option, Some, None, refl, sym, ◌∙◌, subst, arith, nat_le}
use Rattle.std.proofs.lemmas.Bool.{cases_Bool}
use Rattle.desk_rules.specs.declared.history.entry.Entry.{Entry}
use Rattle.desk_rules.specs.declared.history.pair.Pair.{Pair}
use Rattle.desk_rules.specs.declared.history.pair.Settled.{Settled}
use Rattle.desk_rules.specs.declared.answers.verdict.Verdict.TheVariants.{Accept, Refuse}
use Rattle.desk_rules.specs.History.{sender_of, reference_of, number_of_key}
use Rattle.desk_rules.specs.Books.{Books}
use Rattle.desk_rules.specs.Verdict.{Check, checks_of, first_failing, is_from_stranger, IsVerdictAt, IsVerdict, WasAccepted}
use Rattle.desk_rules.proofs.Decided.{In}
use Rattle.desk_rules.proofs.HistoryLemmas.{entry_at-known, entry_at-front, entry_at-end, before-front, before-all}
use Rattle.desk_rules.proofs.Existence.{HasBooks}

-- no check failed
pub none_fails : (checks : List Check) (is_full : Bool) → Accept ≡ first_failing checks is_full → (c : Check) → In checks c → c.fails ≡ false
none_fails [] is_full e c i = absurd i
none_fails (x ∷ checks) is_full e c i = elim (cases_Bool x.fails) [
  | inl bad ↦ let f : first_failing (x ∷ checks) is_full ≡ Refuse x.refusal = rw bad refl in let g : Accept ≡ Refuse x.refusal = e ∙ f in absurd (cc)
  | inr good ↦
      let f : first_failing (x ∷ checks) is_full ≡ first_failing checks is_full = rw good refl in
      let P : Check → Type 0 = λ z. z.fails ≡ false in
      elim i [ inl same ↦ subst P same good | inr later ↦ none_fails checks is_full (e ∙ f) c later ]
]

pub record Passes (books : Books) (e : Entry) : Type 0 where
  pub known : is_from_stranger books.history (sender_of e) ≡ false
  pub checks : (c : Check) → In (checks_of books e) c → c.fails ≡ false

passes_at : (limit : ℕ) (books : Books) (e : Entry) (key : Option ℕ) → IsVerdictAt limit books e key Accept → (c : Check) → In (checks_of books e) c → c.fails ≡ false
passes_at limit books e None v = none_fails (checks_of books e) (nat_le limit (length books.history)) v
passes_at limit books e (Some n) v = absurd v

pub passes : (limit : ℕ) (books : Books) (e : Entry) → IsVerdict limit books e Accept → Passes books e
passes limit books e v = elim (cases_Bool (is_from_stranger books.history (sender_of e))) [
  | inl stranger ↦
      let w : Accept ≡ Refuse _ = (rw stranger at v) in absurd (cc)
  | inr known ↦
      let w : IsVerdictAt limit books e (number_of_key books.history (sender_of e) (reference_of e)) Accept = (rw known at v) in
      record { known = known; checks = passes_at limit books e (number_of_key books.history (sender_of e) (reference_of e)) w }
]

-- A longer history that was accepted.

pub accepted_front : (limit : ℕ) (h g : List Entry) → WasAccepted limit (h ++ g) → WasAccepted limit h
accepted_front limit h g was = record {
  each = λ n e books at history are.
      let known = entry_at-known h n e at in
      was.each n e books (entry_at-front h g n known.1 ∙ at) (history ∙ sym (before-front h g n (let le : n ≤ length h = known.1 in omega arith))) are;
}

pub accepted_last : (limit : ℕ) (h : List Entry) (e : Entry) (ps : List Pair) (settled : List Settled) → WasAccepted limit (h ++ e ∷ []) → HasBooks h ps settled
    → Passes (record { history = h; pairs = ps; settled = settled }) e
accepted_last limit h e ps settled was has =
    let books : Books = record { history = h; pairs = ps; settled = settled } in
    passes limit books e (was.each (length h + 1) e books (entry_at-end h e (length h + 1) refl) (sym (before-all h (e ∷ []) (length h + 1) refl)) (record { pairing = has.pairing; settlement = has.settlement }))
