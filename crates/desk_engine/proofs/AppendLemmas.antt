-- What the verdict says of an entry that is added.
use Rattle.std.proofs.Common.{◌≡◌, ℕ, ◌+◌, ◌<◌, ◌≤◌, inl, inr, Bool, true, false, List, [], ◌∷◌, length, Option, Some, None, refl, sym, ap, ◌∙◌, subst, arith}
use Rattle.std.specs.Prelude.{nat_le}
use Rattle.std.proofs.lemmas.Bool.{cases_Bool, cases_lt, both_ways}
use Rattle.std.proofs.lemmas.Bool.Decides.{nat_tests}
use Rattle.desk_rules.specs.declared.history.entry.Entry.{Entry}
use Rattle.desk_rules.specs.declared.history.entry.Entry.TheVariants.{Run}
use Rattle.desk_rules.specs.declared.history.entry.RunRule.{RunRule}
use Rattle.desk_rules.specs.declared.answers.reply.Reply.{Reply}
use Rattle.desk_rules.specs.declared.answers.verdict.Refusal.TheVariants.{Full}
use Rattle.desk_rules.specs.declared.answers.verdict.Verdict.TheVariants.{Accept, Refuse}
use Rattle.desk_rules.specs.Books.{Books}
use Rattle.desk_rules.specs.Content.{Content, history_of}
use Rattle.desk_rules.specs.History.{before, instruction_at, number_of_key, reference_of, sender_of}
use Rattle.desk_rules.specs.Tables.{HasStandings}
use Rattle.desk_rules.specs.Verdict.{Check, IsVerdict, IsVerdictAt, checks_of, first_failing, is_from_stranger, WasAccepted}
use Rattle.desk_register.specs.Changes.{BalancesAllow, CanAppend}
use Rattle.desk_register.specs.Checked.{checks_in, first_refusal}
use Rattle.desk_engine.specs.Pass.{IsPassed}
use Rattle.desk_engine.specs.Tables.{IsAccepted}
use Rattle.desk_rules.proofs.Existence.{books_exist}
use Rattle.desk_rules.proofs.HistoryLemmas.{entry_at-some, length-before}
use Rattle.desk_rules.proofs.StandsLemmas.{stands_is}
use Rattle.desk_engine.proofs.DecisionLemmas.{same_checks}
use Rattle.desk_engine.proofs.TablesLemmas.{length_is}

-- what is accepted is of a known sender and has a new key, no check of it fails, and there is room for it
pub record IsNew (limit : ℕ) (books : Books) (e : Entry) : Type 0 where
  pub known_sender : is_from_stranger books.history (sender_of e) ≡ false
  pub not_refused : first_refusal (checks_of books e) ≡ None
  pub new_key : number_of_key books.history (sender_of e) (reference_of e) ≡ None
  pub has_room : length books.history < limit

has_room : (checks : List Check) (full : Bool) → Accept ≡ first_failing checks full → full ≡ false
has_room [] full is = elim (cases_Bool full) [
  | inr less ↦ less
  | inl most ↦ let f : first_failing [] full ≡ Refuse Full = rw most refl in let g : Accept ≡ Refuse Full = is ∙ f in absurd (cc)
]
has_room (c ∷ checks) full is = elim (cases_Bool c.fails) [
  | inl bad ↦ let f : first_failing (c ∷ checks) full ≡ Refuse c.refusal = rw bad refl in let g : Accept ≡ Refuse c.refusal = is ∙ f in absurd (cc)
  | inr good ↦ let f : first_failing (c ∷ checks) full ≡ first_failing checks full = rw good refl in has_room checks full (is ∙ f)
]

none_refused : (checks : List Check) (full : Bool) → Accept ≡ first_failing checks full → first_refusal checks ≡ None
none_refused [] full is = refl
none_refused (c ∷ checks) full is = elim (cases_Bool c.fails) [
  | inl bad ↦ let f : first_failing (c ∷ checks) full ≡ Refuse c.refusal = rw bad refl in let g : Accept ≡ Refuse c.refusal = is ∙ f in absurd (cc)
  | inr good ↦ let f : first_failing (c ∷ checks) full ≡ first_failing checks full = rw good refl in rw good (none_refused checks full (is ∙ f))
]

room_at : (limit : ℕ) (books : Books) (e : Entry) (key : Option ℕ) → IsVerdictAt limit books e key Accept → (key ≡ None) × (length books.history < limit) × (first_refusal (checks_of books e) ≡ None)
room_at limit books e None v =
    let less = has_room (checks_of books e) (nat_le limit (length books.history)) v in
    let room : length books.history < limit = elim (cases_lt (length books.history) limit) [
      | inl lt ↦ lt
      | inr ge ↦ let test : nat_le limit (length books.history) ≡ true = grind (arith, nat_tests) in absurd (both_ways _ less test)
    ] in
    (refl, room, none_refused (checks_of books e) (nat_le limit (length books.history)) v)
room_at limit books e (Some n) v = absurd v

pub accepted_new : (limit : ℕ) (books : Books) (e : Entry) → IsVerdict limit books e Accept → IsNew limit books e
accepted_new limit books e v = elim (cases_Bool (is_from_stranger books.history (sender_of e))) [
  | inl stranger ↦ let w : Accept ≡ Refuse _ = (rw stranger at v) in absurd (cc)
  | inr known ↦
      let w : IsVerdictAt limit books e (number_of_key books.history (sender_of e) (reference_of e)) Accept = (rw known at v) in
      let is = room_at limit books e (number_of_key books.history (sender_of e) (reference_of e)) w in
      record { known_sender = known; not_refused = is.2; new_key = is.0; has_room = is.1 }
]

-- so it can be added, with the reply to what is accepted
can_append : (limit : ℕ) (books : Books) (e : Entry) (reply : Reply) (content : Content) → history_of content ≡ books.history → checks_in content e ≡ checks_of books e → IsVerdict limit books e Accept
    → reply.status ≡ 200 → BalancesAllow e content → CanAppend limit e reply content
can_append limit books e reply content same checks verdict status balances =
    let is = accepted_new limit books e verdict in
    let P : List Entry → Type 0 = λ h. number_of_key h (sender_of e) (reference_of e) ≡ None in
    let Q : List Entry → Type 0 = λ h. is_from_stranger h (sender_of e) ≡ false in
    let size : length content.register ≡ length books.history = length_is content books.history same in
    let room = is.has_room in
    record {
      known_sender = subst Q (sym same) is.known_sender;
      new_key = subst P (sym same) is.new_key;
      not_refused = ap first_refusal checks ∙ is.not_refused;
      has_room = omega arith;
      accepted = status;
      balances = balances;
    }

pub can_add : (limit : ℕ) (e : Entry) (reply : Reply) (content : Content) → IsAccepted limit e content → reply.status ≡ 200 → BalancesAllow e content → CanAppend limit e reply content
can_add limit e reply content accepted status balances =
    let books = accepted.books in
    let tables = accepted.tables in
    let standings : HasStandings books content = record { each = λ k. stands_is books tables.are_books k (content.standing k) (instruction_at books.history k) refl (tables.standing k) } in
    can_append limit books e reply content tables.history (same_checks books content tables.history standings tables.position tables.cash e) accepted.verdict status balances

-- a run is added after its passes
pub can_add_run : (limit : ℕ) (reference day : List ℕ) (rule : RunRule) (reply : Reply) (content : Content) → IsPassed limit (Run reference day rule) content → reply.status ≡ 200
    → CanAppend limit (Run reference day rule) reply content
can_add_run limit reference day rule reply content passed status =
    let same = passed.passed.history in
    can_append limit passed.books (Run reference day rule) reply content same (rw same refl) passed.verdict status tt

-- no more entries than there is room for
pub entries_within : (limit : ℕ) (h : List Entry) → WasAccepted limit h → length h ≤ limit
entries_within limit h was = elim (cases_lt 0 (length h)) [
  | inr none ↦ omega arith
  | inl some ↦
      let n = length h in
      let last = entry_at-some h n some (omega arith) in
      let b = books_exist (before n h) in
      let books : Books = record { history = before n h; pairs = b.0; settled = b.1 } in
      let verdict = was.each n last.0 books last.1 refl (record { pairing = b.2.pairing; settlement = b.2.settlement }) in
      let room = (accepted_new limit books last.0 verdict).has_room in
      let shorter : length (before n h) + 1 ≡ n = length-before h n some (omega arith) in
      omega arith
]
