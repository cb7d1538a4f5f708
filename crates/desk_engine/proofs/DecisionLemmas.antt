-- How a verdict is put together.
use Rattle.std.proofs.Common.{◌≡◌, inl, inr, ℕ, ◌+◌, ◌-◌, ◌<◌, ◌≤◌, ◌==◌, nat_lt, Bool, true, false, List, [], ◌∷◌, length, Option, Some, None, is_none, if◌then◌else◌, refl, ap, sym, ◌∙◌, arith}
use Rattle.std.specs.List.{list_any}
use Rattle.std.proofs.lemmas.Bool.{cases_Bool, cases_lt, le-leb, le-ltb, lt-ltb, or_parts}
use Rattle.std.proofs.lemmas.Bool.Decides.{nat_tests}
use Rattle.std.proofs.lemmas.List.{length-map}
use Rattle.std.proofs.lemmas.List.Sums.{sum_by-cons}
use Rattle.desk_codes.specs.declared.currency.Ccy.{Ccy}
use Rattle.desk_register.specs.Looked.{IsPaid, pays_in}
use Rattle.std.specs.Prelude.{nat_le, option_and_then, option_map, Result, Ok, Err, IfOk}
use Rattle.desk_msg.specs.declared.instruction.CancelOrder.{CancelOrder}
use Rattle.desk_msg.specs.MessageType.{number_of_type}
use Rattle.desk_register.specs.declared.register.Fault.{Fault}
use Rattle.desk_rules.specs.declared.history.entry.Entry.{Entry}
use Rattle.desk_rules.specs.declared.history.entry.Entry.TheVariants.{Participant, Account, Security, Issue, Redeem, PayIn, PayOut, Instruct, Cancel, Run}
use Rattle.desk_rules.specs.declared.answers.verdict.Verdict.{Verdict}
use Rattle.desk_rules.specs.declared.answers.verdict.Verdict.TheVariants.{Accept, Repeat, Refuse}
use Rattle.desk_rules.specs.declared.answers.verdict.Refusal.{Refusal}
use Rattle.desk_rules.specs.declared.history.entry.Sender.{Sender}
use Rattle.desk_rules.specs.declared.history.entry.Instructed.{Instructed}
use Rattle.desk_rules.specs.declared.history.entry.Sender.TheVariants.{Participant as FromParticipant}
use Rattle.desk_rules.specs.declared.history.pair.Pair.{Pair}
use Rattle.desk_rules.specs.declared.history.standing.Standing.{Standing}
use Rattle.desk_rules.specs.declared.answers.verdict.Refusal.TheVariants.{NoSuchInstruction, AlreadyCancelled, AlreadySettled, CancellationWaits, Full, OverLimit}
use Rattle.desk_rules.specs.declared.history.entry.Payment.{Payment}
use Rattle.desk_rules.specs.declared.limits.TheConstants.{MOST_PAID}
use Rattle.desk_rules.specs.Balances.{credits, debits, cash_credits, cash_debits, paid_in, paid_in_by, paid_out, payment_in}
use Rattle.desk_rules.specs.History.{as_asked, entry_at, instructed, instruction_at, number_of_key, sender_of, reference_of}
use Rattle.desk_rules.specs.Books.{Books, is_settled}
use Rattle.desk_rules.specs.Cancelled.{is_cancel_requested}
use Rattle.desk_rules.specs.Facts.{is_participant}
use Rattle.desk_rules.specs.Content.{Content, history_of}
use Rattle.desk_rules.specs.Pairing.{pair_of}
use Rattle.desk_rules.specs.Standing.{instruction_state, is_called_off, is_cancelled, open_state}
use Rattle.desk_rules.specs.Tables.{AreCashBalances, ArePositions, AreTables, HasStandings}
use Rattle.desk_rules.specs.Verdict.{Check, check, checks_of, first_failing, holds_of, if_of_type, IsVerdict, IsVerdictAt, is_from_stranger, named_by, reused_by}
use Rattle.desk_engine.specs.Deciding.{IsVerdictOnKey}
use Rattle.desk_register.specs.Checked.{checks_in, first_refusal, is_cancelled_state, is_settled_state, with_history}
use Rattle.desk_register.proofs.CaseLemmas.{by_bool}

-- a refusal is the verdict
pub refused : (checks : List Check) (refusal : Refusal) (is_full : Bool) → Some refusal ≡ first_refusal checks → Refuse refusal ≡ first_failing checks is_full
refused [] refusal is_full is = absurd (cc)
refused (c ∷ checks) refusal is_full is =
    by_bool c.fails
    (λ yes. let e : Some refusal ≡ Some c.refusal = rw yes at is in let same : refusal ≡ c.refusal = cc in rw (yes, same) refl)
    (λ passes. let e : Some refusal ≡ first_refusal checks = rw passes at is in rw passes (refused checks refusal is_full e))

not_refused : (checks : List Check) (is_full : Bool) → None ≡ first_refusal checks → first_failing checks is_full ≡ first_failing [] is_full
not_refused [] is_full is = refl
not_refused (c ∷ checks) is_full is =
    by_bool c.fails
    (λ fails. let clash : None ≡ Some c.refusal = rw fails at is in absurd (cc))
    (λ passes. let e : None ≡ first_refusal checks = rw passes at is in rw passes (not_refused checks is_full e))

-- where no check fails it is full, or accepted
module _ (limit count : ℕ) (content : Content) (entry : Entry) (counted : count ≡ length content.register) (none : None ≡ first_refusal (checks_in content entry)) where
  as_many : count ≡ length (history_of content)
  as_many = counted ∙ sym (length-map content.register (λ k. k.entry))

  pub verdict_full : limit ≤ count → Refuse Full ≡ first_failing (checks_in content entry) (nat_le limit (length (history_of content)))
  verdict_full full =
      let is = as_many in
      let test : nat_le limit (length (history_of content)) ≡ true = le-leb _ _ (omega arith) in
      sym (not_refused (checks_in content entry) (nat_le limit (length (history_of content))) none ∙ rw test refl)

  pub verdict_accept : count < limit → Accept ≡ first_failing (checks_in content entry) (nat_le limit (length (history_of content)))
  verdict_accept room =
      let is = as_many in
      let lt : length (history_of content) < limit = omega arith in
      let test : nat_le limit (length (history_of content)) ≡ false = grind (arith, nat_tests) in
      sym (not_refused (checks_in content entry) (nat_le limit (length (history_of content))) none ∙ rw test refl)

-- What is paid in of a currency, where nothing is.

none_in : (e : Entry) (ccy : Ccy) → pays_in ccy e ≡ false → paid_in_by (payment_in ccy) e ≡ 0
none_in (Participant reference bic) ccy none = refl
none_in (Account reference bic account) ccy none = refl
none_in (Security reference isin kind) ccy none = refl
none_in (Issue movement) ccy none = refl
none_in (Redeem movement) ccy none = refl
none_in (PayIn payment) ccy none = rw none refl
none_in (PayOut payment) ccy none = refl
none_in (Instruct sender instruction) ccy none = refl
none_in (Cancel sender order) ccy none = refl
none_in (Run reference day rule) ccy none = refl

nothing_in : (h : List Entry) (ccy : Ccy) → list_any (pays_in ccy) h ≡ false → paid_in h ccy ≡ 0
nothing_in [] ccy none = refl
nothing_in (e ∷ h) ccy none =
    let parts = or_parts (pays_in ccy e) (list_any (pays_in ccy) h) none in
    let first = none_in e ccy parts.0 in
    let rest = nothing_in h ccy parts.1 in
    let both = sum_by-cons (paid_in_by (payment_in ccy)) e h in
    omega arith

pub over_limit : (h : List Entry) (payment : Payment) (paid : ℕ) → payment.amount ≤ MOST_PAID → IsPaid h payment.ccy (Some paid)
    → nat_lt (MOST_PAID - payment.amount) paid ≡ nat_lt (paid_out h payment.ccy + MOST_PAID) (paid_in h payment.ccy + payment.amount)
over_limit h payment paid within is =
    let sum = is.1 in
    elim (cases_lt (MOST_PAID - payment.amount) paid) [
      | inl lt ↦ lt-ltb (MOST_PAID - payment.amount) paid lt ∙ sym (lt-ltb _ _ (omega arith))
      | inr le ↦ le-ltb (MOST_PAID - payment.amount) paid (omega arith) ∙ sym (le-ltb _ _ (omega arith))
    ]

pub within_limit : (h : List Entry) (payment : Payment) → payment.amount ≤ MOST_PAID → IsPaid h payment.ccy None
    → false ≡ nat_lt (paid_out h payment.ccy + MOST_PAID) (paid_in h payment.ccy + payment.amount)
within_limit h payment within is = (let none = nothing_in h payment.ccy is in sym (le-ltb _ _ (omega arith)))

-- The checks that a register makes by its balances and states are those of its books.

-- more debits on both sides change nothing
less_same : (balance debits credits amount : ℕ) → balance + debits ≡ credits → nat_lt balance amount ≡ nat_lt credits (debits + amount)
less_same balance debits credits amount is = elim (cases_lt balance amount) [
  | inl lt ↦ lt-ltb balance amount lt ∙ sym (lt-ltb credits (debits + amount) (omega arith))
  | inr le ↦ le-ltb balance amount (omega arith) ∙ sym (le-ltb credits (debits + amount) (omega arith))
]

holds_same : (f g : ℕ → Bool) (named : Option ℕ) → ((k : ℕ) → named ≡ Some k → f k ≡ g k) → holds_of f named ≡ holds_of g named
holds_same f g None each = refl
holds_same f g (Some k) each = each k refl

-- what a cancellation names is an instruction
pub named_instructed : (mt k : ℕ) (i : Option Instructed) (n : ℕ) → if_of_type mt k i ≡ Some n → (n ≡ k) × ((other : Instructed) × (i ≡ Some other))
named_instructed mt k None n is = absurd (cc)
named_instructed mt k (Some i) n is = elim (cases_Bool (number_of_type i.instruction.mt == mt)) [
  | inl same_type ↦
      let both : Some k ≡ Some n = (rw same_type at is) in
      let number : n ≡ k = cc in
      (number, (i, refl))
  | inr other_type ↦ (let clash : None ≡ Some n = (rw other_type at is) in absurd (cc))
]

named_is : (h : List Entry) (mt : ℕ) (found : Option ℕ) (n : ℕ) → option_and_then (λ k. if_of_type mt k (instruction_at h k)) found ≡ Some n → (i : Instructed) × (instruction_at h n ≡ Some i)
named_is h mt None n is = absurd (cc)
named_is h mt (Some k) n is =
    let f = named_instructed mt k (instruction_at h k) n is in
    (f.1.0, ap (instruction_at h) f.0 ∙ f.1.1)

-- the state of an instruction says whether it is cancelled, and whether it is settled
open_not_cancelled : (books : Books) (p : Option Pair) → is_cancelled_state (open_state books p) ≡ false
open_not_cancelled books None = refl
open_not_cancelled books (Some p) = refl

open_not_settled : (books : Books) (p : Option Pair) → is_settled_state (open_state books p) ≡ false
open_not_settled books None = refl
open_not_settled books (Some p) = refl

pub tells_cancelled : (books : Books) (n : ℕ) (i : Instructed) → is_cancelled_state (instruction_state books n (Some i)) ≡ is_cancelled books n
tells_cancelled books n i =
    by_bool (is_settled books n)
    (λ yes. rw yes refl)
    (λ no. by_bool (is_called_off books.history n (pair_of books.pairs n)) (λ off. rw (no, off) refl) (λ on. rw (no, on) (open_not_cancelled books (pair_of books.pairs n))))

pub tells_settled : (books : Books) (n : ℕ) (i : Instructed) → is_settled_state (instruction_state books n (Some i)) ≡ is_settled books n
tells_settled books n i =
    by_bool (is_settled books n)
    (λ yes. rw yes refl)
    (λ no. by_bool (is_called_off books.history n (pair_of books.pairs n)) (λ off. rw (no, off) refl) (λ on. rw (no, on) (open_not_settled books (pair_of books.pairs n))))

module _ (books : Books) (content : Content) (history : history_of content ≡ books.history) (standings : HasStandings books content) (positions : ArePositions books.history books.settled content.position) (cash : AreCashBalances books.history books.settled content.cash) where
  state_is : (n : ℕ) (i : Instructed) → instruction_at books.history n ≡ Some i → (content.standing n).state ≡ instruction_state books n (Some i)
  state_is n i at = ap (λ (s : Standing). s.state) (standings.each n) ∙ ap (instruction_state books n) at

  cancel_checks : (sender : List ℕ) (order : CancelOrder) (named : Option ℕ) → ((n : ℕ) → named ≡ Some n → (i : Instructed) × (instruction_at books.history n ≡ Some i))
      → (check (is_none named) NoSuchInstruction
      ∷ check (holds_of (λ k. is_cancelled_state (content.standing k).state) named) AlreadyCancelled
      ∷ check (holds_of (λ k. is_settled_state (content.standing k).state) named) AlreadySettled
      ∷ check (holds_of (λ k. (content.standing k).cancel_requested) named) CancellationWaits ∷ [])
      ≡ (check (is_none named) NoSuchInstruction
      ∷ check (holds_of (is_cancelled books) named) AlreadyCancelled
      ∷ check (holds_of (is_settled books) named) AlreadySettled
      ∷ check (holds_of (is_cancel_requested books.history) named) CancellationWaits ∷ [])
  cancel_checks sender order named known =
      let gone : holds_of (λ k. is_cancelled_state (content.standing k).state) named ≡ holds_of (is_cancelled books) named =
      holds_same _ _ named (λ k is. let at = known k is in ap is_cancelled_state (state_is k at.0 at.1) ∙ tells_cancelled books k at.0) in
      let done : holds_of (λ k. is_settled_state (content.standing k).state) named ≡ holds_of (is_settled books) named =
      holds_same _ _ named (λ k is. let at = known k is in ap is_settled_state (state_is k at.0 at.1) ∙ tells_settled books k at.0) in
      let asked : holds_of (λ k. (content.standing k).cancel_requested) named ≡ holds_of (is_cancel_requested books.history) named =
      holds_same _ _ named (λ k is. ap (λ (s : Standing). s.cancel_requested) (standings.each k)) in
      rw (gone, done, asked) refl

  pub same_checks : (entry : Entry) → checks_in content entry ≡ checks_of books entry
  same_checks (Participant reference bic) = rw history refl
  same_checks (Account reference bic account) = rw history refl
  same_checks (Security reference isin kind) = rw history refl
  same_checks (Issue movement) = rw history refl
  same_checks (Redeem movement) =
      let enough = less_same (content.position movement.account movement.isin) (debits books.history books.settled movement.account movement.isin) (credits books.history books.settled movement.account movement.isin) movement.quantity
      (positions movement.account movement.isin) in
      rw (history, enough) refl
  same_checks (PayIn payment) = rw history refl
  same_checks (PayOut payment) =
      let enough = less_same (content.cash payment.bic payment.ccy) (cash_debits books.history books.settled payment.bic payment.ccy) (cash_credits books.history books.settled payment.bic payment.ccy) payment.amount
      (cash payment.bic payment.ccy) in
      rw (history, enough) refl
  same_checks (Instruct sender instruction) = rw history refl
  same_checks (Cancel sender order) =
      rw history
      (cancel_checks sender order (named_by books.history sender order)
      (λ n is. named_is books.history (number_of_type order.mt) (number_of_key books.history (FromParticipant sender) order.previous) n is))
  same_checks (Run reference day rule) = rw history refl

at_some : (limit n : ℕ) (books : Books) (entry : Entry) (verdict : Verdict) → IsVerdictAt 0 (with_history books.history) entry (Some n) verdict → IsVerdictAt limit books entry (Some n) verdict
at_some limit n books entry Accept is = is
at_some limit n books entry (Repeat k) is = is
at_some limit n books entry (Refuse refusal) is = is

pub verdict_known : (limit : ℕ) (books : Books) (history : List Entry) (entry : Entry) (verdict : Verdict) → history ≡ books.history → is_from_stranger history (sender_of entry) ≡ false
    → IsVerdictOnKey history entry verdict → IsVerdict limit books entry verdict
verdict_known limit books history entry verdict same friend key =
    let friend' : is_from_stranger books.history (sender_of entry) ≡ false = rw same at friend in
    let key' : IsVerdictOnKey books.history entry verdict = rw same at key in
    rw (friend', key'.is_number) (at_some limit key'.number books entry verdict key'.is_verdict)

pub verdict_new : (limit : ℕ) (books : Books) (content : Content) (entry : Entry) (verdict : Verdict) → AreTables books content → is_from_stranger (history_of content) (sender_of entry) ≡ false
    → number_of_key (history_of content) (sender_of entry) (reference_of entry) ≡ None
    → verdict ≡ first_failing (checks_in content entry) (nat_le limit (length (history_of content))) → IsVerdict limit books entry verdict
verdict_new limit books content entry verdict tables friend new is =
    let friend' : is_from_stranger books.history (sender_of entry) ≡ false = rw tables.history at friend in
    let new' : number_of_key books.history (sender_of entry) (reference_of entry) ≡ None = rw tables.history at new in
    let same = same_checks books content tables.history tables.standings tables.positions tables.cash entry in
    let is' : verdict ≡ first_failing (checks_of books entry) (nat_le limit (length books.history)) = is ∙ ap (λ checks. first_failing checks (nat_le limit (length (history_of content)))) same
    ∙ ap (λ h. first_failing (checks_of books entry) (nat_le limit (length h))) tables.history in
    rw (friend', new') is'

pub verdict_new_ok : (limit room : ℕ) (books : Books) (content : Content) (entry : Entry) (r : Result Verdict Fault) → limit ≡ room → AreTables books content → is_from_stranger (history_of content) (sender_of entry) ≡ false
    → number_of_key (history_of content) (sender_of entry) (reference_of entry) ≡ None
    → IfOk r (λ v. v ≡ first_failing (checks_in content entry) (nat_le limit (length (history_of content)))) → IfOk r (λ v. IsVerdict room books entry v)
verdict_new_ok limit room books content entry (Ok verdict) at tables friend new is =
    verdict_new room books content entry verdict tables friend new (rw at at is)
verdict_new_ok limit room books content entry (Err fault) at tables friend new is = is

-- an entry that is found by its key asks for the same as another, or does not
pub key_repeated : (history later : List Entry) (entry : Entry) (sender : Sender) (reference : List ℕ) (number : ℕ) (found : Option Entry) → later ≡ history → sender ≡ sender_of entry → reference ≡ reference_of entry
    → Some number ≡ number_of_key history sender reference → found ≡ entry_at later number → option_map as_asked found ≡ Some (as_asked entry) → IsVerdictOnKey history entry (Repeat number)
key_repeated history later entry sender reference number found same is_sender is_reference known at asks = record {
  number = number;
  is_number = sym (ap (λ s. number_of_key history s (reference_of entry)) is_sender) ∙ sym (ap (number_of_key history sender) is_reference) ∙ sym known;
  is_verdict = (refl, sym (ap (option_map as_asked) (at ∙ ap (λ h. entry_at h number) same)) ∙ asks);
}

pub key_used : (history later : List Entry) (entry : Entry) (sender : Sender) (reference : List ℕ) (number : ℕ) (found : Option Entry) (refusal : Refusal) → later ≡ history → sender ≡ sender_of entry → reference ≡ reference_of entry
    → Some number ≡ number_of_key history sender reference → found ≡ entry_at later number → (option_map as_asked found ≡ Some (as_asked entry) → ⊥) → refusal ≡ reused_by (sender_of entry) → IsVerdictOnKey history entry (Refuse refusal)
key_used history later entry sender reference number found refusal same is_sender is_reference known at other is = record {
  number = number;
  is_number = sym (ap (λ s. number_of_key history s (reference_of entry)) is_sender) ∙ sym (ap (number_of_key history sender) is_reference) ∙ sym known;
  is_verdict = (is, λ asks. other (ap (option_map as_asked) (at ∙ ap (λ h. entry_at h number) same) ∙ asks));
}

pub not_both : (test : Bool) → test ≡ true → test ≡ false → ⊥
not_both true is other = absurd (cc)
not_both false is other = absurd (cc)

-- what a cancellation names, by the entry that is found under its key
pub named_known : (h later : List Entry) (sender : List ℕ) (order : CancelOrder) (number : ℕ) (found : Option Entry) → later ≡ h → Some number ≡ number_of_key h (FromParticipant sender) order.previous → found ≡ entry_at later number
    → if_of_type (number_of_type order.mt) number (option_and_then instructed found) ≡ named_by h sender order
named_known h later sender order number found same key at =
    let here : option_and_then instructed found ≡ instruction_at h number = ap (option_and_then instructed) (at ∙ ap (λ z. entry_at z number) same) in
    ap (if_of_type (number_of_type order.mt) number) here ∙ ap (option_and_then (λ k. if_of_type (number_of_type order.mt) k (instruction_at h k))) key

-- why a cancellation is refused, by where the instruction stands that it names
pub standing_refused : (content later : Content) (sender : List ℕ) (order : CancelOrder) (number : ℕ) (standing : Standing) (r : Option Refusal) → later ≡ content → Some number ≡ named_by (history_of content) sender order
    → standing ≡ later.standing number
    → r ≡ first_refusal (check (is_cancelled_state standing.state) AlreadyCancelled ∷ check (is_settled_state standing.state) AlreadySettled ∷ check standing.cancel_requested CancellationWaits ∷ [])
    → r ≡ first_refusal (checks_in content (Cancel sender order))
standing_refused content later sender order number standing r same named at is =
    let here : standing ≡ content.standing number = at ∙ ap (λ (c : Content). c.standing number) same in
    let known : named_by (history_of content) sender order ≡ Some number = sym named in
    let by_content : r ≡ first_refusal (check (is_cancelled_state (content.standing number).state) AlreadyCancelled ∷ check (is_settled_state (content.standing number).state) AlreadySettled ∷ check (content.standing number).cancel_requested CancellationWaits ∷ []) = rw here at is in
    rw known by_content

-- why a pay in of a participant is refused
pub pay_in_refused : (content later : Content) (payment : Payment) (member : Bool) (paid : Option ℕ) (over : Bool) → later ≡ content → member ≡ is_participant (history_of content) payment.bic → member ≡ true
    → IsPaid (history_of later) payment.ccy paid → ((h : List Entry) → IsPaid h payment.ccy paid → over ≡ nat_lt (paid_out h payment.ccy + MOST_PAID) (paid_in h payment.ccy + payment.amount))
    → first_refusal (checks_in content (PayIn payment)) ≡ (if over then Some OverLimit else None)
pay_in_refused content later payment member paid over same is known read over_is =
    let joined : is_participant (history_of content) payment.bic ≡ true = sym is ∙ known in
    let here : IsPaid (history_of content) payment.ccy paid = rw same at read in
    let test = over_is (history_of content) here in
    rw (joined, sym test) refl
