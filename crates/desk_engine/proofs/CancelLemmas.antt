-- What an accepted cancellation asks for and calls off, and the tables after it.
use Rattle.std.proofs.Common.{◌≡◌, ◌⊎◌, inl, inr, ℕ, ◌+◌, ◌<◌, ◌≤◌, ◌==◌, ◌&&◌, Bool, true, false, List, [], ◌∷◌, ◌++◌, length, Contains, Option, Some, None, refl, ap, sym, ◌∙◌, subst, arith, append-nil}
use Rattle.std.specs.Prelude.{if◌then◌else◌, nat_lt, map, option_and_then, Result, Ok, Err, OnOk}
use Rattle.std.proofs.lemmas.Bool.{cases_Bool, cases_eq, both_ways, false_from_ne_true, ltb-true, lt-ltb, ne_eqb, and_from}
use Rattle.desk_msg.specs.declared.instruction.CancelOrder.{CancelOrder}
use Rattle.desk_msg.specs.declared.writing.status.Reason.{Reason}
use Rattle.desk_msg.specs.MessageType.{number_of_type}
use Rattle.desk_codes.specs.declared.currency.Ccy.{Ccy}
use Rattle.desk_rules.specs.declared.history.entry.Entry.{Entry}
use Rattle.desk_rules.specs.declared.history.entry.Entry.TheVariants.{Cancel}
use Rattle.desk_rules.specs.declared.history.entry.Instructed.{Instructed}
use Rattle.desk_rules.specs.declared.history.entry.Sender.{Sender}
use Rattle.desk_rules.specs.declared.history.entry.Sender.TheVariants.{Participant as FromParticipant}
use Rattle.desk_rules.specs.declared.history.pair.Pair.{Pair}
use Rattle.desk_rules.specs.declared.answers.reply.Reply.{Reply}
use Rattle.desk_rules.specs.declared.history.standing.State.{State}
use Rattle.desk_rules.specs.declared.history.standing.State.TheVariants as states
use Rattle.desk_rules.specs.declared.history.standing.State.TheVariants.{NoInstruction, Unmatched, Matched, Cancelled}
use Rattle.desk_rules.specs.declared.history.standing.Standing.{Standing}
use Rattle.desk_rules.specs.declared.answers.verdict.Refusal.TheVariants.{AlreadyCancelled, AlreadySettled, CancellationWaits}
use Rattle.desk_rules.specs.declared.answers.verdict.Verdict.TheVariants.{Accept}
use Rattle.desk_rules.specs.History.{entry_at, has_key, instructed, instruction_at, number_from, number_of_key}
use Rattle.desk_rules.specs.Cancelled.{is_cancel_requested, is_cancelled_pair, requests_cancel}
use Rattle.desk_rules.specs.Pairing.{IsFree, IsPairing, IsSide, mate_in}
use Rattle.desk_rules.specs.Settlement.{IsSettlement, IsUnsettled}
use Rattle.desk_rules.specs.Balances.{cash_credits, cash_debits, credits, debits}
use Rattle.desk_rules.specs.Books.{AreBooks, Books, is_settled}
use Rattle.desk_rules.specs.Standing.{is_cancelled, instruction_state, no_standing}
use Rattle.desk_rules.specs.Stands.{InstructionStands, IsAlone, IsInPair, StandsAt, StandsSo}
use Rattle.desk_rules.specs.Verdict.{IsVerdict, WasAccepted, check, holds_of, if_of_type, named_by}
use Rattle.desk_rules.specs.Content.{CashBalances, Content, Positions, history_of}
use Rattle.desk_rules.specs.Tables.{AreCashBalances, ArePositions}
use Rattle.desk_rules.specs.Reply.{cancellation_case, case_by_state}
use Rattle.desk_rules.specs.declared.history.pair.Settled.{Settled}
use Rattle.desk_rules.specs.declared.answers.reply.Kept.{Kept}
use Rattle.desk_register.specs.declared.register.Fault.{Fault}
use Rattle.desk_engine.specs.Applied.{IsNamed}
use Rattle.desk_register.specs.Changes.{CanCancel, CanCancelPair, appended, cancelled, pair_cancelled, standing_at, standing_both, with_request}
use Rattle.desk_engine.specs.declared.cancelling.CallsOff.{CallsOff}
use Rattle.desk_engine.specs.declared.cancelling.CallsOff.TheVariants.{Alone, Both, Nothing}
use Rattle.desk_engine.specs.Cancelling.{called_off, off_by, off_by_state, off_with, pair_with, state_then}
use Rattle.desk_register.specs.Checked.{is_cancelled_state, is_settled_state}
use Rattle.desk_engine.specs.Tables.{Grown, IsAccepted, Tables}
use Rattle.desk_rules.proofs.Decided.{In-from_Contains}
use Rattle.desk_rules.proofs.HistoryLemmas.{before-all, entry_at-end, instruction_at-front, instruction_at-known, some_before}
use Rattle.desk_rules.proofs.Accepted.{passes}
use Rattle.desk_rules.proofs.PairingLemmas.{pairing_alone}
use Rattle.desk_rules.proofs.PairingLaws.{one_pair_of}
use Rattle.desk_rules.proofs.SettlementGrowth.{settlement_alone}
use Rattle.desk_rules.proofs.BalanceLemmas.{cash_credits-entry, cash_debits-entry, credits-entry, debits-entry}
use Rattle.desk_rules.proofs.FinalStates.{requested-front}
use Rattle.desk_rules.proofs.Requests.{names_one, requested_for}
use Rattle.desk_rules.proofs.StandsLemmas.{stands_is}
use Rattle.desk_engine.proofs.SentLemmas.{sends_nothing}
use Rattle.desk_engine.proofs.DecisionLemmas.{named_instructed, tells_cancelled, tells_settled}
use Rattle.desk_engine.proofs.TablesLemmas.{IsQuiet, IsUnasked, accepted_in, accepted_more, both_asked, free_of_none, history_more, length_is, not_cancelled, pairs_known, settled_in_history, settled_known, stands_by, stands_more}
use Rattle.desk_engine.proofs.InstructLemmas.{mate_earlier, mate_later, not_free, same_test, settled_paired, stands_known}

-- What is named by a key is named in each longer history.

number_more : (n : ℕ) (sender : Sender) (reference : List ℕ) (h g : List Entry) (k : ℕ) → number_from n sender reference h ≡ Some k → number_from n sender reference (h ++ g) ≡ Some k
number_more n sender reference [] g k is = absurd (cc)
number_more n sender reference (x ∷ h) g k is = elim (cases_Bool (has_key sender reference x)) [
  | inl here ↦
      let short : number_from n sender reference (x ∷ h) ≡ Some n = rw here refl in
      let long : number_from n sender reference (x ∷ (h ++ g)) ≡ Some n = rw here refl in
      long ∙ sym short ∙ is
  | inr other ↦
      let short : number_from n sender reference (x ∷ h) ≡ number_from (n + 1) sender reference h = rw other refl in
      let long : number_from n sender reference (x ∷ (h ++ g)) ≡ number_from (n + 1) sender reference (h ++ g) = rw other refl in
      long ∙ number_more (n + 1) sender reference h g k (sym short ∙ is)
]

-- the instruction that is named
record IsNamedThere (h : List Entry) (sender : List ℕ) (order : CancelOrder) (n : ℕ) : Type 0 where
  instructed : Instructed
  is : instruction_at h n ≡ Some instructed
  more : (g : List Entry) → named_by (h ++ g) sender order ≡ Some n

named_there : (h : List Entry) (sender : List ℕ) (order : CancelOrder) (n : ℕ) → named_by h sender order ≡ Some n → IsNamedThere h sender order n
named_there h sender order n is =
    let mt = number_of_type order.mt in
    let key = some_before (λ j. if_of_type mt j (instruction_at h j)) (number_of_key h (FromParticipant sender) order.previous) n is in
    let typed = named_instructed mt key.0 (instruction_at h key.0) n key.2 in
    let known = instruction_at-known h key.0 typed.1.0 typed.1.1 in
    record {
      instructed = typed.1.0;
      is = ap (instruction_at h) typed.0 ∙ typed.1.1;
      more = λ g.
          ap (option_and_then (λ j. if_of_type mt j (instruction_at (h ++ g) j))) (number_more 1 (FromParticipant sender) order.previous h g key.0 key.1)
          ∙ ap (if_of_type mt key.0) (instruction_at-front h g key.0 known.1)
          ∙ key.2;
    }

-- What an accepted cancellation asks for: the one instruction that it names, which nothing asked for before.
pub record IsAsked (books : Books) (sender : List ℕ) (order : CancelOrder) (n : ℕ) : Type 0 where
  pub named : named_by books.history sender order ≡ Some n
  pub instructed : Instructed
  pub is : instruction_at books.history n ≡ Some instructed
  pub within : n ≤ length books.history
  pub asked : is_cancel_requested (books.history ++ Cancel sender order ∷ []) n ≡ true
  pub others : (k : ℕ) → k ≤ length books.history → (k ≡ n → ⊥) → is_cancel_requested (books.history ++ Cancel sender order ∷ []) k ≡ is_cancel_requested books.history k
  pub unasked : is_cancel_requested books.history n ≡ false
  pub uncancelled : is_cancelled books n ≡ false
  pub unsettled : is_settled books n ≡ false

pub asked_of : (limit : ℕ) (books : Books) (sender : List ℕ) (order : CancelOrder) → AreBooks books → WasAccepted limit books.history → IsVerdict limit books (Cancel sender order) Accept
    → (n : ℕ) × IsAsked books sender order n
asked_of limit books sender order are was verdict =
    let h = books.history in
    let e : Entry = Cancel sender order in
    let m = length h + 1 in
    let at : entry_at (h ++ e ∷ []) m ≡ Some e = entry_at-end h e m refl in
    let more = accepted_more limit books e are was verdict in
    let one = names_one limit (h ++ e ∷ []) more m sender order at in
    let n = one.0 in
    let less : n < m = one.1 in
    let named : named_by h sender order ≡ Some n = ap (λ z. named_by z sender order) (sym (before-all h (e ∷ []) m refl)) ∙ one.2 in
    let there = named_there h sender order n named in
    let p = passes limit books e verdict in
    let second = p.checks (check (holds_of (is_cancelled books) (named_by h sender order)) AlreadyCancelled) (inr (inl refl)) in
    let third = p.checks (check (holds_of (is_settled books) (named_by h sender order)) AlreadySettled) (inr (inr (inl refl))) in
    let fourth = p.checks (check (holds_of (is_cancel_requested h) (named_by h sender order)) CancellationWaits) (inr (inr (inr (inl refl)))) in
    let for_one = one.3 n in
    let requested = requested_for limit (h ++ e ∷ []) more n in (
      n,
      record {
        named = named;
        instructed = there.instructed;
        is = there.is;
        within = omega arith;
        asked = requested.1 (m, for_one.1 refl);
        others = λ k le other. not_cancelled h e k le (λ i is. false_from_ne_true (requests_cancel e i) (λ requests.
            let for_k = one.3 k in
            other (for_k.0 (record { entry = e; instructed = i; is_entry = at; is_instructed = instruction_at-front h (e ∷ []) k le ∙ is; requests = requests }))));
        unasked = sym (ap (holds_of (is_cancel_requested h)) named) ∙ fourth;
        uncancelled = sym (ap (holds_of (is_cancelled books)) named) ∙ second;
        unsettled = sym (ap (holds_of (is_settled books)) named) ∙ third;
      },
    )

-- The two sides of a pair.

pub record AreSides (p : Pair) (n m : ℕ) : Type 0 where
  pub mate : mate_in p n ≡ m
  pub back : mate_in p m ≡ n
  pub other : IsSide p m
  pub which : ((p.earlier ≡ n) × (p.later ≡ m)) ⊎ ((p.later ≡ n) × (p.earlier ≡ m))
  pub apart : m ≡ n → ⊥
  pub only : (k : ℕ) → IsSide p k → (k ≡ n → ⊥) → k ≡ m

sides_of : (p : Pair) (n : ℕ) → p.earlier < p.later → IsSide p n → AreSides p n (mate_in p n)
sides_of p n lt (inl is) =
    let mate : mate_in p n ≡ p.later = ap (mate_in p) (sym is) ∙ mate_earlier p.earlier p.later in
    record {
      mate = refl;
      back = ap (mate_in p) mate ∙ mate_later p.earlier p.later lt ∙ is;
      other = inr (sym mate);
      which = inl (is, sym mate);
      apart = λ same. (let q : p.later ≡ p.earlier = sym mate ∙ same ∙ sym is in omega arith);
      only = λ k side not. elim side [ inl a ↦ absurd (not (sym a ∙ is)) | inr b ↦ sym b ∙ sym mate ];
    }
sides_of p n lt (inr is) =
    let mate : mate_in p n ≡ p.earlier = ap (mate_in p) (sym is) ∙ mate_later p.earlier p.later lt in
    record {
      mate = refl;
      back = ap (mate_in p) mate ∙ mate_earlier p.earlier p.later ∙ is;
      other = inl (sym mate);
      which = inr (is, sym mate);
      apart = λ same. (let q : p.earlier ≡ p.later = sym mate ∙ same ∙ sym is in omega arith);
      only = λ k side not. elim side [ inl a ↦ sym a ∙ sym mate | inr b ↦ absurd (not (sym b ∙ is)) ];
    }

with_parts : (p : Pair) (a b : ℕ) → p.earlier ≡ a → p.later ≡ b → record { earlier = a; later = b } ≡ p
with_parts p a b first second =
    let P : ℕ → Type 0 = λ x. (let z : Pair = record { earlier = x; later = b } in z ≡ p) in
    let Q : ℕ → Type 0 = λ y. (let z : Pair = record { earlier = p.earlier; later = y } in z ≡ p) in
    subst P first (subst Q second refl)

pair_with-is : (p : Pair) (n m : ℕ) → p.earlier < p.later → AreSides p n m → pair_with n m ≡ p
pair_with-is p n m lt are = elim are.which [
  | inl early ↦
      let a : p.earlier ≡ n = early.0 in
      let b : p.later ≡ m = early.1 in
      let test = lt-ltb n m (omega arith) in
      let not : nat_lt m n ≡ false = false_from_ne_true (nat_lt m n) (λ yes. let less = ltb-true m n yes in omega arith) in
      (rw not (with_parts p n m a b))
  | inr late ↦
      let a : p.later ≡ n = late.0 in
      let b : p.earlier ≡ m = late.1 in
      let test : nat_lt m n ≡ true = lt-ltb m n (omega arith) in
      (rw test (with_parts p m n b a))
]

-- A side of a pair that is neither settled nor cancelled is matched with the other.
matched_side : (books : Books) (p : Pair) (k : ℕ) (mate : Option ℕ) (state : State) → AreBooks books → Contains books.pairs p → IsSide p k → IsUnsettled books.settled p → is_cancelled_pair books.history p ≡ false
    → StandsSo books k mate state → (reason : Reason) × (state ≡ Matched reason) × (mate ≡ Some (mate_in p k))
matched_side books p k mate NoInstruction are paired side free stays so = absurd so
matched_side books p k mate Unmatched are paired side free stays so = absurd (not_free books.pairs p k paired side so.free)
matched_side books p k mate Cancelled are paired side free stays (inl so) = absurd (not_free books.pairs p k paired side so.free)
matched_side books p k mate Cancelled are paired side free stays (inr so) =
    let one : so.pair ≡ p = one_pair_of books.history books.pairs so.pair p k are.pairing so.in_pair.paired paired so.in_pair.side side in
    absurd (both_ways _ stays (ap (is_cancelled_pair books.history) (sym one) ∙ so.in_pair.gone))
matched_side books p k mate (Matched reason) are paired side free stays so =
    let one : so.pair ≡ p = one_pair_of books.history books.pairs so.pair p k are.pairing so.in_pair.paired paired so.in_pair.side side in
    (reason, refl, so.in_pair.other ∙ ap (λ (z : Pair). Some (mate_in z k)) one)
matched_side books p k mate states.Settled are paired side free stays so =
    let one : so.settlement.pair ≡ p = one_pair_of books.history books.pairs so.settlement.pair p k are.pairing (settled_paired books are so.settlement so.settled) paired so.side side in
    absurd (free so.settlement so.settled one)

-- both sides of a pair, once they stand cancelled
both_stand : (standing : ℕ → Standing) (p : Pair) (k : ℕ) → p.earlier < p.later → IsSide p k
    → standing_both standing p.earlier p.later states.Cancelled k ≡ record (standing k) { mate = Some (mate_in p k); state = states.Cancelled }
both_stand standing p k lt (inl is) =
    let P : ℕ → Type 0 = λ z. standing_both standing p.earlier p.later states.Cancelled z ≡ record (standing z) { mate = Some (mate_in p z); state = states.Cancelled } in
    let not_last : p.earlier == p.later ≡ false = ne_eqb p.earlier p.later (λ (q : p.earlier ≡ p.later). absurd (omega arith)) in
    let first : p.earlier == p.earlier ≡ true = same_test p.earlier p.earlier refl in
    subst P is (rw (not_last, first) refl)
both_stand standing p k lt (inr is) =
    let P : ℕ → Type 0 = λ z. standing_both standing p.earlier p.later states.Cancelled z ≡ record (standing z) { mate = Some (mate_in p z); state = states.Cancelled } in
    let last : p.later == p.later ≡ true = same_test p.later p.later refl in
    let not_first : p.earlier == p.later ≡ false = ne_eqb p.earlier p.later (λ (q : p.earlier ≡ p.later). absurd (omega arith)) in
    subst P is (rw (last, not_first) refl)

others_stand : (standing : ℕ → Standing) (p : Pair) (k : ℕ) → (IsSide p k → ⊥) → standing_both standing p.earlier p.later states.Cancelled k ≡ standing k
others_stand standing p k not =
    let not_last : k == p.later ≡ false = ne_eqb k p.later (λ (q : k ≡ p.later). not (inr (sym q))) in
    let not_first : k == p.earlier ≡ false = ne_eqb k p.earlier (λ (q : k ≡ p.earlier). not (inl (sym q))) in
    rw (not_last, not_first) refl

and_false : (a b : Bool) → b ≡ false → (a && b) ≡ false
and_false true b is = is
and_false false b is = refl

-- The tables after the cancellation.

module _ (limit : ℕ) (books : Books) (content : Content) (sender : List ℕ) (order : CancelOrder) (reply : Reply) (tables : Tables limit books content) (n : ℕ) (ask : IsAsked books sender order n) where
  abbrev entry : Entry
  entry = Cancel sender order

  abbrev longer : List Entry
  longer = books.history ++ Cancel sender order ∷ []

  abbrev after : Books
  after = record { history = books.history ++ Cancel sender order ∷ []; pairs = books.pairs ++ []; settled = books.settled }

  abbrev added : Content
  added = appended (Cancel sender order) reply content

  size : length content.register ≡ length books.history
  size = length_is content books.history tables.history

  added_is : (k : ℕ) → added.standing k ≡ standing_at (standing_at content.standing n (record (content.standing n) { cancel_requested = true })) (length content.register + 1) no_standing k
  added_is k =
      let named : named_by (history_of content) sender order ≡ Some n = ap (λ z. named_by z sender order) tables.history ∙ ask.named in
      ap (λ o. standing_at (with_request o content.standing) (length content.register + 1) no_standing k) named

  added_new : (k : ℕ) → k ≡ length books.history + 1 → added.standing k ≡ no_standing
  added_new k last =
      let number = size in
      let test : k == length content.register + 1 ≡ true = same_test k (length content.register + 1) (omega arith) in
      rw test refl

  added_named : added.standing n ≡ record (content.standing n) { cancel_requested = true }
  added_named =
      let number = size in
      let le = ask.within in
      let test : n == length content.register + 1 ≡ false = ne_eqb n (length content.register + 1) (λ (q : n ≡ length content.register + 1). absurd (omega arith)) in
      let here : n == n ≡ true = same_test n n refl in
      added_is n ∙ (rw (test, here) refl)

  added_other : (k : ℕ) → (k ≡ n → ⊥) → (k ≡ length books.history + 1 → ⊥) → added.standing k ≡ content.standing k
  added_other k other old =
      let number = size in
      let test : k == length content.register + 1 ≡ false = ne_eqb k (length content.register + 1) (λ (q : k ≡ length content.register + 1). old (omega arith)) in
      let not : k == n ≡ false = ne_eqb k n other in
      added_is k ∙ (rw (test, not) refl)

  -- the mate and the state of what was there are as before
  added_stays : (k : ℕ) → k ≤ length books.history → ((added.standing k).mate ≡ (content.standing k).mate) × ((added.standing k).state ≡ (content.standing k).state)
  added_stays k le = elim (cases_eq k n) [
    | inl same ↦ (
      ap (λ z. (added.standing z).mate) same ∙ ap (λ (s : Standing). s.mate) added_named ∙ ap (λ z. (content.standing z).mate) (sym same),
      ap (λ z. (added.standing z).state) same ∙ ap (λ (s : Standing). s.state) added_named ∙ ap (λ z. (content.standing z).state) (sym same),
    )
    | inr other ↦
        let is = added_other k other (λ (q : k ≡ length books.history + 1). absurd (omega arith)) in
        (ap (λ (s : Standing). s.mate) is, ap (λ (s : Standing). s.state) is)
  ]

  quiet : IsQuiet books.history (Cancel sender order) books.pairs [] books.settled
  quiet = record {
    no_run = refl;
    within_pairs = pairs_known books.history books.pairs tables.are_books.pairing;
    within = settled_known books.history books.pairs books.settled tables.are_books.settlement;
  }

  -- How the instruction stands that is named: unmatched, or matched.

  record StandsAlone : Type 0 where
    state : (content.standing n).state ≡ Unmatched
    alone : IsAlone books n (content.standing n).mate false

  record StandsPaired : Type 0 where
    pair : Pair
    reason : Reason
    state : (content.standing n).state ≡ Matched reason
    in_pair : IsInPair books n (content.standing n).mate pair false

  stood : InstructionStands books n (content.standing n)
  stood = stands_known limit books content n ask.instructed tables ask.is

  state_is : (content.standing n).state ≡ instruction_state books n (Some ask.instructed)
  state_is =
      let is = stands_is books tables.are_books n (content.standing n) (instruction_at books.history n) refl (tables.standing n) in
      ap (λ (s : Standing). s.state) is ∙ ap (instruction_state books n) ask.is

  by_state : (state : State) → (content.standing n).state ≡ state → StandsSo books n (content.standing n).mate state → StandsAlone ⊎ StandsPaired
  by_state NoInstruction is so = absurd so
  by_state Unmatched is so = inl (record { state = is; alone = so })
  by_state Cancelled is so =
      let gone : true ≡ false = sym (ap is_cancelled_state is) ∙ ap is_cancelled_state state_is ∙ tells_cancelled books n ask.instructed ∙ ask.uncancelled in
      absurd (cc)
  by_state (Matched reason) is so = inr (record { pair = so.pair; reason = reason; state = is; in_pair = so.in_pair })
  by_state states.Settled is so =
      let done : true ≡ false = sym (ap is_settled_state is) ∙ ap is_settled_state state_is ∙ tells_settled books n ask.instructed ∙ ask.unsettled in
      absurd (cc)

  stands_open : StandsAlone ⊎ StandsPaired
  stands_open = by_state (content.standing n).state refl stood.so

  -- Where entries stand in the longer history.

  abbrev pub Stands : (ℕ → Standing) → Type 0
  Stands standing = (k : ℕ) → StandsAt after k (instruction_at longer k) (standing k)

  stands_new : (k : ℕ) → k ≡ length books.history + 1 → StandsAt after k (instruction_at longer k) no_standing
  stands_new k last =
      let none : instruction_at longer k ≡ None = ap (option_and_then instructed) (entry_at-end books.history entry k last) in
      rw none refl

  stands_named : (mate : Option ℕ) (state : State) → StandsSo after n mate state → StandsAt after n (instruction_at longer n) (record { mate = mate; state = state; cancel_requested = true })
  stands_named mate state so =
      let at : instruction_at longer n ≡ Some ask.instructed = instruction_at-front books.history (entry ∷ []) n ask.within ∙ ask.is in
      rw at (record { so = so; requested = sym ask.asked })

  stands_other : (k : ℕ) → (k ≡ n → ⊥) → (k ≡ length books.history + 1 → ⊥) → (k ≤ length books.history → IsUnasked books.history entry books.pairs k) → StandsAt after k (instruction_at longer k) (content.standing k)
  stands_other k other old stays = stands_by books.history entry books.pairs [] books.settled k (content.standing k) quiet old stays (λ le. ask.others k le other) (free_of_none k) (tables.standing k)

  pair_known : (p : Pair) → Contains books.pairs p → (p.earlier < p.later) × (p.later ≤ length books.history)
  pair_known p c =
      let mate = (tables.are_books.pairing.exact p).0 c in
      let within = quiet.within_pairs p (In-from_Contains books.pairs p c) in
      (mate.candidate.earlier, within.later)

  -- no side of a pair is asked for but the one that is named
  pair_unasked : (p : Pair) → Contains books.pairs p → (IsSide p n → ⊥) → is_cancelled_pair longer p ≡ is_cancelled_pair books.history p
  pair_unasked p c not =
      let known = pair_known p c in
      let lt : p.earlier < p.later = known.0 in
      let le : p.later ≤ length books.history = known.1 in
      both_asked books.history entry p (ask.others p.earlier (omega arith) (λ q. not (inl q))) (ask.others p.later le (λ q. not (inr q)))

  -- An unmatched instruction is cancelled.
  module _ (is : StandsAlone) where
    alone_unasked : (k : ℕ) → (k ≡ n → ⊥) → k ≤ length books.history → IsUnasked books.history entry books.pairs k
    alone_unasked k other le = record {
      alone = λ free. ask.others k le other;
      pair = λ p c side. pair_unasked p c (λ here. not_free books.pairs p n c here is.alone.free);
    }

    alone_stands : Stands (cancelled n added).standing
    alone_stands k = elim (cases_eq k n) [
      | inl same ↦
          let P : ℕ → Type 0 = λ z. StandsAt after z (instruction_at longer z) ((cancelled n added).standing z) in
          let Q : Standing → Type 0 = λ s. StandsAt after n (instruction_at longer n) s in
          let here : n == n ≡ true = same_test n n refl in
          let stands : (cancelled n added).standing n ≡ record { mate = (content.standing n).mate; state = states.Cancelled; cancel_requested = true } =
          (rw here (ap (λ (s : Standing). record s { state = states.Cancelled }) added_named)) in
          let G : List Pair → Type 0 = λ ps. IsFree ps n in
          let so : IsAlone after n (content.standing n).mate true = record { none = is.alone.none; free = subst G (sym (append-nil books.pairs)) is.alone.free; gone = ask.asked } in
          subst P (sym same) (subst Q (sym stands) (stands_named (content.standing n).mate states.Cancelled (inl so)))
      | inr other ↦
          let not : k == n ≡ false = ne_eqb k n other in
          let Q : Standing → Type 0 = λ s. StandsAt after k (instruction_at longer k) s in
          let stands : (cancelled n added).standing k ≡ added.standing k = (rw not refl) in
          elim (cases_eq k (length books.history + 1)) [
            | inl last ↦ subst Q (sym (stands ∙ added_new k last)) (stands_new k last)
            | inr old ↦ subst Q (sym (stands ∙ added_other k other old)) (stands_other k other old (alone_unasked k other))
          ]
    ]

    alone_told : ((cancelled n added).standing n).state ≡ states.Cancelled
    alone_told = let here : n == n ≡ true = same_test n n refl in (rw here refl)

  -- An instruction in a pair.
  module _ (is : StandsPaired) where
    abbrev paired : Pair
    paired = is.pair

    abbrev mate : ℕ
    mate = mate_in is.pair n

    sides : AreSides paired n mate
    sides = let known = pair_known paired is.in_pair.paired in sides_of paired n known.0 is.in_pair.side

    one_pair : (p : Pair) → Contains books.pairs p → IsSide p n → p ≡ paired
    one_pair p c side = one_pair_of books.history books.pairs p paired n tables.are_books.pairing c is.in_pair.paired side is.in_pair.side

    side_within : (k : ℕ) → IsSide paired k → k ≤ length books.history
    side_within k side =
        let known = pair_known paired is.in_pair.paired in
        let lt : paired.earlier < paired.later = known.0 in
        let le : paired.later ≤ length books.history = known.1 in
        elim side [ inl q ↦ (let r : paired.earlier ≡ k = q in omega arith) | inr q ↦ (let r : paired.later ≡ k = q in omega arith) ]

    -- each side is an instruction
    side_instructed : (k : ℕ) → IsSide paired k → (i : Instructed) × (instruction_at books.history k ≡ Some i)
    side_instructed k side =
        let m = (tables.are_books.pairing.exact paired).0 is.in_pair.paired in
        let o = m.candidate.opposite in
        elim side [
          | inl q ↦ (o.first, ap (instruction_at books.history) (sym q) ∙ o.is_first)
          | inr q ↦ (o.second, ap (instruction_at books.history) (sym q) ∙ o.is_second)
        ]

    side_stands : (k : ℕ) → IsSide paired k → InstructionStands books k (content.standing k)
    side_stands k side = let it = side_instructed k side in stands_known limit books content k it.0 tables it.1

    -- Both are cancelled where the other side asked before.
    module _ (before : (content.standing mate).cancel_requested ≡ true) where
      mate_asked : is_cancel_requested longer mate ≡ true
      mate_asked = let stands = side_stands mate sides.other in requested-front books.history (entry ∷ []) mate (sym stands.requested ∙ before)

      pair_gone : is_cancelled_pair longer paired ≡ true
      pair_gone = elim sides.which [
        | inl early ↦ and_from _ _ (ap (is_cancel_requested longer) early.0 ∙ ask.asked) (ap (is_cancel_requested longer) early.1 ∙ mate_asked)
        | inr late ↦ and_from _ _ (ap (is_cancel_requested longer) late.1 ∙ mate_asked) (ap (is_cancel_requested longer) late.0 ∙ ask.asked)
      ]

      both_requested : (k : ℕ) → IsSide paired k → (added.standing k).cancel_requested ≡ is_cancel_requested longer k
      both_requested k side = elim (cases_eq k n) [
        | inl same ↦ ap (λ z. (added.standing z).cancel_requested) same ∙ ap (λ (s : Standing). s.cancel_requested) added_named ∙ sym ask.asked ∙ ap (is_cancel_requested longer) (sym same)
        | inr other ↦
            let le = side_within k side in
            let stands = side_stands k side in
            ap (λ (s : Standing). s.cancel_requested) (added_other k other (λ (q : k ≡ length books.history + 1). absurd (omega arith))) ∙ stands.requested ∙ sym (ask.others k le other)
      ]

      both_stands : Stands (pair_cancelled paired.earlier paired.later added).standing
      both_stands k =
          let Q : Standing → Type 0 = λ s. StandsAt after k (instruction_at longer k) s in
          elim (side_or_not paired k) [
            | inl side ↦
                let known = pair_known paired is.in_pair.paired in
                let it = side_instructed k side in
                let at : instruction_at longer k ≡ Some it.0 = instruction_at-front books.history (entry ∷ []) k (side_within k side) ∙ it.1 in
                let G : List Pair → Type 0 = λ ps. Contains ps paired in
                subst Q (sym (both_stand added.standing paired k known.0 side)) (rw at (record {
                  so = inr (record {
                    pair = paired;
                    in_pair = record {
                      paired = subst G (sym (append-nil books.pairs)) is.in_pair.paired;
                      side = side;
                      other = refl;
                      unsettled = is.in_pair.unsettled;
                      gone = pair_gone;
                    };
                  });
                  requested = both_requested k side;
                }))
            | inr not ↦
                let stands = others_stand added.standing paired k not in
                let other : k ≡ n → ⊥ = λ same. (let S : ℕ → Type 0 = λ z. IsSide paired z in not (subst S (sym same) is.in_pair.side)) in
                elim (cases_eq k (length books.history + 1)) [
                  | inl last ↦ subst Q (sym (stands ∙ added_new k last)) (stands_new k last)
                  | inr old ↦ subst Q (sym (stands ∙ added_other k other old)) (stands_other k other old (λ le. record {
                    alone = λ free. ask.others k le other;
                    pair = λ p c side. pair_unasked p c (λ here. (let S : Pair → Type 0 = λ z. IsSide z k in not (subst S (one_pair p c here) side)));
                  }))
                ]
          ]
        where
          side_or_not : (p : Pair) (k : ℕ) → IsSide p k ⊎ (IsSide p k → ⊥)
          side_or_not p k = elim (cases_eq p.earlier k) [
            | inl early ↦ inl (inl early)
            | inr a ↦ elim (cases_eq p.later k) [
              | inl late ↦ inl (inr late)
              | inr b ↦ inr (λ side. elim side [ inl x ↦ a x | inr y ↦ b y ])
            ]
          ]

      both_told : ((pair_cancelled paired.earlier paired.later added).standing n).state ≡ states.Cancelled
      both_told = let known = pair_known paired is.in_pair.paired in ap (λ (s : Standing). s.state) (both_stand added.standing paired n known.0 is.in_pair.side)

    -- Nothing is cancelled where it did not.
    module _ (before : (content.standing mate).cancel_requested ≡ false) where
      mate_unasked : is_cancel_requested longer mate ≡ false
      mate_unasked =
          let stands = side_stands mate sides.other in
          ask.others mate (side_within mate sides.other) sides.apart ∙ sym stands.requested ∙ before

      pair_stays : is_cancelled_pair longer paired ≡ is_cancelled_pair books.history paired
      pair_stays =
          let now : is_cancelled_pair longer paired ≡ false = (elim sides.which [
            | inl early ↦ and_false _ _ (ap (is_cancel_requested longer) early.1 ∙ mate_unasked)
            | inr late ↦ ap (λ b. b && is_cancel_requested longer paired.later) (ap (is_cancel_requested longer) late.1 ∙ mate_unasked)
          ]) in
          now ∙ sym is.in_pair.gone

      nothing_unasked : (k : ℕ) → k ≤ length books.history → IsUnasked books.history entry books.pairs k
      nothing_unasked k le = record {
        alone = λ free. ask.others k le (λ same. (let F : ℕ → Type 0 = λ z. IsFree books.pairs z in not_free books.pairs paired n is.in_pair.paired is.in_pair.side (subst F same free)));
        pair = λ p c side. elim (cases_eq p.earlier n) [
          | inl early ↦ (let S : Pair → Type 0 = λ z. is_cancelled_pair longer z ≡ is_cancelled_pair books.history z in subst S (sym (one_pair p c (inl early))) pair_stays)
          | inr a ↦ elim (cases_eq p.later n) [
            | inl late ↦ (let S : Pair → Type 0 = λ z. is_cancelled_pair longer z ≡ is_cancelled_pair books.history z in subst S (sym (one_pair p c (inr late))) pair_stays)
            | inr b ↦ pair_unasked p c (λ here. elim here [ inl x ↦ a x | inr y ↦ b y ])
          ]
        ];
      }

      nothing_stands : Stands added.standing
      nothing_stands k = elim (cases_eq k n) [
        | inl same ↦
            let P : ℕ → Type 0 = λ z. StandsAt after z (instruction_at longer z) (added.standing z) in
            let Q : Standing → Type 0 = λ s. StandsAt after n (instruction_at longer n) s in
            let so = stands_more books.history entry books.pairs [] books.settled n (content.standing n).mate (content.standing n).state quiet (nothing_unasked n ask.within) (free_of_none n) stood.so in
            subst P (sym same) (subst Q (sym added_named) (stands_named (content.standing n).mate (content.standing n).state so))
        | inr other ↦
            let Q : Standing → Type 0 = λ s. StandsAt after k (instruction_at longer k) s in
            elim (cases_eq k (length books.history + 1)) [
              | inl last ↦ subst Q (sym (added_new k last)) (stands_new k last)
              | inr old ↦ subst Q (sym (added_other k other old)) (stands_other k other old (nothing_unasked k))
            ]
      ]

      nothing_told : (added.standing n).state ≡ Matched is.reason
      nothing_told = let stays = added_stays n ask.within in stays.1 ∙ is.state

  -- The register may be called to do so.

  longer_at : (new : Content) → new ≡ added → (k : ℕ) → k ≤ length books.history → instruction_at (history_of new) k ≡ instruction_at books.history k
  longer_at new is k le =
      ap (λ c. instruction_at (history_of c) k) is ∙ ap (λ z. instruction_at z k) (history_more content entry reply books.history tables.history) ∙ instruction_at-front books.history (entry ∷ []) k le

  can_cancel : StandsAlone → (new : Content) → new ≡ added → CanCancel new n
  can_cancel is new at =
      let stays = added_stays n ask.within in
      record {
        instructed = ask.instructed;
        is_instruction = longer_at new at n ask.within ∙ ask.is;
        unmatched = ap (λ (c : Content). (c.standing n).state) at ∙ stays.1 ∙ is.state;
      }

  can_cancel_pair : (is : StandsPaired) → (new : Content) → new ≡ added → CanCancelPair new is.pair.earlier is.pair.later
  can_cancel_pair is new at =
      let p = is.pair in
      let m = (tables.are_books.pairing.exact p).0 is.in_pair.paired in
      let o = m.candidate.opposite in
      let lt : p.earlier < p.later = m.candidate.earlier in
      let early_in = side_within is p.earlier (inl refl) in
      let late_in = side_within is p.later (inr refl) in
      let early_stands = side_stands is p.earlier (inl refl) in
      let late_stands = side_stands is p.later (inr refl) in
      let early = matched_side books p p.earlier (content.standing p.earlier).mate (content.standing p.earlier).state tables.are_books is.in_pair.paired (inl refl) is.in_pair.unsettled is.in_pair.gone early_stands.so in
      let late = matched_side books p p.later (content.standing p.later).mate (content.standing p.later).state tables.are_books is.in_pair.paired (inr refl) is.in_pair.unsettled is.in_pair.gone late_stands.so in
      let early_stays = added_stays p.earlier early_in in
      let late_stays = added_stays p.later late_in in
      record {
        two = lt;
        earlier = o.first;
        later = o.second;
        pair = record {
          is_later = longer_at new at p.later late_in ∙ o.is_second;
          has_mate = ap (λ (c : Content). (c.standing p.later).mate) at ∙ late_stays.0 ∙ late.2 ∙ ap Some (mate_later p.earlier p.later lt);
          is_earlier = longer_at new at p.earlier early_in ∙ o.is_first;
        };
        back = ap (λ (c : Content). (c.standing p.earlier).mate) at ∙ early_stays.0 ∙ early.2 ∙ ap Some (mate_earlier p.earlier p.later);
        earlier_reason = early.0;
        earlier_matched = ap (λ (c : Content). (c.standing p.earlier).state) at ∙ early_stays.1 ∙ early.1;
        later_reason = late.0;
        later_matched = ap (λ (c : Content). (c.standing p.later).state) at ∙ late_stays.1 ∙ late.1;
      }

  -- What is called off, in each of the three.

  off_alone : StandsAlone → off_by content.standing (Some n) ≡ Alone n
  off_alone is = ap (off_by_state content.standing n (content.standing n).mate) is.state

  off_paired : (is : StandsPaired) (asked : Bool) → (content.standing (mate_in is.pair n)).cancel_requested ≡ asked
      → off_by content.standing (Some n) ≡ (if asked then Both is.pair else Nothing (Matched is.reason))
  off_paired is asked before =
      let known = pair_known is.pair is.in_pair.paired in
      let with_mate : pair_with n (mate_in is.pair n) ≡ is.pair = pair_with-is is.pair n (mate_in is.pair n) known.0 (sides is) in
      ap (off_by_state content.standing n (content.standing n).mate) is.state
      ∙ ap (off_with content.standing n (Matched is.reason)) is.in_pair.other
      ∙ ap (λ b. if b then Both (pair_with n (mate_in is.pair n)) else Nothing (Matched is.reason)) before
      ∙ ap (λ z. if asked then Both z else Nothing (Matched is.reason)) with_mate

  -- How it fares: where entries stand then, and what is told of the one that is named.
  pub record Fares (off : CallsOff) : Type 0 where
    pub stands : Stands (called_off off added).standing
    pub told : ((called_off off added).standing n).state ≡ state_then off
    pub register : (called_off off added).register ≡ added.register
    pub position : (called_off off added).position ≡ content.position
    pub cash : (called_off off added).cash ≡ content.cash
    pub sent : (called_off off added).sent ≡ content.sent

  fares_off : Fares (off_by content.standing (Some n))
  fares_off = elim stands_open [
    | inl is ↦ subst Fares (sym (off_alone is)) (record { stands = alone_stands is; told = alone_told is; register = refl; position = refl; cash = refl; sent = refl })
    | inr is ↦ elim (cases_Bool (content.standing (mate_in is.pair n)).cancel_requested) [
      | inl on ↦ subst Fares (sym (off_paired is true on)) (record { stands = both_stands is on; told = both_told is on; register = refl; position = refl; cash = refl; sent = refl })
      | inr out ↦ subst Fares (sym (off_paired is false out)) (record { stands = nothing_stands is out; told = nothing_told is out; register = refl; position = refl; cash = refl; sent = refl })
    ]
  ]

  alone_fits : (k : ℕ) (new : Content) → Alone k ≡ off_by content.standing (Some n) → new ≡ added → CanCancel new k
  alone_fits k new off at = elim stands_open [
    | inl is ↦
        let same : Alone k ≡ Alone n = off ∙ off_alone is in
        let number : n ≡ k = cc in
        let P : ℕ → Type 0 = λ z. CanCancel new z in
        subst P number (can_cancel is new at)
    | inr is ↦ elim (cases_Bool (content.standing (mate_in is.pair n)).cancel_requested) [
      | inl on ↦ (let never : Alone k ≡ Both is.pair = off ∙ off_paired is true on in absurd (cc))
      | inr out ↦ (let never : Alone k ≡ Nothing (Matched is.reason) = off ∙ off_paired is false out in absurd (cc))
    ]
  ]

  pair_fits : (p : Pair) (new : Content) → Both p ≡ off_by content.standing (Some n) → new ≡ added → CanCancelPair new p.earlier p.later
  pair_fits p new off at = elim stands_open [
    | inl is ↦ (let never : Both p ≡ Alone n = off ∙ off_alone is in absurd (cc))
    | inr is ↦ elim (cases_Bool (content.standing (mate_in is.pair n)).cancel_requested) [
      | inl on ↦
          let same : Both p ≡ Both is.pair = off ∙ off_paired is true on in
          let one : is.pair ≡ p = cc in
          let P : Pair → Type 0 = λ z. CanCancelPair new z.earlier z.later in
          subst P one (can_cancel_pair is new at)
      | inr out ↦ (let never : Both p ≡ Nothing (Matched is.reason) = off ∙ off_paired is false out in absurd (cc))
    ]
  ]

  -- The balances are as before.

  position_stays : (account isin : List ℕ) → content.position account isin + debits longer books.settled account isin ≡ credits longer books.settled account isin
  position_stays account isin =
      let within = settled_in_history books tables.are_books in
      let more = credits-entry books.history entry books.settled within account isin in
      let less = debits-entry books.history entry books.settled within account isin in
      let here : content.position account isin + debits books.history books.settled account isin ≡ credits books.history books.settled account isin = tables.position account isin in
      omega arith

  cash_stays : (bic : List ℕ) (ccy : Ccy) → content.cash bic ccy + cash_debits longer books.settled bic ccy ≡ cash_credits longer books.settled bic ccy
  cash_stays bic ccy =
      let within = settled_in_history books tables.are_books in
      let more = cash_credits-entry books.history entry books.settled within bic ccy in
      let less = cash_debits-entry books.history entry books.settled within bic ccy in
      let here : content.cash bic ccy + cash_debits books.history books.settled bic ccy ≡ cash_credits books.history books.settled bic ccy = tables.cash bic ccy in
      omega arith

  grown_by : (off : CallsOff) → IsVerdict limit books entry Accept → Fares off → Grown limit books entry (called_off off added)
  grown_by off verdict fares =
      let are = tables.are_books in
      let h = books.history in
      let nothing : books.pairs ++ [] ≡ books.pairs = append-nil books.pairs in
      let pairing : IsPairing longer books.pairs = pairing_alone h entry books.pairs are.pairing (λ k c.
      let second : instruction_at longer (length h + 1) ≡ Some c.opposite.second = c.opposite.is_second in
      let none : instruction_at longer (length h + 1) ≡ None = ap (option_and_then instructed) (entry_at-end h entry (length h + 1) refl) in
      let never : None ≡ Some c.opposite.second = sym none ∙ second in
      absurd (cc)) in
      let settlement : IsSettlement longer books.pairs books.settled = settlement_alone h entry books.pairs books.pairs books.settled (λ p le. ((λ c. c), (λ c. c))) refl are.settlement in
      let P : List Pair → Type 0 = λ ps. IsPairing longer ps in
      let Q : List Pair → Type 0 = λ ps. IsSettlement longer ps books.settled in
      let R : Positions → Type 0 = λ p. ArePositions longer books.settled p in
      let S : CashBalances → Type 0 = λ c. AreCashBalances longer books.settled c in
      record {
        pairs = books.pairs ++ [];
        settled = books.settled;
        tables = record {
          history = ap (λ kept. map (λ (k : Kept). k.entry) kept) fares.register ∙ history_more content entry reply h tables.history;
          are_books = record { pairing = subst P (sym nothing) pairing; settlement = subst Q (sym nothing) settlement };
          accepted = accepted_more limit books entry are tables.accepted verdict;
          standing = fares.stands;
          position = subst R (sym fares.position) position_stays;
          cash = subst S (sym fares.cash) cash_stays;
          sent = fares.sent ∙ tables.sent ∙ sym (sends_nothing books entry are);
        };
      }

-- The same, of what an accepted cancellation names.

-- what is asked for, where the register holds the tables
pub record IsAskedOf (limit : ℕ) (books : Books) (content : Content) (sender : List ℕ) (order : CancelOrder) (off : CallsOff) : Type 0 where
  pub tables : Tables limit books content
  pub verdict : IsVerdict limit books (Cancel sender order) Accept
  pub number : ℕ
  pub ask : IsAsked books sender order number
  pub is_off : off ≡ off_by content.standing (Some number)

pub asked_by : (limit : ℕ) (books : Books) (content : Content) (sender : List ℕ) (order : CancelOrder) (off : CallsOff) → Tables limit books content → IsAccepted limit (Cancel sender order) content
    → off ≡ off_by content.standing (named_by (history_of content) sender order) → IsAskedOf limit books content sender order off
asked_by limit books content sender order off tables accepted is =
    let verdict = accepted_in limit books content (Cancel sender order) tables accepted in
    let asked = asked_of limit books sender order tables.are_books tables.accepted verdict in
    let ask = asked.1 in
    record {
      tables = tables;
      verdict = verdict;
      number = asked.0;
      ask = ask;
      is_off = is ∙ ap (λ h. off_by content.standing (named_by h sender order)) tables.history ∙ ap (off_by content.standing) ask.named;
    }

pub cancel_fits : (limit : ℕ) (old new : Content) (sender : List ℕ) (order : CancelOrder) (reply : Reply) (off : CallsOff) (k : ℕ) → IsAccepted limit (Cancel sender order) old
    → off ≡ off_by old.standing (named_by (history_of old) sender order) → off ≡ Alone k → new ≡ appended (Cancel sender order) reply old → CanCancel new k
cancel_fits limit old new sender order reply off k accepted is alone at =
    let by = asked_by limit accepted.books old sender order off accepted.tables accepted is in
    alone_fits limit accepted.books old sender order reply by.tables by.number by.ask k new (sym alone ∙ by.is_off) at

pub cancel_pair_fits : (limit : ℕ) (old new : Content) (sender : List ℕ) (order : CancelOrder) (reply : Reply) (off : CallsOff) (p : Pair) → IsAccepted limit (Cancel sender order) old
    → off ≡ off_by old.standing (named_by (history_of old) sender order) → off ≡ Both p → new ≡ appended (Cancel sender order) reply old → CanCancelPair new p.earlier p.later
cancel_pair_fits limit old new sender order reply off p accepted is both at =
    let by = asked_by limit accepted.books old sender order off accepted.tables accepted is in
    pair_fits limit accepted.books old sender order reply by.tables by.number by.ask p new (sym both ∙ by.is_off) at

-- how what is asked for fares
fares_as : (limit : ℕ) (books : Books) (content : Content) (sender : List ℕ) (order : CancelOrder) (reply : Reply) (off : CallsOff) → (by : IsAskedOf limit books content sender order off)
    → Fares limit books content sender order reply by.tables by.number by.ask off
fares_as limit books content sender order reply off by =
    let F : CallsOff → Type 0 = λ o. Fares limit books content sender order reply by.tables by.number by.ask o in
    subst F (sym by.is_off) (fares_off limit books content sender order reply by.tables by.number by.ask)

tables_cancelled : (limit : ℕ) (books : Books) (content : Content) (sender : List ℕ) (order : CancelOrder) (reply : Reply) (off : CallsOff) → IsAskedOf limit books content sender order off
    → Grown limit books (Cancel sender order) (called_off off (appended (Cancel sender order) reply content))
tables_cancelled limit books content sender order reply off by =
    grown_by limit books content sender order reply by.tables by.number by.ask off by.verdict (fares_as limit books content sender order reply off by)

-- what is called off of the content with the entry leaves the tables of the longer history
pub cancelled_ok : (limit : ℕ) (books : Books) (old mid new : Content) (sender : List ℕ) (order : CancelOrder) (reply : Reply) (off so : CallsOff) (r : Result (Unit {0}) Fault) → off ≡ so → Tables limit books old
    → IsAccepted limit (Cancel sender order) old → off ≡ off_by old.standing (named_by (history_of old) sender order) → mid ≡ appended (Cancel sender order) reply old → OnOk r (new ≡ called_off so mid)
    → OnOk r (Grown limit books (Cancel sender order) new)
cancelled_ok limit books old mid new sender order reply off so (Ok done) same tables accepted is at last =
    let P : Content → Type 0 = λ c. Grown limit books (Cancel sender order) c in
    let whole : new ≡ called_off off (appended (Cancel sender order) reply old) = last ∙ ap (called_off so) at ∙ ap (λ o. called_off o (appended (Cancel sender order) reply old)) (sym same) in
    subst P (sym whole) (tables_cancelled limit books old sender order reply off (asked_by limit books old sender order off tables accepted is))
cancelled_ok limit books old mid new sender order reply off so (Err fault) same tables accepted is at last = last

-- what is told of the instruction that is named is how it stands then
pub cancelled_named : (limit : ℕ) (books : Books) (old new : Content) (sender : List ℕ) (order : CancelOrder) (reply : Reply) (off : CallsOff) (ps : List Pair) (settled : List Settled)
    → IsAskedOf limit books old sender order off → Tables limit (record { history = books.history ++ Cancel sender order ∷ []; pairs = ps; settled = settled }) new
    → new ≡ called_off off (appended (Cancel sender order) reply old)
    → IsNamed (record { history = books.history ++ Cancel sender order ∷ []; pairs = ps; settled = settled }) (Cancel sender order) (state_then off)
cancelled_named limit books old new sender order reply off ps settled by tables at =
    let longer = books.history ++ Cancel sender order ∷ [] in
    let after : Books = record { history = longer; pairs = ps; settled = settled } in
    let n = by.number in
    let there = named_there books.history sender order n by.ask.named in
    let stands = stands_is after tables.are_books n (new.standing n) (instruction_at longer n) refl (tables.standing n) in
    let fares = fares_as limit books old sender order reply off by in
    let told : (new.standing n).state ≡ state_then off = ap (λ (c : Content). (c.standing n).state) at ∙ fares.told in
    ap (cancellation_case after) (there.more (Cancel sender order ∷ [])) ∙ ap case_by_state (sym (ap (λ (s : Standing). s.state) stands) ∙ told)
