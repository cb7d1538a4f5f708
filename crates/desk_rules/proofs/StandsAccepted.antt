-- Right after a message was accepted it stands as its acceptance told.
use Rattle.std.proofs.Common.{◌≡◌, zero, suc, ℕ, ◌+◌, ◌<◌, ◌≤◌, Bool, true, false, ◌||◌, List, [], ◌∷◌, ◌++◌, length, length-append, drop, inl, inr, ◌⊎◌, refl, sym, ◌∙◌, ap, subst, arith, if◌then◌else◌}
use Rattle.std.proofs.lemmas.Bool.{cases_Bool, eqb-true}
use Rattle.std.proofs.lemmas.List.{drop_all}
use Rattle.std.specs.Prelude.{Some, None, ◌==◌, ◌&&◌, option_and_then}
use Rattle.std.specs.List.{list_any}
use Rattle.desk_msg.specs.declared.instruction.CancelOrder.{CancelOrder}
use Rattle.desk_msg.specs.declared.instruction.Instruction.{Instruction}
use Rattle.desk_msg.specs.declared.writing.status.Reason.TheVariants.{Future}
use Rattle.desk_rules.specs.declared.history.entry.Entry.{Entry}
use Rattle.desk_rules.specs.declared.history.entry.Entry.TheVariants.{Instruct, Cancel}
use Rattle.desk_rules.specs.declared.history.entry.Sender.TheVariants.{Participant as FromParticipant}
use Rattle.desk_rules.specs.declared.history.pair.Pair.{Pair}
use Rattle.desk_rules.specs.declared.history.pair.Settled.{Settled}
use Rattle.desk_rules.specs.declared.history.standing.State.TheVariants as states
use Rattle.desk_rules.specs.declared.answers.verdict.Verdict.TheVariants.{Accept}
use Rattle.desk_rules.specs.History.{Instructed, entry_at, instructed, instruction_at, number_of_key, sender_of, reference_of}
use Rattle.desk_rules.specs.Cancelled.{is_cancel_requested, is_cancel_requested_by, is_cancelled_pair}
use Rattle.desk_rules.specs.Pairing.{has_side, pair_of}
use Rattle.desk_rules.specs.Settlement.{is_due}
use Rattle.desk_rules.specs.Books.{Books, AreBooks, is_paired, is_settled}
use Rattle.desk_rules.specs.Verdict.{IsVerdict, is_from_stranger}
use Rattle.desk_rules.specs.Facts.{is_participant}
use Rattle.desk_rules.specs.Reply.{reply_to}
use Rattle.desk_rules.specs.Standing.{is_called_off, reason_below, open_state, instruction_state, state_of}
use Rattle.desk_rules.specs.Questions.{status_reply, named_reply, entry_reply, message_reply, instruction_reply, refused_question}
use Rattle.desk_rules.proofs.Decided.{In, Contains-from_In}
use Rattle.desk_rules.proofs.PairingLemmas.{decided_pairing}
use Rattle.desk_rules.proofs.SettlementLemmas.{due_facts, due_known, decided_settlement}
use Rattle.desk_rules.proofs.AcceptedOnce.{is_new, number_behind, own_key, get_behind, no_stranger, never}

pub none_any : {X : Type 0} (p : X → Bool) (xs : List X) → ((x : X) → In xs x → p x ≡ false) → list_any p xs ≡ false
none_any p [] none = refl
none_any p (x ∷ xs) none = ap (λ b. b || list_any p xs) (none x (inl refl)) ∙ none_any p xs (λ y i. none y (inr i))

-- the pair of a number, or that it is in none
pub record HasPair (ps : List Pair) (n : ℕ) : Type 0 where
  pub pair : Pair
  pub member : In ps pair
  pub is : pair_of ps n ≡ Some pair
  pub paired : list_any (has_side n) ps ≡ true
  pub side : (pair.earlier ≡ n) ⊎ (pair.later ≡ n)

pub record HasNone (ps : List Pair) (n : ℕ) : Type 0 where
  pub is : pair_of ps n ≡ None
  pub alone : list_any (has_side n) ps ≡ false

later_pair : (p : Pair) (ps : List Pair) (n : ℕ) → (p.earlier == n) ≡ false → (p.later == n) ≡ false → HasNone ps n ⊎ HasPair ps n → HasNone (p ∷ ps) n ⊎ HasPair (p ∷ ps) n
later_pair p ps n e f (inl none) = inl (record {
  is = ap (λ b. if b then Some p else (if p.later == n then Some p else pair_of ps n)) e ∙ ap (λ b. if b then Some p else pair_of ps n) f ∙ none.is;
  alone = ap (λ b. (b || p.later == n) || list_any (has_side n) ps) e ∙ ap (λ b. b || list_any (has_side n) ps) f ∙ none.alone;
})
later_pair p ps n e f (inr has) = inr (record {
  pair = has.pair;
  member = inr has.member;
  is = ap (λ b. if b then Some p else (if p.later == n then Some p else pair_of ps n)) e ∙ ap (λ b. if b then Some p else pair_of ps n) f ∙ has.is;
  paired = ap (λ b. (b || p.later == n) || list_any (has_side n) ps) e ∙ ap (λ b. b || list_any (has_side n) ps) f ∙ has.paired;
  side = has.side;
})

pub pair_or_none : (ps : List Pair) (n : ℕ) → HasNone ps n ⊎ HasPair ps n
pair_or_none [] n = inl (record { is = refl; alone = refl })
pair_or_none (p ∷ ps) n = elim (cases_Bool (p.earlier == n)) [
  | inl e ↦ inr (record {
    pair = p;
    member = inl refl;
    is = ap (λ b. if b then Some p else (if p.later == n then Some p else pair_of ps n)) e;
    paired = ap (λ b. (b || p.later == n) || list_any (has_side n) ps) e;
    side = inl (eqb-true p.earlier n e);
  })
  | inr e ↦ elim (cases_Bool (p.later == n)) [
    | inl f ↦ inr (record {
      pair = p;
      member = inl refl;
      is = ap (λ b. if b then Some p else (if p.later == n then Some p else pair_of ps n)) e ∙ ap (λ b. if b then Some p else pair_of ps n) f;
      paired = ap (λ b. (b || p.later == n) || list_any (has_side n) ps) e ∙ ap (λ b. b || list_any (has_side n) ps) f;
      side = inr (eqb-true p.later n f);
    })
    | inr f ↦ later_pair p ps n e f (pair_or_none ps n)
  ]
]

module _ (books : Books) (are : AreBooks books) (n : ℕ) (last : n ≡ length books.history) where
  -- no run is behind the last entry, so none tried or settled a pair of it
  earlier_than_later : (p : Pair) → In books.pairs p → (p.earlier < p.later) × (p.later ≤ length books.history)
  earlier_than_later p i =
      let mate = (are.pairing.exact p).0 (Contains-from_In books.pairs p i) in
      (mate.candidate.earlier, (decided_pairing books.history books.pairs are.pairing).within p i)

  other : (a b : ℕ) → (a ≡ b → ⊥) → (a == b) ≡ false
  other a b apart = elim (cases_Bool (a == b)) [ inl e ↦ absurd (apart (eqb-true a b e)) | inr e ↦ e ]

  unsettled : is_settled books n ≡ false
  unsettled = none_any (λ (s : Settled). has_side n s.pair) books.settled (λ s i.
      let d = decided_settlement books.history books.pairs books.settled are.settlement in
      let r = d.within s i in
      let run = r.run in
      let numbered = r.numbered in
      let mate = (are.pairing.exact s.pair).0 ((d.exact s r).0 i).paired in
      let earlier = mate.candidate.earlier in
      ap (λ b. b || s.pair.later == n) (other s.pair.earlier n (λ e. omega (arith, e, last, run, numbered, earlier)))
      ∙ other s.pair.later n (λ e. omega (arith, e, last, run, numbered)))

  untried : (p : Pair) → In books.pairs p → (p.earlier ≡ n) ⊎ (p.later ≡ n) → (run : ℕ) → is_due books.history run p ≡ false
  untried p i side run = elim (cases_Bool (is_due books.history run p)) [
    | inl due ↦
        let numbered = (due_facts books.history run p due).numbered in
        let known = due_known books.history run p due in
        let order = earlier_than_later p i in
        let below = order.0 in
        elim side [ inl e ↦ absurd (omega (arith, e, last, numbered, known, below)) | inr e ↦ absurd (omega (arith, e, last, numbered, known)) ]
    | inr not_due ↦ not_due
  ]

  reason_is_future : (p : Pair) → In books.pairs p → (p.earlier ≡ n) ⊎ (p.later ≡ n) → (m : ℕ) → reason_below books p m ≡ Future
  reason_is_future p i side zero = refl
  reason_is_future p i side (suc m) = rw (untried p i side m) (reason_is_future p i side m)

  -- what is told of its state is the first case
  case_told : (i : Instruction) → instruction_reply books n i (open_state books (pair_of books.pairs n)) ≡ instruction_reply books n i (if is_paired books n then states.Matched Future else states.Unmatched)
  case_told i = elim (pair_or_none books.pairs n) [
    | inl none ↦
        ap (λ o. instruction_reply books n i (open_state books o)) none.is
        ∙ sym (ap (λ b. instruction_reply books n i (if b then states.Matched Future else states.Unmatched)) none.alone)
    | inr has ↦
        ap (λ o. instruction_reply books n i (open_state books o)) has.is
        ∙ ap (λ reason. instruction_reply books n i (states.Matched reason)) (reason_is_future has.pair has.member has.side (length books.history + 1))
        ∙ sym (ap (λ b. instruction_reply books n i (if b then states.Matched Future else states.Unmatched)) has.paired)
  ]

  uncancelled : (i : Instructed) → instruction_at books.history n ≡ Some i → is_cancel_requested books.history n ≡ false
  uncancelled i at =
      let behind : drop n books.history ≡ [] = drop_all n books.history (omega (arith, last)) in
      ap (λ entries. is_cancel_requested_by entries (instruction_at books.history n)) behind ∙ ap (is_cancel_requested_by []) at

  stays : (i : Instructed) → instruction_at books.history n ≡ Some i → (p : Pair) → (p.earlier ≡ n) ⊎ (p.later ≡ n) → is_cancelled_pair books.history p ≡ false
  stays i at p (inl e) = ap (λ b. b && is_cancel_requested books.history p.later) (ap (is_cancel_requested books.history) e ∙ uncancelled i at)
  stays i at p (inr e) =
      let later : is_cancel_requested books.history p.later ≡ false = ap (is_cancel_requested books.history) e ∙ uncancelled i at in
      elim (cases_Bool (is_cancel_requested books.history p.earlier)) [
        | inl t ↦ ap (λ b. b && is_cancel_requested books.history p.later) t ∙ later
        | inr f ↦ ap (λ b. b && is_cancel_requested books.history p.later) f
      ]

  not_called_off : (i : Instructed) → instruction_at books.history n ≡ Some i → is_called_off books.history n (pair_of books.pairs n) ≡ false
  not_called_off i at = elim (pair_or_none books.pairs n) [
    | inl none ↦ ap (is_called_off books.history n) none.is ∙ uncancelled i at
    | inr has ↦ ap (is_called_off books.history n) has.is ∙ stays i at has.pair has.side
  ]

  state_told : (i : Instructed) → instruction_at books.history n ≡ Some i → state_of books n ≡ open_state books (pair_of books.pairs n)
  state_told i at =
      ap (instruction_state books n) at
      ∙ ap (λ b. if b then states.Settled else (if is_called_off books.history n (pair_of books.pairs n) then states.Cancelled else open_state books (pair_of books.pairs n))) unsettled
      ∙ ap (λ b. if b then states.Cancelled else open_state books (pair_of books.pairs n)) (not_called_off i at)

first_told : (books : Books) (sender : List ℕ) (i : Instruction) (b : Bool) (n : ℕ) → n ≡ length books.history → is_paired books n ≡ b
    → instruction_reply books n i (if b then states.Matched Future else states.Unmatched) ≡ reply_to books (Instruct sender i)
first_told books sender i true n last paired = let is : is_paired books (length books.history) ≡ true = subst (λ m. is_paired books m ≡ true) last paired in rw is refl
first_told books sender i false n last paired = let is : is_paired books (length books.history) ≡ false = subst (λ m. is_paired books m ≡ false) last paired in rw is refl

-- what is answered of a message right after it was accepted, by the entry that it is
message_told : (limit : ℕ) (before books : Books) (sender : List ℕ) (entry : Entry) → sender_of entry ≡ FromParticipant sender → IsVerdict limit before entry Accept
    → books.history ≡ before.history ++ entry ∷ []
    → (n : ℕ) × (n ≡ length books.history) × (entry_at books.history n ≡ Some entry) × (status_reply books sender (reference_of entry) ≡ message_reply books n entry)
message_told limit before books sender entry from accepted grown =
    let n = suc (length before.history) in
    let new = is_new limit before entry accepted in
    let last : n ≡ length books.history = omega (arith, length-append before.history (entry ∷ []), ap length grown) in
    let known_then : is_from_stranger before.history (FromParticipant sender) ≡ false = ap (is_from_stranger before.history) (sym from) ∙ new.known in
    let stranger : is_from_stranger books.history (FromParticipant sender) ≡ false = ap (λ h. is_from_stranger h (FromParticipant sender)) grown ∙ no_stranger (FromParticipant sender) before.history (entry ∷ []) known_then in
    let known : is_participant books.history sender ≡ true = never (is_participant books.history sender) stranger in
    let number = number_behind 1 (sender_of entry) (reference_of entry) before.history entry [] new.key (own_key entry) in
    let e : 1 + length before.history ≡ suc (length before.history) = omega arith in
    let key : number_of_key books.history (FromParticipant sender) (reference_of entry) ≡ Some n = ap (λ h. number_of_key h (FromParticipant sender) (reference_of entry)) grown ∙ ap (λ s. number_of_key (before.history ++ entry ∷ []) s (reference_of entry)) (sym from) ∙ number ∙ ap Some e in
    let at : entry_at books.history n ≡ Some entry = ap (λ h. entry_at h n) grown ∙ get_behind before.history entry [] in (
      n,
      last,
      at,
      ap (λ b. if b then named_reply books (number_of_key books.history (FromParticipant sender) (reference_of entry)) else refused_question 10) known
          ∙ ap (named_reply books) key
          ∙ ap (entry_reply books n) at,
    )

pub instruction_stands : (limit : ℕ) (before books : Books) (sender : List ℕ) (i : Instruction) → AreBooks books → IsVerdict limit before (Instruct sender i) Accept
    → books.history ≡ before.history ++ Instruct sender i ∷ [] → status_reply books sender i.reference ≡ reply_to books (Instruct sender i)
instruction_stands limit before books sender i are accepted grown =
    let m = message_told limit before books sender (Instruct sender i) refl accepted grown in
    let told : instruction_at books.history m.0 ≡ Some (record { sender = sender; instruction = i }) = ap (option_and_then instructed) m.2 in
    m.3
    ∙ ap (instruction_reply books m.0 i) (state_told books are m.0 m.1 (record { sender = sender; instruction = i }) told)
    ∙ case_told books are m.0 m.1 i
    ∙ first_told books sender i (is_paired books m.0) m.0 m.1 refl

pub cancellation_stands : (limit : ℕ) (before books : Books) (sender : List ℕ) (order : CancelOrder) → IsVerdict limit before (Cancel sender order) Accept
    → books.history ≡ before.history ++ Cancel sender order ∷ [] → status_reply books sender order.reference ≡ reply_to books (Cancel sender order)
cancellation_stands limit before books sender order accepted grown = let m = message_told limit before books sender (Cancel sender order) refl accepted grown in m.3
