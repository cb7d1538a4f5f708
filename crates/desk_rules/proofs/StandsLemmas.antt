-- `standing_of` says of an entry what the relations of specs/Stands.antt say.
use Rattle.std.proofs.Common.{◌≡◌, ◌≢◌, inl, inr, ℕ, zero, suc, ◌+◌, ◌<◌, Bool, true, false, length, Contains, refl, sym, ◌∙◌, ap, subst, arith, Option, Some, None, if◌then◌else◌, drop}
use Rattle.std.specs.Prelude.{◌==◌}
use Rattle.std.proofs.lemmas.Bool.{cases_Bool, cases_lt, cases_order, both_ways, eqb-true, eq-eqb, or_cases, or_left, or_right}
use Rattle.desk_msg.specs.declared.writing.status.Reason.{Reason}
use Rattle.desk_rules.specs.declared.history.entry.Instructed.{Instructed}
use Rattle.desk_rules.specs.declared.history.pair.Pair.{Pair}
use Rattle.desk_rules.specs.declared.history.pair.Settled.{Settled}
use Rattle.desk_rules.specs.declared.history.standing.State.{State}
use Rattle.desk_rules.specs.declared.history.standing.State.TheVariants as states
use Rattle.desk_rules.specs.declared.history.standing.State.TheVariants.{NoInstruction, Unmatched, Matched, Cancelled}
use Rattle.desk_rules.specs.declared.history.standing.Standing.{Standing}
use Rattle.desk_rules.specs.History.{instruction_at}
use Rattle.desk_rules.specs.Cancelled.{is_cancel_requested, is_cancel_requested_by, is_cancelled_pair}
use Rattle.desk_rules.specs.Pairing.{IsFree, IsSide, has_side, mate_in, pair_of, other_side, mate_of}
use Rattle.desk_rules.specs.Settlement.{is_due}
use Rattle.desk_rules.specs.Books.{Books, AreBooks, is_settled}
use Rattle.desk_rules.specs.Standing.{no_standing, is_called_off, reason_below, open_state, instruction_state, state_of, standing_of}
use Rattle.desk_rules.proofs.Decided.{In-from_Contains, Contains-from_In}
use Rattle.desk_rules.proofs.SideLemmas.{any-In, In-any, free_from_none, free_no_side}
use Rattle.desk_rules.proofs.PairingLaws.{one_pair_of}
use Rattle.desk_rules.proofs.StandsAccepted.{HasPair, HasNone, pair_or_none, none_any}
use Rattle.desk_rules.specs.Stands.{reason_found, IsReasonBelow, StandsSo, StandsAt}

-- Why a pair is not settled.

below_that : (books : Books) (p : Pair) (n run : ℕ) → run < suc n → is_due books.history n p ≡ false → is_due books.history run p ≡ true → run < n
below_that books p n run lt not_due due = elim (cases_lt run n) [
  | inl below ↦ below
  | inr ge ↦ absurd (let same : run ≡ n = omega arith in let P : ℕ → Type 0 = λ m. is_due books.history m p ≡ true in both_ways _ not_due (subst P same due))
]

pub reason_is : (books : Books) (p : Pair) (n : ℕ) → IsReasonBelow books p n (reason_below books p n)
reason_is books p zero = inl (record { none = λ run lt due. absurd (omega arith); future = refl })
reason_is books p (suc n) = elim (cases_Bool (is_due books.history n p)) [
  | inl due ↦ inr (record {
    run = n;
    below = omega arith;
    due = due;
    last = λ later above below is. absurd (omega arith);
    found = ap (λ b. if b then reason_found books p n else reason_below books p n) due;
  })
  | inr not_due ↦
      let same : reason_below books p (suc n) ≡ reason_below books p n = ap (λ b. if b then reason_found books p n else reason_below books p n) not_due in
      elim (reason_is books p n) [
        | inl untried ↦ inl (record {
          none = λ run lt due. untried.none run (below_that books p n run lt not_due due) due;
          future = same ∙ untried.future;
        })
        | inr tried ↦ inr (record {
          run = tried.run;
          below = let lt : tried.run < n = tried.below in omega arith;
          due = tried.due;
          last = λ later above lt due. tried.last later above (below_that books p n later lt not_due due) due;
          found = same ∙ tried.found;
        })
      ]
]

-- there is one reason
pub one_reason : (books : Books) (p : Pair) (n : ℕ) (a b : Reason) → IsReasonBelow books p n a → IsReasonBelow books p n b → a ≡ b
one_reason books p n a b (inl x) (inl y) = x.future ∙ sym y.future
one_reason books p n a b (inl x) (inr y) = absurd (x.none y.run y.below y.due)
one_reason books p n a b (inr x) (inl y) = absurd (y.none x.run x.below x.due)
one_reason books p n a b (inr x) (inr y) = elim (cases_order x.run y.run) [
  | inl same ↦ x.found ∙ ap (reason_found books p) same ∙ sym y.found
  | inr other ↦ elim other [ inl lt ↦ absurd (x.last y.run lt y.below y.due) | inr gt ↦ absurd (y.last x.run gt x.below x.due) ]
]

-- The pair of an instruction.

module _ (books : Books) (are : AreBooks books) (k : ℕ) where
  pub pair_at : (p : Pair) → Contains books.pairs p → IsSide p k → pair_of books.pairs k ≡ Some p
  pair_at p c side = elim (pair_or_none books.pairs k) [
    | inl none ↦ absurd (let apart = free_from_none books.pairs k none.alone p c in elim side [ inl e ↦ apart.0 e | inr e ↦ apart.1 e ])
    | inr has ↦ has.is ∙ ap Some (one_pair_of books.history books.pairs has.pair p k are.pairing (Contains-from_In books.pairs has.pair has.member) c has.side side)
  ]

  pub no_pair : IsFree books.pairs k → pair_of books.pairs k ≡ None
  no_pair free = elim (pair_or_none books.pairs k) [
    | inl none ↦ none.is
    | inr has ↦ absurd (free_no_side books.pairs k free has.paired)
  ]

  has_side-is : (p : Pair) → IsSide p k → has_side k p ≡ true
  has_side-is p (inl e) = or_left (p.earlier == k) (p.later == k) (eq-eqb p.earlier k e)
  has_side-is p (inr e) = or_right (p.earlier == k) (p.later == k) (eq-eqb p.later k e)

  is_side : (p : Pair) → has_side k p ≡ true → IsSide p k
  is_side p e = elim (or_cases (p.earlier == k) (p.later == k) e) [ inl a ↦ inl (eqb-true p.earlier k a) | inr b ↦ inr (eqb-true p.later k b) ]

  -- what is settled is a pair of the books
  settled_paired : (s : Settled) → Contains books.settled s → Contains books.pairs s.pair
  settled_paired s c = let settles = (are.settlement.exact s).0 c in settles.paired

  settled_side : (s : Settled) → Contains books.settled s → IsSide s.pair k → is_settled books k ≡ true
  settled_side s c side = any-In (λ (t : Settled). has_side k t.pair) books.settled s (In-from_Contains books.settled s c) (has_side-is s.pair side)

  unsettled_side : (p : Pair) → Contains books.pairs p → IsSide p k → ((s : Settled) → Contains books.settled s → s.pair ≢ p) → is_settled books k ≡ false
  unsettled_side p c side none = none_any (λ (s : Settled). has_side k s.pair) books.settled (λ s i. elim (cases_Bool (has_side k s.pair)) [
    | inr no_side ↦ no_side
    | inl at ↦
        let member = Contains-from_In books.settled s i in
        absurd (none s member (one_pair_of books.history books.pairs s.pair p k are.pairing (settled_paired s member) c (is_side s.pair at) side))
  ])

  unsettled_free : IsFree books.pairs k → is_settled books k ≡ false
  unsettled_free free = none_any (λ (s : Settled). has_side k s.pair) books.settled (λ s i. elim (cases_Bool (has_side k s.pair)) [
    | inr no_side ↦ no_side
    | inl at ↦
        let member = Contains-from_In books.settled s i in
        let apart = free s.pair (settled_paired s member) in
        absurd (elim (is_side s.pair at) [ inl e ↦ apart.0 e | inr e ↦ apart.1 e ])
  ])

  -- Its state, by whether it is settled and whether it is called off.
  state_by : (i : Instructed) → instruction_at books.history k ≡ Some i → (settled gone : Bool) → is_settled books k ≡ settled → is_called_off books.history k (pair_of books.pairs k) ≡ gone
      → state_of books k ≡ (if settled then states.Settled else (if gone then states.Cancelled else open_state books (pair_of books.pairs k)))
  state_by i at settled gone es eg =
      ap (instruction_state books k) at
      ∙ ap (λ b. if b then states.Settled else (if is_called_off books.history k (pair_of books.pairs k) then states.Cancelled else open_state books (pair_of books.pairs k))) es
      ∙ ap (λ b. if settled then states.Settled else (if b then states.Cancelled else open_state books (pair_of books.pairs k))) eg

  -- the standing with this mate, state and request
  abbrev made : Option ℕ → State → Bool → Standing
  made mate state requested = record { mate = mate; state = state; cancel_requested = requested }

  standing_same : (a b : Standing) → a.mate ≡ b.mate → a.state ≡ b.state → a.cancel_requested ≡ b.cancel_requested → a ≡ b
  standing_same a b m s r = ap (λ x. made x a.state a.cancel_requested) m ∙ ap (λ x. made b.mate x a.cancel_requested) s ∙ ap (made b.mate b.state) r

  -- From the relations to `standing_of`.
  so_mate : (mate : Option ℕ) (state : State) → StandsSo books k mate state → mate ≡ mate_of books.pairs k
  so_mate mate NoInstruction so = absurd so
  so_mate mate Unmatched so = so.none ∙ sym (ap (other_side k) (no_pair so.free))
  so_mate mate Cancelled (inl so) = so.none ∙ sym (ap (other_side k) (no_pair so.free))
  so_mate mate Cancelled (inr so) = so.in_pair.other ∙ sym (ap (other_side k) (pair_at so.pair so.in_pair.paired so.in_pair.side))
  so_mate mate (Matched reason) so = so.in_pair.other ∙ sym (ap (other_side k) (pair_at so.pair so.in_pair.paired so.in_pair.side))
  so_mate mate states.Settled so = so.other ∙ sym (ap (other_side k) (pair_at so.settlement.pair (settled_paired so.settlement so.settled) so.side))

  so_state : (i : Instructed) → instruction_at books.history k ≡ Some i → (mate : Option ℕ) (state : State) → StandsSo books k mate state → state ≡ state_of books k
  so_state i at mate NoInstruction so = absurd so
  so_state i at mate Unmatched so =
      let pair = no_pair so.free in
      sym (state_by i at false false (unsettled_free so.free) (ap (is_called_off books.history k) pair ∙ so.gone) ∙ ap (open_state books) pair)
  so_state i at mate Cancelled (inl so) =
      sym (state_by i at false true (unsettled_free so.free) (ap (is_called_off books.history k) (no_pair so.free) ∙ so.gone))
  so_state i at mate Cancelled (inr so) =
      let p = so.in_pair in
      sym (state_by i at false true (unsettled_side so.pair p.paired p.side p.unsettled) (ap (is_called_off books.history k) (pair_at so.pair p.paired p.side) ∙ p.gone))
  so_state i at mate (Matched reason) so =
      let p = so.in_pair in
      let pair = pair_at so.pair p.paired p.side in
      let why : reason ≡ reason_below books so.pair (length books.history + 1) = one_reason books so.pair (length books.history + 1) reason (reason_below books so.pair (length books.history + 1)) so.why (reason_is books so.pair (length books.history + 1)) in
      ap states.Matched why
      ∙ sym (state_by i at false false (unsettled_side so.pair p.paired p.side p.unsettled) (ap (is_called_off books.history k) pair ∙ p.gone) ∙ ap (open_state books) pair)
  so_state i at mate states.Settled so =
      sym (state_by i at true (is_called_off books.history k (pair_of books.pairs k)) (settled_side so.settlement so.settled so.side) refl)

  no_side_of_none : instruction_at books.history k ≡ None → IsFree books.pairs k
  no_side_of_none none p c =
      let mate = (are.pairing.exact p).0 c in
      let o = mate.candidate.opposite in (
        λ e. clash o.first (ap (instruction_at books.history) (sym e) ∙ o.is_first),
        λ e. clash o.second (ap (instruction_at books.history) (sym e) ∙ o.is_second),
      )
    where
      clash : (i : Instructed) → instruction_at books.history k ≡ Some i → ⊥
      clash i is = let both : Some i ≡ None = sym is ∙ none in absurd (cc)

  pub stands_is : (standing : Standing) (o : Option Instructed) → instruction_at books.history k ≡ o → StandsAt books k o standing → standing ≡ standing_of books k
  stands_is standing None at st =
      st
      ∙ standing_same no_standing (standing_of books k)
      (sym (ap (other_side k) (no_pair (no_side_of_none at))))
      (sym (ap (instruction_state books k) at))
      (sym (ap (is_cancel_requested_by (drop k books.history)) at))
  stands_is standing (Some i) at st = standing_same standing (standing_of books k) (so_mate standing.mate standing.state st.so) (so_state i at standing.mate standing.state st.so) st.requested

  -- And back.
  pub is_stands : (o : Option Instructed) → instruction_at books.history k ≡ o → StandsAt books k o (standing_of books k)
  is_stands None at = sym (stands_is no_standing None at refl)
  is_stands (Some i) at = record { so = so; requested = refl }
    where
      P : Option ℕ → State → Type 0
      P mate state = StandsSo books k mate state

      settled_case : is_settled books k ≡ true → P (mate_of books.pairs k) (state_of books k)
      settled_case e =
          let found = In-any (λ (s : Settled). has_side k s.pair) books.settled e in
          let member = Contains-from_In books.settled found.0 found.1 in
          let side = is_side found.0.pair found.2 in
          let state = state_by i at true (is_called_off books.history k (pair_of books.pairs k)) e refl in
          subst (P (mate_of books.pairs k)) (sym state) (record {
            settlement = found.0;
            settled = member;
            side = side;
            other = ap (other_side k) (pair_at found.0.pair (settled_paired found.0 member) side);
          })

      alone_case : is_settled books k ≡ false → HasNone books.pairs k → P (mate_of books.pairs k) (state_of books k)
      alone_case e none =
          let free = free_from_none books.pairs k none.alone in
          let mate : mate_of books.pairs k ≡ None = ap (other_side k) none.is in
          let off : is_called_off books.history k (pair_of books.pairs k) ≡ is_cancel_requested books.history k = ap (is_called_off books.history k) none.is in
          elim (cases_Bool (is_cancel_requested books.history k)) [
            | inl gone ↦ subst (P (mate_of books.pairs k)) (sym (state_by i at false true e (off ∙ gone))) (inl (record { none = mate; free = free; gone = gone }))
            | inr stays ↦ subst (P (mate_of books.pairs k)) (sym (state_by i at false false e (off ∙ stays) ∙ ap (open_state books) none.is)) (record { none = mate; free = free; gone = stays })
          ]

      paired_case : is_settled books k ≡ false → HasPair books.pairs k → P (mate_of books.pairs k) (state_of books k)
      paired_case e has =
          let p = has.pair in
          let paired = Contains-from_In books.pairs p has.member in
          let mate : mate_of books.pairs k ≡ Some (mate_in p k) = ap (other_side k) has.is in
          let unsettled : (s : Settled) → Contains books.settled s → s.pair ≢ p = λ s c same. both_ways _ e (settled_side s c (let Q : Pair → Type 0 = λ z. IsSide z k in subst Q (sym same) has.side)) in
          let off : is_called_off books.history k (pair_of books.pairs k) ≡ is_cancelled_pair books.history p = ap (is_called_off books.history k) has.is in
          elim (cases_Bool (is_cancelled_pair books.history p)) [
            | inl gone ↦ subst (P (mate_of books.pairs k)) (sym (state_by i at false true e (off ∙ gone))) (inr (record {
              pair = p;
              in_pair = record { paired = paired; side = has.side; other = mate; unsettled = unsettled; gone = gone };
            }))
            | inr stays ↦ subst (P (mate_of books.pairs k)) (sym (state_by i at false false e (off ∙ stays) ∙ ap (open_state books) has.is)) (record {
              pair = p;
              in_pair = record { paired = paired; side = has.side; other = mate; unsettled = unsettled; gone = stays };
              why = reason_is books p (length books.history + 1);
            })
          ]

      so : P (mate_of books.pairs k) (state_of books k)
      so = elim (cases_Bool (is_settled books k)) [
        | inl e ↦ settled_case e
        | inr e ↦ elim (pair_or_none books.pairs k) [ inl none ↦ alone_case e none | inr has ↦ paired_case e has ]
      ]
