-- A run's pass, from its first pair to its last.
use Rattle.std.proofs.Common.{◌≡◌, ◌⊎◌, inl, inr, ℕ, ◌+◌, ◌<◌, ◌≤◌, ◌^◌, ◌==◌, true, false, List, [], ◌∷◌, ◌++◌, length, Contains, Option, Some, None, refl, ap, sym, ◌∙◌, subst, arith, length-append, append_assoc, append-nil, lit<}
use Rattle.std.proofs.lemmas.Bool.{cases_Bool, ne_eqb}
use Rattle.std.proofs.lemmas.Bool.Decides.{nat_tests}
use Rattle.desk_codes.specs.Number.{number_of}
use Rattle.desk_codes.specs.declared.currency.Ccy.{Ccy}
use Rattle.desk_msg.specs.declared.instruction.Cash.{Cash}
use Rattle.desk_msg.specs.MessageType.{is_delivery}
use Rattle.desk_rules.specs.Opposite.{AreOpposite}
use Rattle.desk_rules.specs.declared.history.entry.Entry.{Entry}
use Rattle.desk_rules.specs.declared.history.entry.RunRule.{RunRule}
use Rattle.desk_rules.specs.declared.history.entry.Entry.TheVariants.{Run}
use Rattle.desk_register.specs.declared.outcome.Outcome.{Outcome}
use Rattle.desk_register.specs.declared.outcome.Outcome.TheVariants as outcomes
use Rattle.desk_register.specs.declared.outcome.Outcome.TheVariants.{Lacks}
use Rattle.desk_rules.specs.declared.history.pair.Pair.{Pair}
use Rattle.desk_rules.specs.declared.history.pair.Place.{Place}
use Rattle.desk_rules.specs.declared.history.pair.Settled.{Settled}
use Rattle.desk_rules.specs.declared.history.pair.Lack.{Lack}
use Rattle.desk_rules.specs.declared.history.pair.Lack.TheVariants.{Securities, Money as LacksMoney}
use Rattle.desk_rules.specs.declared.history.standing.State.TheVariants as states
use Rattle.desk_rules.specs.declared.history.standing.State.TheVariants.{NoInstruction, Unmatched, Matched, Cancelled}
use Rattle.desk_rules.specs.declared.history.standing.Standing.{Standing}
use Rattle.desk_rules.specs.declared.history.entry.Instructed.{Instructed}
use Rattle.desk_rules.specs.History.{instruction_at}
use Rattle.desk_rules.specs.Cancelled.{is_cancel_requested}
use Rattle.desk_rules.specs.Covered.{is_covered, lack_of}
use Rattle.desk_rules.specs.Standing.{reason_of_lack}
use Rattle.desk_rules.specs.Pairing.{IsSide, mate_in}
use Rattle.desk_rules.specs.Settlement.{is_due}
use Rattle.desk_rules.specs.Underway.{IsNext}
use Rattle.desk_rules.specs.Books.{Books, AreBooks}
use Rattle.desk_rules.specs.Verdict.{WasAccepted}
use Rattle.desk_rules.specs.declared.limits.TheConstants.{MOST_PAID, MOST_QUANTITY}
use Rattle.desk_rules.specs.Content.{CashBalances, Content, history_of}
use Rattle.desk_register.proofs.StandingLemmas.{both_stand}
use Rattle.desk_register.specs.Changes.{standing_both, CanSettle, FitsCash, HasCash, TriesPair, TriesSides, delivering_side as deliverer, receiving_side as receiver}
use Rattle.desk_register.specs.Looked.{IsDue, IsDuePairAfter}
use Rattle.desk_engine.specs.Pass.{due_left, settled_of, PassesAt, InstructionPasses, IsUnderway, is_below}
use Rattle.desk_rules.proofs.Decided.{In, In-from_Contains, Contains-from_In, In-left, In-push_cases}
use Rattle.desk_rules.proofs.HistoryLemmas.{before-all}
use Rattle.desk_rules.proofs.SettlementLemmas.{ordered_pairs, begins_wider}
use Rattle.desk_rules.proofs.SettlementGrowth.{as_far_decided, decided_as_far, run_settles, run_leaves}
use Rattle.desk_rules.specs.Tables.{AreCashBalances, ArePositions}
use Rattle.desk_engine.proofs.PassLemmas.{FoundPair, found_pair, is_next, side_state, standing_at_instruction}
use Rattle.desk_engine.proofs.PassSteps.{left_so, settled_so, side_settled, side_left}
use Rattle.desk_engine.proofs.WaitingLemmas.{due_fewer, left_count, left_settled, left_lacks, unsettled_fewer}
use Rattle.desk_engine.proofs.StepLemmas.{HasSides, covered_if, uncovered_if, lack_if, lack_money_if, settled_position, settled_cash}
use Rattle.desk_engine.proofs.WithinLimits.{instructed_position_within, instructed_cash_within}

mate_of_earlier : (q : Pair) → mate_in q q.earlier ≡ q.later
mate_of_earlier q = let test : q.earlier == q.earlier ≡ true = grind (arith, nat_tests) in rw test refl

mate_of_last : (q : Pair) → q.earlier < q.later → mate_in q q.later ≡ q.earlier
mate_of_last q lt = let test : q.earlier == q.later ≡ false = ne_eqb q.earlier q.later (λ (x : q.earlier ≡ q.later). absurd (omega arith)) in rw test refl

-- what one participant has can be counted on another's balance, where each has no more than may be paid in
cash_fits : (cash : CashBalances) (from to : List ℕ) (asked : Option Cash) → ((ccy : Ccy) → cash from ccy ≤ MOST_PAID) → ((ccy : Ccy) → cash to ccy ≤ MOST_PAID) → HasCash cash from asked → FitsCash cash to asked
cash_fits cash from to None few few_there has = tt
cash_fits cash from to (Some asked) few few_there has =
    let first : cash from asked.ccy ≤ MOST_PAID = few asked.ccy in
    let second : cash to asked.ccy ≤ MOST_PAID = few_there asked.ccy in
    let there : asked.amount ≤ cash from asked.ccy = has in
    let room : MOST_PAID + MOST_PAID < 2 ^ 63 = lit< tt in
    omega arith

-- what the try of a pair settles
abbrev pub settled_by : ℕ → ℕ → Pair → Outcome → List Settled
settled_by run pass p outcomes.Settled = record { run = run; pass = pass; pair = p } ∷ []
settled_by run pass p (Lacks lack) = []

-- what the pass has come to after one pair more
pub record PassedOn (books : Books) (reference day : List ℕ) (rule : RunRule) (pass : ℕ) (place : Option Place) (next : Place) (q : Pair) (settled : List Settled) (outcome : Outcome) (content : Content) : Type 0 where
  pub added : List Settled
  pub added_is : added ≡ settled_by (length books.history + 1) pass q outcome
  pub underway : IsUnderway books (Run reference day rule) pass (Some next) (settled ++ added) content
  pub of_pass : (s : Settled) → In added s → (s.run ≡ length books.history + 1) × (s.pass ≡ pass)
  pub count : length added ≡ settled_of outcome
  pub left : left_count (books.history ++ Run reference day rule ∷ []) (length books.history + 1) (Some next) (settled ++ added) books.pairs + settled_of outcome
      ≡ left_count (books.history ++ Run reference day rule ∷ []) (length books.history + 1) place settled books.pairs + 1
  pub fewer : due_left books (Run reference day rule) settled ≡ settled_of outcome + due_left books (Run reference day rule) (settled ++ added)

module _ (limit : ℕ) (books : Books) (reference day : List ℕ) (rule : RunRule) (pass : ℕ) (place : Option Place) (settled : List Settled) (old : Content)
    (are : AreBooks books) (was : WasAccepted limit books.history) (u : IsUnderway books (Run reference day rule) pass place settled old) where
  settled_in_pairs : (s : Settled) → In settled s → Contains books.pairs s.pair
  settled_in_pairs s i = let c = Contains-from_In settled s i in let m = (u.reached.exact s (u.reached.within s c)).0 c in m.paired

  -- the two instructions of the next pair
  pub record NextSides (next : Place) (due : IsDue old (number_of day) place next) : Type 0 where
    pub found : FoundPair books reference day rule pass place settled old are u next due.pair
    pub earlier : Instructed
    pub sides : HasSides books.history found.waiting.pair earlier due.pair.later
    pub is_earlier : instruction_at (history_of old) due.pair.mate ≡ Some earlier

  pub next_sides : (next : Place) (due : IsDue old (number_of day) place next) → NextSides next due
  next_sides next due =
      let found = found_pair books reference day rule pass place settled old are u next due.pair in
      let q = found.waiting.pair in
      let mate = (are.pairing.exact q).0 found.waiting.in_pair.paired in
      let o = mate.candidate.opposite in
      let later : instruction_at books.history q.later ≡ Some due.pair.later = ap (λ k. instruction_at books.history k) found.later ∙ ap (λ z. instruction_at z next.number) (sym u.passing.history) ∙ due.pair.is_later in
      let both : Some o.second ≡ Some due.pair.later = sym o.is_second ∙ later in
      let same : o.second ≡ due.pair.later = cc in
      let P : Instructed → Type 0 = λ x. AreOpposite o.first x in
      record {
        found = found;
        earlier = o.first;
        sides = record {
          first = o.is_first;
          second = later;
          opposite = subst P same o.opposite;
        };
        is_earlier = ap (λ z. instruction_at z due.pair.mate) u.passing.history ∙ ap (λ k. instruction_at books.history k) (sym found.earlier) ∙ o.is_first;
      }

  side_within : (next : Place) (due : IsDue old (number_of day) place next) (n : NextSides next due) (i : Instructed) → (i ≡ n.earlier) ⊎ (i ≡ due.pair.later) → (isin : List ℕ)
      → old.position i.instruction.account isin ≤ MOST_QUANTITY
  side_within next due n i which isin = elim which [
    | inl first ↦ instructed_position_within limit books settled old.position n.found.waiting.pair.earlier i isin are was settled_in_pairs u.passing.position (n.sides.first ∙ ap Some (sym first))
    | inr second ↦ instructed_position_within limit books settled old.position n.found.waiting.pair.later i isin are was settled_in_pairs u.passing.position (n.sides.second ∙ ap Some (sym second))
  ]

  sender_within : (next : Place) (due : IsDue old (number_of day) place next) (n : NextSides next due) (i : Instructed) → (i ≡ n.earlier) ⊎ (i ≡ due.pair.later) → (ccy : Ccy)
      → old.cash i.sender ccy ≤ MOST_PAID
  sender_within next due n i which ccy = elim which [
    | inl first ↦ instructed_cash_within limit books settled old.cash n.found.waiting.pair.earlier i ccy are was settled_in_pairs u.passing.cash (n.sides.first ∙ ap Some (sym first))
    | inr second ↦ instructed_cash_within limit books settled old.cash n.found.waiting.pair.later i ccy are was settled_in_pairs u.passing.cash (n.sides.second ∙ ap Some (sym second))
  ]

  which_receives : (a b : Instructed) → (receiver a b ≡ a) ⊎ (receiver a b ≡ b)
  which_receives a b = elim (cases_Bool (is_delivery a.instruction.mt)) [
    | inl delivers ↦ inr (rw delivers refl)
    | inr other ↦ inl (rw other refl)
  ]

  which_delivers : (a b : Instructed) → (deliverer a b ≡ a) ⊎ (deliverer a b ≡ b)
  which_delivers a b = elim (cases_Bool (is_delivery a.instruction.mt)) [
    | inl delivers ↦ inl (rw delivers refl)
    | inr other ↦ inr (rw other refl)
  ]

  pub next_can_settle : (next : Place) → IsDuePairAfter old (number_of day) place (Some next) → CanSettle old next.number (number_of day)
  next_can_settle next after =
      let due = after.0 in
      let n = next_sides next due in
      let b = due.pair.later in
      let q = n.found.waiting.pair in
      let at : instruction_at books.history due.pair.mate ≡ Some n.earlier = ap (λ k. instruction_at books.history k) (sym n.found.earlier) ∙ n.sides.first in
      let side = side_state books reference day rule pass place settled old are u q due.pair.mate (old.standing due.pair.mate).mate (old.standing due.pair.mate).state
      (standing_at_instruction books reference day rule pass place settled old are u due.pair.mate n.earlier at)
      n.found.waiting.in_pair.paired (inl n.found.earlier) n.found.waiting.in_pair.unsettled n.found.waiting.in_pair.gone in
      record {
        mate = due.pair.mate;
        earlier = n.earlier;
        later = b;
        pair = record { is_later = due.pair.is_later; has_mate = due.pair.has_mate; is_earlier = n.is_earlier };
        opposite = n.sides.opposite;
        two = due.pair.is_earlier;
        back = side.2 ∙ ap Some (ap (mate_in q) (sym n.found.earlier) ∙ mate_of_earlier q ∙ n.found.later);
        earlier_reason = side.0;
        earlier_matched = side.1;
        later_reason = due.pair.reason;
        later_matched = due.pair.matched;
        due = (let by = due.by in let on = due.pair.day in omega (arith, by, on));
        fits = record {
          securities = λ there.
              let from : old.position (deliverer n.earlier b).instruction.account b.instruction.isin ≤ MOST_QUANTITY = side_within next due n (deliverer n.earlier b) (which_delivers n.earlier b) b.instruction.isin in
              let to : old.position (receiver n.earlier b).instruction.account b.instruction.isin ≤ MOST_QUANTITY = side_within next due n (receiver n.earlier b) (which_receives n.earlier b) b.instruction.isin in
              let room : MOST_QUANTITY + MOST_QUANTITY < 2 ^ 63 = lit< tt in
              omega arith;
          cash = λ has.
              let from : (ccy : Ccy) → old.cash (receiver n.earlier b).sender ccy ≤ MOST_PAID = sender_within next due n (receiver n.earlier b) (which_receives n.earlier b) in
              let to : (ccy : Ccy) → old.cash (deliverer n.earlier b).sender ccy ≤ MOST_PAID = sender_within next due n (deliverer n.earlier b) (which_delivers n.earlier b) in
              cash_fits old.cash (receiver n.earlier b).sender (deliverer n.earlier b).sender b.instruction.cash from to has;
        };
      }

  -- the sides that the register settled are those
  ends_here : (next : Place) (due : IsDue old (number_of day) place next) (n : NextSides next due) (outcome : Outcome) (new : Content) → (s : TriesPair old next.number outcome new)
      → TriesSides old next.number due.pair.mate n.earlier due.pair.later outcome new
  ends_here next due n outcome new s =
      let mates : Some s.mate ≡ Some due.pair.mate = sym s.pair.has_mate ∙ due.pair.has_mate in
      let mate : s.mate ≡ due.pair.mate = cc in
      let laters : Some s.later ≡ Some due.pair.later = sym s.pair.is_later ∙ due.pair.is_later in
      let later : s.later ≡ due.pair.later = cc in
      let earliers : Some s.earlier ≡ Some n.earlier = sym s.pair.is_earlier ∙ ap (λ k. instruction_at (history_of old) k) mate ∙ n.is_earlier in
      let earlier : s.earlier ≡ n.earlier = cc in
      let P : ℕ → Type 0 = λ m. TriesSides old next.number m s.earlier s.later outcome new in
      let Q : Instructed → Type 0 = λ x. TriesSides old next.number due.pair.mate x s.later outcome new in
      let R : Instructed → Type 0 = λ x. TriesSides old next.number due.pair.mate n.earlier x outcome new in
      subst R later (subst Q earlier (subst P mate s.ends))

  pub record NextFacts (next : Place) (due : IsDue old (number_of day) place next) (n : NextSides next due) : Type 0 where
    pub next_is : IsNext (books.history ++ Run reference day rule ∷ []) books.pairs settled (length books.history + 1) place n.found.waiting.pair
    pub number_side : IsSide n.found.waiting.pair next.number
    pub mate_side : IsSide n.found.waiting.pair due.pair.mate
    pub number_mate : mate_in n.found.waiting.pair next.number ≡ due.pair.mate
    pub mate_number : mate_in n.found.waiting.pair due.pair.mate ≡ next.number
    pub at_number : instruction_at books.history next.number ≡ Some due.pair.later
    pub at_mate : instruction_at books.history due.pair.mate ≡ Some n.earlier
    pub others : (k : ℕ) → (k ≡ next.number → ⊥) → (k ≡ due.pair.mate → ⊥) → IsSide n.found.waiting.pair k → ⊥

  pub next_facts : (next : Place) (after : IsDuePairAfter old (number_of day) place (Some next)) (n : NextSides next after.0) → NextFacts next after.0 n
  next_facts next after n =
      let q = n.found.waiting.pair in
      let less : q.earlier < q.later = (let mate = (are.pairing.exact q).0 n.found.waiting.in_pair.paired in mate.candidate.earlier) in
      record {
        next_is = is_next books reference day rule pass place settled old are u next after.0 after.1 n.found;
        number_side = inr n.found.later;
        mate_side = inl n.found.earlier;
        number_mate = ap (mate_in q) (sym n.found.later) ∙ mate_of_last q less ∙ n.found.earlier;
        mate_number = ap (mate_in q) (sym n.found.earlier) ∙ mate_of_earlier q ∙ n.found.later;
        at_number = ap (λ k. instruction_at books.history k) (sym n.found.later) ∙ n.sides.second;
        at_mate = ap (λ k. instruction_at books.history k) (sym n.found.earlier) ∙ n.sides.first;
        others = λ k a b side. elim side [ inl e ↦ b (sym e ∙ n.found.earlier) | inr e ↦ a (sym e ∙ n.found.later) ];
      }

  -- what a step leaves of where an instruction stands
  rest_settled : (next : Place) (after : IsDuePairAfter old (number_of day) place (Some next)) (n : NextSides next after.0) → NextFacts next after.0 n → (k : ℕ) (o : Option Instructed) (st : Standing)
      → (IsSide n.found.waiting.pair k → ⊥) → PassesAt books (Run reference day rule) pass (is_below books (Run reference day rule) place) settled k o st
      → PassesAt books (Run reference day rule) pass (is_below books (Run reference day rule) (Some next)) (settled ++ record { run = length books.history + 1; pass = pass; pair = n.found.waiting.pair } ∷ []) k o st
  rest_settled next after n f k None st apart is = is
  rest_settled next after n f k (Some i) st apart is = record {
    so = settled_so books (Run reference day rule) pass place settled n.found.waiting.pair next are f.next_is n.found.place_is (decided_as_far u.reached) k st.mate st.state apart is.so;
    requested = is.requested;
  }

  rest_left : (next : Place) (after : IsDuePairAfter old (number_of day) place (Some next)) (n : NextSides next after.0) → NextFacts next after.0 n → (k : ℕ) (o : Option Instructed) (st : Standing)
      → (IsSide n.found.waiting.pair k → ⊥) → PassesAt books (Run reference day rule) pass (is_below books (Run reference day rule) place) settled k o st
      → PassesAt books (Run reference day rule) pass (is_below books (Run reference day rule) (Some next)) settled k o st
  rest_left next after n f k None st apart is = is
  rest_left next after n f k (Some i) st apart is = record {
    so = left_so books (Run reference day rule) pass place settled n.found.waiting.pair next are f.next_is n.found.place_is (decided_as_far u.reached) k st.mate st.state apart is.so;
    requested = is.requested;
  }

  -- whether its cancellation was requested stands as it did
  requested_at : (k : ℕ) (i : Instructed) → instruction_at books.history k ≡ Some i → (old.standing k).cancel_requested ≡ is_cancel_requested books.history k
  requested_at k i at =
      let P : Option Instructed → Type 0 = λ o. PassesAt books (Run reference day rule) pass (is_below books (Run reference day rule) place) settled k o (old.standing k) in
      let here : InstructionPasses books (Run reference day rule) pass (is_below books (Run reference day rule) place) settled k (old.standing k) = subst P at (u.passing.standing k) in
      here.requested

  step_settled : (next : Place) (after : IsDuePairAfter old (number_of day) place (Some next)) (new : Content) → TriesPair old next.number outcomes.Settled new → PassedOn books reference day rule pass place next (let n = next_sides next after.0 in n.found.waiting.pair) settled outcomes.Settled new
  step_settled next after new s =
      let due = after.0 in
      let n = next_sides next due in
      let f = next_facts next after n in
      let ends = ends_here next due n outcomes.Settled new s in
      let q = n.found.waiting.pair in
      let e : Entry = Run reference day rule in
      let t : Settled = record { run = length books.history + 1; pass = pass; pair = q } in
      let on : List Settled = settled ++ t ∷ [] in
      let H : Content → Type 0 = λ c. history_of c ≡ books.history in
      let S : Content → Type 0 = λ c. (k : ℕ) → PassesAt books e pass (is_below books e (Some next)) on k (instruction_at books.history k) (c.standing k) in
      let B : Content → Type 0 = λ c. ArePositions books.history on c.position in
      let C : Content → Type 0 = λ c. AreCashBalances books.history on c.cash in
      let P : ℕ → Standing → Type 0 = λ k st. PassesAt books e pass (is_below books e (Some next)) on k (instruction_at books.history k) st in
      let covered = covered_if books.history settled q n.earlier due.pair.later n.sides old.position old.cash u.passing.position u.passing.cash ends.0 ends.1 in
      let order = ordered_pairs books.history books.pairs are.pairing in
      let member = In-from_Contains books.pairs q n.found.waiting.in_pair.paired in
      record {
        added = t ∷ [];
        added_is = refl;
        underway = record {
          passing = record {
            history = subst H (sym ends.2) u.passing.history;
            standing = subst S (sym ends.2) (both_stand P old.standing due.pair.mate next.number states.Settled
                (rw f.at_number (record {
                  so = side_settled books e pass place settled q next are f.next_is n.found.place_is (decided_as_far u.reached) next.number due.pair.mate f.number_side f.number_mate;
                  requested = requested_at next.number due.pair.later f.at_number;
                }))
                (rw f.at_mate (record {
                  so = side_settled books e pass place settled q next are f.next_is n.found.place_is (decided_as_far u.reached) due.pair.mate next.number f.mate_side f.mate_number;
                  requested = requested_at due.pair.mate n.earlier f.at_mate;
                }))
                (λ k a b. rest_settled next after n f k (instruction_at books.history k) (old.standing k) (f.others k a b) (u.passing.standing k)));
            position = subst B (sym ends.2) (λ a i. settled_position books.history settled q n.earlier due.pair.later n.sides old.position old.cash u.passing.position u.passing.cash t refl ends.0 a i);
            cash = subst C (sym ends.2) (λ b y. settled_cash books.history settled q n.earlier due.pair.later n.sides old.position old.cash u.passing.position u.passing.cash t refl ends.1 b y);
          };
          reached = as_far_decided (run_settles (books.history ++ e ∷ []) books.pairs settled (length books.history + 1) pass place q next order (decided_as_far u.reached) u.begun f.next_is n.found.place_is
              (ap (λ z. is_covered z settled q) (before-all books.history (e ∷ []) (length books.history + 1) refl) ∙ covered));
          begun = begins_wider (books.history ++ e ∷ []) settled on (length books.history + 1) pass (λ x i. In-left settled (t ∷ []) x i) u.begun;
          further = record {
            more = u.further.more ++ t ∷ [];
            is_more = ap (λ z. z ++ t ∷ []) u.further.is_more ∙ append_assoc books.settled u.further.more (t ∷ []);
            of_run = λ x c. elim (In-push_cases u.further.more t x (In-from_Contains (u.further.more ++ t ∷ []) x c)) [ inl before ↦ u.further.of_run x (Contains-from_In u.further.more x before) | inr is ↦ ap (λ (z : Settled). z.run) (sym is) ];
            few =
                let fewer = unsettled_fewer books.pairs settled t order member n.found.waiting.in_pair.unsettled in
                let few = u.further.few in
                let size = length-append settled (t ∷ []) in
                omega arith;
          };
        };
        of_pass = λ x i. elim i [ inl is ↦ (ap (λ (z : Settled). z.run) (sym is), ap (λ (z : Settled). z.pass) (sym is)) | inr none ↦ absurd none ];
        count = refl;
        left = (let same = left_settled (books.history ++ e ∷ []) (length books.history + 1) place settled books.pairs q next order f.next_is n.found.place_is n.found.waiting.in_pair.unsettled pass in omega arith);
        fewer = (let one = due_fewer (is_due (books.history ++ e ∷ []) (length books.history + 1)) books.pairs settled t order member n.found.waiting.in_pair.unsettled f.next_is.is_open.due in omega arith);
      }

  -- a pair that lacks something stays, and stands so on both sides
  step_lacks : (next : Place) (after : IsDuePairAfter old (number_of day) place (Some next)) (n : NextSides next after.0) (lack : Lack) (new : Content) → lack_of books.history settled n.found.waiting.pair ≡ Some lack
      → new ≡ record old { standing = standing_both old.standing after.0.pair.mate next.number (Matched (reason_of_lack (Some lack))) } → PassedOn books reference day rule pass place next n.found.waiting.pair settled (Lacks lack) new
  step_lacks next after n lack new lacks is_new =
      let due = after.0 in
      let f = next_facts next after n in
      let q = n.found.waiting.pair in
      let e : Entry = Run reference day rule in
      let H : Content → Type 0 = λ c. history_of c ≡ books.history in
      let S : Content → Type 0 = λ c. (k : ℕ) → PassesAt books e pass (is_below books e (Some next)) settled k (instruction_at books.history k) (c.standing k) in
      let B : Content → Type 0 = λ c. ArePositions books.history settled c.position in
      let C : Content → Type 0 = λ c. AreCashBalances books.history settled c.cash in
      let P : ℕ → Standing → Type 0 = λ k st. PassesAt books e pass (is_below books e (Some next)) settled k (instruction_at books.history k) st in
      let short = uncovered_if books.history settled q n.earlier due.pair.later n.sides old.position old.cash u.passing.position u.passing.cash lack lacks in
      let none : settled ++ [] ≡ settled = append-nil settled in
      let order = ordered_pairs books.history books.pairs are.pairing in
      let after_it : IsUnderway books e pass (Some next) settled new = record {
        passing = record {
          history = subst H (sym is_new) u.passing.history;
          standing = subst S (sym is_new) (both_stand P old.standing due.pair.mate next.number (Matched (reason_of_lack (Some lack)))
              (rw f.at_number (record {
                so = side_left books e pass place settled q next are f.next_is n.found.place_is (decided_as_far u.reached) next.number due.pair.mate f.number_side f.number_mate n.found.waiting.in_pair.unsettled lack lacks;
                requested = requested_at next.number due.pair.later f.at_number;
              }))
              (rw f.at_mate (record {
                so = side_left books e pass place settled q next are f.next_is n.found.place_is (decided_as_far u.reached) due.pair.mate next.number f.mate_side f.mate_number n.found.waiting.in_pair.unsettled lack lacks;
                requested = requested_at due.pair.mate n.earlier f.at_mate;
              }))
              (λ k a b. rest_left next after n f k (instruction_at books.history k) (old.standing k) (f.others k a b) (u.passing.standing k)));
          position = subst B (sym is_new) u.passing.position;
          cash = subst C (sym is_new) u.passing.cash;
        };
        reached = as_far_decided (run_leaves (books.history ++ e ∷ []) books.pairs settled (length books.history + 1) pass place q next order (decided_as_far u.reached) f.next_is n.found.place_is
            (ap (λ z. is_covered z settled q) (before-all books.history (e ∷ []) (length books.history + 1) refl) ∙ short));
        begun = u.begun;
        further = u.further;
      } in
      let U : List Settled → Type 0 = λ z. IsUnderway books e pass (Some next) z new in
      record {
        added = [];
        added_is = refl;
        underway = subst U (sym none) after_it;
        of_pass = λ x i. absurd i;
        count = refl;
        left =
            let more = left_lacks (books.history ++ e ∷ []) (length books.history + 1) place settled books.pairs q next order f.next_is n.found.place_is n.found.waiting.in_pair.unsettled in
            let same : left_count (books.history ++ e ∷ []) (length books.history + 1) (Some next) (settled ++ []) books.pairs ≡ left_count (books.history ++ e ∷ []) (length books.history + 1) (Some next) settled books.pairs = ap (λ z. left_count (books.history ++ e ∷ []) (length books.history + 1) (Some next) z books.pairs) none in
            omega arith;
        fewer = (let same : due_left books e (settled ++ []) ≡ due_left books e settled = ap (due_left books e) none in omega arith);
      }

  -- one pair more
  pub step : (next : Place) (after : IsDuePairAfter old (number_of day) place (Some next)) (outcome : Outcome) (new : Content) → TriesPair old next.number outcome new → PassedOn books reference day rule pass place next (let n = next_sides next after.0 in n.found.waiting.pair) settled outcome new
  step next after outcomes.Settled new s = step_settled next after new s
  step next after (Lacks Securities) new s =
      let n = next_sides next after.0 in
      let ends = ends_here next after.0 n (Lacks Securities) new s in
      let lacks = lack_if books.history settled n.found.waiting.pair n.earlier after.0.pair.later n.sides old.position old.cash u.passing.position u.passing.cash ends.0 in
      step_lacks next after n Securities new lacks ends.1
  step next after (Lacks LacksMoney) new s =
      let n = next_sides next after.0 in
      let ends = ends_here next after.0 n (Lacks LacksMoney) new s in
      let lacks = lack_money_if books.history settled n.found.waiting.pair n.earlier after.0.pair.later n.sides old.position old.cash u.passing.position u.passing.cash ends.0 ends.1 in
      step_lacks next after n LacksMoney new lacks ends.2
