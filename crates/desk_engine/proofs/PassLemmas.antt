-- A run's pass over the due pairs, and what the register finds due.
use Rattle.std.proofs.Common.{◌≡◌, ◌≢◌, ◌⊎◌, inl, inr, ℕ, ◌+◌, ◌<◌, ◌≤◌, ◌==◌, Bool, true, false, ◌&&◌, List, [], ◌∷◌, ◌++◌, length, Contains, Option, Some, None, refl, ap, sym, ◌∙◌, subst, arith}
use Rattle.std.specs.Prelude.{option_and_then, nat_lt, nat_le}
use Rattle.std.proofs.lemmas.Bool.{ne_eqb, both_ways, lt-ltb, le-leb, leb-true}
use Rattle.std.proofs.lemmas.Bool.Decides.{nat_tests}
use Rattle.desk_codes.specs.Number.{number_of}
use Rattle.desk_rules.specs.declared.history.entry.Entry.{Entry}
use Rattle.desk_rules.specs.declared.history.entry.Entry.TheVariants.{Run}
use Rattle.desk_rules.specs.declared.history.entry.RunRule.{RunRule}
use Rattle.desk_rules.specs.declared.history.pair.Pair.{Pair}
use Rattle.desk_rules.specs.declared.history.pair.Place.{Place}
use Rattle.desk_rules.specs.declared.history.pair.Settled.{Settled}
use Rattle.desk_rules.specs.declared.history.standing.State.{State}
use Rattle.desk_rules.specs.declared.history.standing.State.TheVariants as states
use Rattle.desk_rules.specs.declared.history.standing.State.TheVariants.{NoInstruction, Unmatched, Matched, Cancelled}
use Rattle.desk_msg.specs.declared.writing.status.Reason.{Reason}
use Rattle.desk_rules.specs.declared.history.entry.Instructed.{Instructed}
use Rattle.desk_rules.specs.History.{before, instruction_at, entry_at, run_day}
use Rattle.desk_rules.specs.Cancelled.{is_cancelled_pair}
use Rattle.desk_rules.specs.Pairing.{IsSide, mate_in}
use Rattle.desk_rules.specs.Settlement.{IsUnsettled, is_due, is_before, is_past, is_by, is_not_cancelled, day_of, place_of, instructed_day}
use Rattle.desk_rules.specs.Underway.{IsOpen, IsNext}
use Rattle.desk_rules.specs.Books.{Books, AreBooks}
use Rattle.desk_rules.specs.Content.{Content}
use Rattle.desk_register.specs.Looked.{IsDue, IsDuePairAfter, IsMatchedPair}
use Rattle.desk_engine.specs.Pass.{PassesAt, PassesSo, InstructionPasses, IsWaiting, IsUnderway, is_below}
use Rattle.desk_rules.proofs.Decided.{In-from_Contains}
use Rattle.desk_rules.proofs.HistoryLemmas.{entry_at-end, before-all}
use Rattle.desk_rules.proofs.SettlementLemmas.{due_facts}
use Rattle.desk_rules.proofs.SettlementGrowth.{IsPlaceOf, day_of-front}
use Rattle.desk_rules.proofs.PairingLaws.{one_pair_of}
use Rattle.desk_rules.proofs.Existence.{next_or_none}
use Rattle.desk_engine.proofs.TablesLemmas.{pairs_known}
use Rattle.desk_engine.proofs.PassSteps.{not_true_is, not_of}

-- The due pairs of a run.

and_true : (a b : Bool) → a ≡ true → b ≡ true → (a && b) ≡ true
and_true a b x y = rw (x, y) refl

pub due_in_run : (h : List Entry) (reference day : List ℕ) (rule : RunRule) (p : Pair) → is_cancelled_pair h p ≡ false → p.later ≤ length h → day_of h p ≤ number_of day → is_due (h ++ Run reference day rule ∷ []) (length h + 1) p ≡ true
due_in_run h reference day rule p stays le by =
    let e : Entry = Run reference day rule in
    let g = h ++ e ∷ [] in
    let n = length h + 1 in
    let entry : entry_at g n ≡ Some e = entry_at-end h e n refl in
    let days : day_of g p ≡ day_of h p = day_of-front h (e ∷ []) p le in
    let first : is_by (option_and_then run_day (entry_at g n)) (day_of g p) ≡ true =
    ap (λ o. is_by (option_and_then run_day o) (day_of g p)) entry ∙ ap (λ d. nat_le d (number_of day)) days ∙ le-leb (day_of h p) (number_of day) by in
    let second : nat_lt p.later n ≡ true = lt-ltb p.later n (omega arith) in
    let third : is_not_cancelled (before n g) p ≡ true = ap (λ z. is_not_cancelled z p) (before-all h (e ∷ []) n refl) ∙ not_of (is_cancelled_pair h p) stays in
    and_true (is_by (option_and_then run_day (entry_at g n)) (day_of g p) && nat_lt p.later n) (is_not_cancelled (before n g) p) (and_true _ _ first second) third

pub run_due_by : (h : List Entry) (reference day : List ℕ) (rule : RunRule) (p : Pair) → p.later ≤ length h → is_due (h ++ Run reference day rule ∷ []) (length h + 1) p ≡ true → day_of h p ≤ number_of day
run_due_by h reference day rule p le due =
    let e : Entry = Run reference day rule in
    let g = h ++ e ∷ [] in
    let n = length h + 1 in
    let f = due_facts g n p due in
    let entry : entry_at g n ≡ Some e = entry_at-end h e n refl in
    let days : day_of g p ≡ day_of h p = day_of-front h (e ∷ []) p le in
    let test : nat_le (day_of h p) (number_of day) ≡ true = sym (ap (λ o. is_by (option_and_then run_day o) (day_of g p)) entry ∙ ap (λ d. nat_le d (number_of day)) days) ∙ f.by in
    leb-true (day_of h p) (number_of day) test

-- The pair of a place that the register finds.

-- a side of a pair is not in no pair
not_alone : (p : Pair) (k : ℕ) → IsSide p k → (p.earlier ≢ k) × (p.later ≢ k) → ⊥
not_alone p k (inl is) free = free.0 is
not_alone p k (inr is) free = free.1 is

module _ (books : Books) (reference day : List ℕ) (rule : RunRule) (pass : ℕ) (place : Option Place) (settled : List Settled) (content : Content)
    (are : AreBooks books) (u : IsUnderway books (Run reference day rule) pass place settled content) where
  -- what stands at an instruction
  pub standing_at_instruction : (k : ℕ) (i : Instructed) → instruction_at books.history k ≡ Some i → PassesSo books (Run reference day rule) pass (is_below books (Run reference day rule) place) settled k (content.standing k).mate (content.standing k).state
  standing_at_instruction k i at =
      let P : Option Instructed → Type 0 = λ o. PassesAt books (Run reference day rule) pass (is_below books (Run reference day rule) place) settled k o (content.standing k) in
      let here : InstructionPasses books (Run reference day rule) pass (is_below books (Run reference day rule) place) settled k (content.standing k) = subst P at (u.passing.standing k) in
      here.so

  in_order : (p : Pair) → Contains books.pairs p → p.earlier < p.later
  in_order p c = let mate = (are.pairing.exact p).0 c in mate.candidate.earlier

  pair_known : (p : Pair) → Contains books.pairs p → p.later ≤ length books.history
  pair_known p c = let within = pairs_known books.history books.pairs are.pairing p (In-from_Contains books.pairs p c) in within.later

  settled_pair : (s : Settled) → Contains settled s → Contains books.pairs s.pair
  settled_pair s c = let m = (u.reached.exact s (u.reached.within s c)).0 c in m.paired

  -- a pair by the number of its later side
  pair_of_later : (p : Pair) (k m : ℕ) → Contains books.pairs p → IsSide p k → mate_in p k ≡ m → m < k → (p.later ≡ k) × (p.earlier ≡ m)
  pair_of_later p k m c side mate lt =
      let less : p.earlier < p.later = in_order p c in
      elim side [
        | inl early ↦
            let test : p.earlier == k ≡ true = grind (arith, nat_tests) in
            let is : p.later ≡ m = sym (rw test refl) ∙ mate in
            absurd (omega arith)
        | inr late ↦
            let test : p.earlier == k ≡ false = ne_eqb p.earlier k (λ (q : p.earlier ≡ k). absurd (omega arith)) in
            let is : p.earlier ≡ m = sym (rw test refl) ∙ mate in
            (late, is)
      ]

  pub record FoundPair (next : Place) (found : IsMatchedPair content next) : Type 0 where
    pub waiting : IsWaiting books (Run reference day rule) pass (is_below books (Run reference day rule) place) settled next.number (Some found.mate) found.reason
    pub later : waiting.pair.later ≡ next.number
    pub earlier : waiting.pair.earlier ≡ found.mate
    pub place_is : IsPlaceOf (books.history ++ Run reference day rule ∷ []) next waiting.pair

  pub found_pair : (next : Place) (found : IsMatchedPair content next) → FoundPair next found
  found_pair next found =
      let at : instruction_at books.history next.number ≡ Some found.later = ap (λ z. instruction_at z next.number) (sym u.passing.history) ∙ found.is_later in
      let P : State → Type 0 = λ s. PassesSo books (Run reference day rule) pass (is_below books (Run reference day rule) place) settled next.number (content.standing next.number).mate s in
      let Q : Option ℕ → Type 0 = λ m. IsWaiting books (Run reference day rule) pass (is_below books (Run reference day rule) place) settled next.number m found.reason in
      let w = subst Q found.has_mate (subst P found.matched (standing_at_instruction next.number found.later at)) in
      let mate : Some found.mate ≡ Some (mate_in w.pair next.number) = w.in_pair.other in
      let is : mate_in w.pair next.number ≡ found.mate = cc in
      let both = pair_of_later w.pair next.number found.mate w.in_pair.paired w.in_pair.side is found.is_earlier in
      let days : day_of (books.history ++ Run reference day rule ∷ []) w.pair ≡ day_of books.history w.pair = day_of-front books.history (Run reference day rule ∷ []) w.pair (pair_known w.pair w.in_pair.paired) in
      let here : day_of books.history w.pair ≡ number_of found.later.instruction.day = ap (λ k. instructed_day (instruction_at books.history k)) both.0 ∙ ap instructed_day at in
      record {
        waiting = w;
        later = both.0;
        earlier = both.1;
        place_is = record { day = sym (days ∙ here ∙ found.day); number = sym both.0 };
      }

  -- an open pair stands as matched
  mate_of_later : (p : Pair) → p.earlier < p.later → mate_in p p.later ≡ p.earlier
  mate_of_later p lt = let test : p.earlier == p.later ≡ false = ne_eqb p.earlier p.later (λ (q : p.earlier ≡ p.later). absurd (omega arith)) in rw test refl

  open_stands : (p : Pair) → IsOpen (books.history ++ Run reference day rule ∷ []) books.pairs settled (length books.history + 1) place p → is_cancelled_pair books.history p ≡ false
  open_stands p free =
      let f = due_facts (books.history ++ Run reference day rule ∷ []) (length books.history + 1) p free.due in
      let here : is_not_cancelled books.history p ≡ true = ap (λ h. is_not_cancelled h p) (sym (before-all books.history (Run reference day rule ∷ []) (length books.history + 1) refl)) ∙ f.stands in
      not_true_is (is_cancelled_pair books.history p) here

  -- a side of a pair that is not settled and not cancelled stands as matched with the other
  pub side_state : (p : Pair) (k : ℕ) (mate : Option ℕ) (state : State) → PassesSo books (Run reference day rule) pass (is_below books (Run reference day rule) place) settled k mate state
      → Contains books.pairs p → IsSide p k → IsUnsettled settled p → is_cancelled_pair books.history p ≡ false → (reason : Reason) × (state ≡ Matched reason) × (mate ≡ Some (mate_in p k))
  side_state p k mate NoInstruction is paired side unsettled stands = absurd is
  side_state p k mate Unmatched is paired side unsettled stands = absurd (not_alone p k side (is.free p paired))
  side_state p k mate Cancelled (inl is) paired side unsettled stands = absurd (not_alone p k side (is.free p paired))
  side_state p k mate Cancelled (inr is) paired side unsettled stands =
      let one : is.pair ≡ p = one_pair_of books.history books.pairs is.pair p k are.pairing is.in_pair.paired paired is.in_pair.side side in
      let gone : is_cancelled_pair books.history p ≡ true = ap (is_cancelled_pair books.history) (sym one) ∙ is.in_pair.gone in
      absurd (both_ways _ stands gone)
  side_state p k mate (Matched reason) is paired side unsettled stands =
      let one : is.pair ≡ p = one_pair_of books.history books.pairs is.pair p k are.pairing is.in_pair.paired paired is.in_pair.side side in
      (reason, refl, is.in_pair.other ∙ ap (λ (z : Pair). Some (mate_in z k)) one)
  side_state p k mate states.Settled is paired side unsettled stands =
      let s = is.settlement in
      let one : s.pair ≡ p = one_pair_of books.history books.pairs s.pair p k are.pairing (settled_pair s is.settled) paired is.side side in
      absurd (unsettled s is.settled one)

  open_state : (p : Pair) (mate : Option ℕ) (state : State) → PassesSo books (Run reference day rule) pass (is_below books (Run reference day rule) place) settled p.later mate state
      → IsOpen (books.history ++ Run reference day rule ∷ []) books.pairs settled (length books.history + 1) place p
      → (reason : Reason) × (state ≡ Matched reason) × (mate ≡ Some p.earlier)
  open_state p mate state is free =
      let side = side_state p p.later mate state is free.paired (inr refl) free.unsettled (open_stands p free) in
      (side.0, side.1, side.2 ∙ ap Some (mate_of_later p (in_order p free.paired)))

  -- the place of a pair, in the words of the history with the run
  place_same : (p : Pair) (next : Place) → next.day ≡ day_of (books.history ++ Run reference day rule ∷ []) p → next.number ≡ p.later → next ≡ place_of (books.history ++ Run reference day rule ∷ []) p
  place_same p next d k = λ i. record { day = d i; number = k i }

  -- an open pair is one that the register finds due
  pub open_is_due : (p : Pair) → IsOpen (books.history ++ Run reference day rule ∷ []) books.pairs settled (length books.history + 1) place p
      → IsDue content (number_of day) place (place_of (books.history ++ Run reference day rule ∷ []) p)
  open_is_due p free =
      let g = books.history ++ Run reference day rule ∷ [] in
      let known : p.later ≤ length books.history = pair_known p free.paired in
      let mate = (are.pairing.exact p).0 free.paired in
      let o = mate.candidate.opposite in
      let state = open_state p (content.standing p.later).mate (content.standing p.later).state (standing_at_instruction p.later o.second o.is_second) free in
      let days : day_of g p ≡ day_of books.history p = day_of-front books.history (Run reference day rule ∷ []) p known in
      let by : day_of books.history p ≤ number_of day = run_due_by books.history reference day rule p known free.due in
      record {
        pair = record {
          later = o.second;
          mate = p.earlier;
          reason = state.0;
          is_later = ap (λ z. instruction_at z p.later) u.passing.history ∙ o.is_second;
          has_mate = state.2;
          is_earlier = mate.candidate.earlier;
          matched = state.1;
          day = sym (days ∙ ap instructed_day o.is_second);
        };
        by = omega arith;
        above = free.above;
      }

  pub none_open : IsDuePairAfter content (number_of day) place None → (p : Pair) → IsOpen (books.history ++ Run reference day rule ∷ []) books.pairs settled (length books.history + 1) place p → ⊥
  none_open none p free = none (place_of (books.history ++ Run reference day rule ∷ []) p) (open_is_due p free)

  -- a pair that the register finds due is open
  pub due_open : (next : Place) (due : IsDue content (number_of day) place next) (found : FoundPair next due.pair)
      → IsOpen (books.history ++ Run reference day rule ∷ []) books.pairs settled (length books.history + 1) place found.waiting.pair × (next ≡ place_of (books.history ++ Run reference day rule ∷ []) found.waiting.pair)
  due_open next due found =
      let g = books.history ++ Run reference day rule ∷ [] in
      let p = found.waiting.pair in
      let known : p.later ≤ length books.history = pair_known p found.waiting.in_pair.paired in
      let at = found.place_is in
      let days : day_of g p ≡ day_of books.history p = day_of-front books.history (Run reference day rule ∷ []) p known in
      let d : next.day ≡ day_of g p = at.day in
      let by : next.day ≤ number_of day = due.by in
      let same : next ≡ place_of g p = place_same p next at.day at.number in (
        record {
          paired = found.waiting.in_pair.paired;
          due = due_in_run books.history reference day rule p found.waiting.in_pair.gone known (omega arith);
          unsettled = found.waiting.in_pair.unsettled;
          above = ap (is_past place) (sym same) ∙ due.above;
        },
        same,
      )

  -- the register's next due pair is the next that the pass takes
  pub is_next : (next : Place) (due : IsDue content (number_of day) place next) → ((q : Place) → IsDue content (number_of day) place q → is_before q next ≡ false)
      → (found : FoundPair next due.pair) → IsNext (books.history ++ Run reference day rule ∷ []) books.pairs settled (length books.history + 1) place found.waiting.pair
  is_next next due least found =
      let g = books.history ++ Run reference day rule ∷ [] in
      let here = due_open next due found in
      record {
        is_open = here.0;
        least = λ q free. ap (is_before (place_of g q)) (sym here.1) ∙ least (place_of g q) (open_is_due q free);
      }

  -- the first pair that the register finds due past the place, or there is none
  pub first_due : ((p : Place) × IsDuePairAfter content (number_of day) place (Some p)) ⊎ IsDuePairAfter content (number_of day) place None
  first_due =
      let g = books.history ++ Run reference day rule ∷ [] in
      elim (next_or_none g books.pairs settled (length books.history + 1) place) [
        | inl found ↦
            let q = found.0 in
            let is = found.1 in
            inl (
              place_of g q,
              (
                open_is_due q is.is_open,
                λ r due. (let f = found_pair r due.pair in let here = due_open r due f in ap (λ z. is_before z (place_of g q)) here.1 ∙ is.least f.waiting.pair here.0),
              ),
            )
        | inr none ↦ inr (λ r due. (let f = found_pair r due.pair in none f.waiting.pair (due_open r due f).0))
      ]
