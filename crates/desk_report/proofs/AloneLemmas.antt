-- No two unmatched instructions are opposite: the later one would have been paired.
use Rattle.std.proofs.Common.{◌≡◌, ℕ, ◌-◌, ◌<◌, true, false, inl, inr, List, drop, Option, Some, refl, sym, ap, ◌∙◌, subst}
use Rattle.std.proofs.lemmas.Bool.{both_ways, cases_order, false_from_ne_true}
use Rattle.std.proofs.lemmas.List.{take-append-drop}
use Rattle.desk_rules.specs.Books.{Books}
use Rattle.desk_rules.specs.Cancelled.{is_cancel_requested}
use Rattle.desk_rules.specs.Content.{Content, history_of}
use Rattle.desk_rules.specs.History.{before, instruction_at}
use Rattle.desk_rules.specs.Opposite.{AreOpposite}
use Rattle.desk_rules.specs.Pairing.{IsCandidate, pairs_below}
use Rattle.desk_rules.specs.Standing.{standing_of}
use Rattle.desk_rules.specs.Stands.{IsAlone, StandsSo}
use Rattle.desk_rules.specs.Tables.{AreTables}
use Rattle.desk_rules.specs.declared.history.entry.Entry.{Entry}
use Rattle.desk_rules.specs.declared.history.entry.Instructed.{Instructed}
use Rattle.desk_rules.specs.declared.history.pair.Pair.{Pair}
use Rattle.desk_rules.specs.declared.history.standing.State.{State}
use Rattle.desk_rules.specs.declared.history.standing.State.TheVariants.{NoInstruction, Unmatched, Matched, Cancelled, Settled}
use Rattle.desk_rules.proofs.Decided.{Contains-from_In, In-filter, In-from_Contains}
use Rattle.desk_rules.proofs.Deciding.{mate_or_none}
use Rattle.desk_rules.proofs.FinalStates.{requested-front}
use Rattle.desk_rules.proofs.PairingLaws.{never_own, opposite_back}
use Rattle.desk_rules.proofs.StandsLemmas.{is_stands}
use Rattle.desk_rules.specs.Unmatched.{if_unmatched, unmatched_in}

pub unmatched_state : (state : State) (found : Option Instructed) (one : Instructed) → if_unmatched state found ≡ Some one → state ≡ Unmatched
unmatched_state Unmatched found one is = refl
unmatched_state NoInstruction found one is = absurd (cc)
unmatched_state (Matched reason) found one is = absurd (cc)
unmatched_state Cancelled found one is = absurd (cc)
unmatched_state Settled found one is = absurd (cc)

unmatched_found : (state : State) (found : Option Instructed) (one : Instructed) → if_unmatched state found ≡ Some one → found ≡ Some one
unmatched_found Unmatched found one is = is
unmatched_found NoInstruction found one is = absurd (cc)
unmatched_found (Matched reason) found one is = absurd (cc)
unmatched_found Cancelled found one is = absurd (cc)
unmatched_found Settled found one is = absurd (cc)

module _ (books : Books) (content : Content) (are : AreTables books content) where
  module _ (n : ℕ) (one : Instructed) (is : unmatched_in content n ≡ Some one) where
    pub in_history : instruction_at books.history n ≡ Some one
    in_history = ap (λ h. instruction_at h n) (sym are.history) ∙ unmatched_found (content.standing n).state (instruction_at (history_of content) n) one is

    -- it is in no pair, and no cancellation of it was requested
    pub is_alone : IsAlone books n (standing_of books n).mate false
    is_alone =
        let state : (standing_of books n).state ≡ Unmatched = ap (λ s. s.state) (sym (are.standings.each n)) ∙ unmatched_state (content.standing n).state (instruction_at (history_of content) n) one is in
        subst (λ s. StandsSo books n (standing_of books n).mate s) state (is_stands books are.are n (Some one) in_history).so

  module _ (a b : ℕ) (one other : Instructed) (earlier : unmatched_in content a ≡ Some one) (later : unmatched_in content b ≡ Some other) where
    is_candidate : a < b → AreOpposite one other → IsCandidate books.history (pairs_below b books.pairs) b a
    is_candidate lt opposite = record {
      earlier = lt;
      opposite = record { first = one; second = other; is_first = in_history a one earlier; is_second = in_history b other later; opposite = opposite };
      free = λ p c. (is_alone a one earlier).free p (Contains-from_In books.pairs p (In-filter _ books.pairs p (In-from_Contains (pairs_below b books.pairs) p c)).0);
      stands = false_from_ne_true (is_cancel_requested (before b books.history) a) (λ requested.
          let whole = take-append-drop (b - 1) books.history in
          let still = requested-front (before b books.history) (drop (b - 1) books.history) a requested in
          both_ways (is_cancel_requested books.history a) (is_alone a one earlier).gone (subst (λ (h : List Entry). is_cancel_requested h a ≡ true) whole still));
    }

    pub would_pair : a < b → AreOpposite one other → ⊥
    would_pair lt opposite = elim (mate_or_none books.history (pairs_below b books.pairs) b) [
      | inl found ↦ (let pair : Pair = record { earlier = found.0; later = b } in ((is_alone b other later).free pair ((are.are.pairing.exact pair).1 found.1)).1 refl)
      | inr none ↦ none a (is_candidate lt opposite)
    ]

  -- in whatever order they came
  pub never_opposite : (a b : ℕ) (one other : Instructed) → unmatched_in content a ≡ Some one → unmatched_in content b ≡ Some other → AreOpposite one other → ⊥
  never_opposite a b one other at_a at_b opposite = elim (cases_order a b) [
    | inl same ↦
        let both : Some one ≡ Some other = sym at_a ∙ ap (unmatched_in content) same ∙ at_b in
        let it : one ≡ other = cc in
        never_own other (subst (λ z. AreOpposite z other) it opposite)
    | inr apart ↦ elim apart [
      | inl less ↦ would_pair a b one other at_a at_b less opposite
      | inr more ↦ would_pair b a other one at_b at_a more (opposite_back one other opposite)
    ]
  ]
