-- What a step of a run's pass leaves: where each instruction stands, and what is settled so far.
use Rattle.std.proofs.Common.{◌≡◌, ◌≢◌, inl, inr, ℕ, ◌+◌, Bool, true, false, not, List, [], ◌∷◌, ◌++◌, length, Contains, Option, Some, refl, ap, sym, ◌∙◌, subst, append-nil}
use Rattle.std.proofs.lemmas.Bool.{cases_Bool, both_ways}
use Rattle.desk_rules.specs.declared.history.entry.Entry.{Entry}
use Rattle.desk_rules.specs.declared.history.pair.Pair.{Pair}
use Rattle.desk_rules.specs.declared.history.pair.Place.{Place}
use Rattle.desk_rules.specs.declared.history.pair.Settled.{Settled}
use Rattle.desk_rules.specs.declared.history.pair.Lack.{Lack}
use Rattle.desk_rules.specs.declared.history.standing.State.{State}
use Rattle.desk_rules.specs.declared.history.standing.State.TheVariants as states
use Rattle.desk_rules.specs.declared.history.standing.State.TheVariants.{NoInstruction, Unmatched, Matched, Cancelled}
use Rattle.desk_rules.specs.Cancelled.{is_cancelled_pair}
use Rattle.desk_rules.specs.Pairing.{IsSide, mate_in}
use Rattle.desk_rules.specs.Covered.{lack_of}
use Rattle.desk_rules.specs.Settlement.{is_due, is_sooner, precedes, settled_before, is_not_cancelled}
use Rattle.desk_rules.specs.Underway.{is_above}
use Rattle.desk_rules.specs.Underway.{IsNext}
use Rattle.desk_rules.specs.Books.{Books, AreBooks}
use Rattle.desk_rules.specs.Standing.{reason_of_lack}
use Rattle.desk_rules.specs.Stands.{IsInPair}
use Rattle.desk_engine.specs.Pass.{PassesSo, found_in, is_below}
use Rattle.desk_rules.proofs.Decided.{In-from_Contains, Contains-from_In, In-left, In-right, In-push_cases, filter-push_no, filter-front, not_back}
use Rattle.desk_rules.proofs.HistoryLemmas.{before-all}
use Rattle.desk_rules.proofs.SettlementLemmas.{precedes_strict, precedes_pair, ordered_pairs, one_number, due_facts}
use Rattle.desk_rules.proofs.SettlementGrowth.{IsSettledTo, IsPlaceOf, below_above, at_place, before_above}

pub not_true_is : (a : Bool) → not a ≡ true → a ≡ false
not_true_is true e = absurd (cc)
not_true_is false e = refl

pub not_of : (a : Bool) → a ≡ false → not a ≡ true
not_of a e = ap not e

module _ (books : Books) (e : Entry) (pass : ℕ) (place : Option Place) (settled : List Settled) (q : Pair) (next : Place) (are : AreBooks books)
    (is : IsNext (books.history ++ e ∷ []) books.pairs settled (length books.history + 1) place q) (at : IsPlaceOf (books.history ++ e ∷ []) next q)
    (reached : IsSettledTo (books.history ++ e ∷ []) books.pairs (length books.history + 1) pass place settled) where
  -- the pair that is taken is not cancelled
  pub next_stands : is_cancelled_pair books.history q ≡ false
  next_stands =
      let f = due_facts (books.history ++ e ∷ []) (length books.history + 1) q is.is_open.due in
      let here : is_not_cancelled books.history q ≡ true = ap (λ h. is_not_cancelled h q) (sym (before-all books.history (e ∷ []) (length books.history + 1) refl)) ∙ f.stands in
      not_true_is (is_cancelled_pair books.history q) here

  -- of another pair, not settled: what the pass has tried behind the next pair, it had tried before
  tried_before : (p : Pair) → Contains books.pairs p → (p ≡ q → ⊥) → ((s : Settled) → Contains settled s → s.pair ≢ p) → is_due (books.history ++ e ∷ []) (length books.history + 1) p ≡ true
      → is_below books e (Some next) p ≡ true → is_below books e place p ≡ true
  tried_before p paired differs unsettled due low =
      let g = books.history ++ e ∷ [] in
      elim (cases_Bool (is_above g place p)) [
        | inr below ↦ not_of (is_above g place p) below
        | inl above ↦ absurd (elim (at_place g next p q at (not_true_is (is_above g (Some next) p) low)) [
          | inl sooner ↦ both_ways _ (is.least p (record { paired = paired; due = due; unsettled = unsettled; above = above })) sooner
          | inr same ↦ differs (one_number books.pairs (ordered_pairs books.history books.pairs are.pairing) p q (In-from_Contains books.pairs p paired) (In-from_Contains books.pairs q is.is_open.paired) same)
        ])
      ]

  below_sooner : (p : Pair) → is_below books e place p ≡ true → is_sooner (books.history ++ e ∷ []) p q ≡ true
  below_sooner p low = below_above (books.history ++ e ∷ []) place p q (not_true_is (is_above (books.history ++ e ∷ []) place p) low) is.is_open.above

  -- what was found of a pair before stays so when the next one settles
  found_stays : (p : Pair) → is_below books e place p ≡ true → found_in books e pass (settled ++ record { run = length books.history + 1; pass = pass; pair = q } ∷ []) p ≡ found_in books e pass settled p
  found_stays p low =
      let g = books.history ++ e ∷ [] in
      let n = length books.history + 1 in
      let new : Settled = record { run = n; pass = pass; pair = q } in
      let mine : Settled = record { run = n; pass = pass; pair = p } in
      let first : precedes g mine new ≡ true = precedes_pair g mine new refl refl (below_sooner p low) in
      let never : precedes g new mine ≡ false = not_back (precedes g) (precedes_strict g) mine new first in
      let same : settled_before g mine (settled ++ new ∷ []) ≡ settled_before g mine settled = filter-push_no (λ s. precedes g s mine) settled new never in
      ap (λ z. reason_of_lack (lack_of books.history z p)) same

  side_apart : (p : Pair) (k : ℕ) → IsSide p k → (IsSide q k → ⊥) → p ≡ q → ⊥
  side_apart p k side apart same = let P : Pair → Type 0 = λ z. IsSide z k in apart (subst P same side)

  -- another instruction, where the pair stays
  pub left_so : (k : ℕ) (mate : Option ℕ) (state : State) → (IsSide q k → ⊥) → PassesSo books e pass (is_below books e place) settled k mate state → PassesSo books e pass (is_below books e (Some next)) settled k mate state
  left_so k mate NoInstruction apart x = x
  left_so k mate Unmatched apart x = x
  left_so k mate Cancelled apart x = x
  left_so k mate (Matched reason) apart x = record {
    pair = x.pair;
    in_pair = x.in_pair;
    not_due = x.not_due;
    tried = λ due low. x.tried due (tried_before x.pair x.in_pair.paired (side_apart x.pair k x.in_pair.side apart) x.in_pair.unsettled due low);
  }
  left_so k mate states.Settled apart x = x

  -- a pair that is none of those settled is none of them with the new one
  unsettled_on : (p : Pair) → (p ≡ q → ⊥) → ((s : Settled) → Contains settled s → s.pair ≢ p) → (s : Settled) → Contains (settled ++ record { run = length books.history + 1; pass = pass; pair = q } ∷ []) s → s.pair ≢ p
  unsettled_on p differs unsettled s c same =
      let new : Settled = record { run = length books.history + 1; pass = pass; pair = q } in
      elim (In-push_cases settled new s (In-from_Contains (settled ++ new ∷ []) s c)) [
        | inl old ↦ unsettled s (Contains-from_In settled s old) same
        | inr is_new ↦ differs (sym same ∙ sym (ap (λ (z : Settled). z.pair) is_new))
      ]

  in_pair_on : (k : ℕ) (mate : Option ℕ) (p : Pair) (gone : Bool) → (p ≡ q → ⊥) → IsInPair (record books { settled = settled }) k mate p gone
      → IsInPair (record books { settled = settled ++ record { run = length books.history + 1; pass = pass; pair = q } ∷ [] }) k mate p gone
  in_pair_on k mate p gone differs x = record { paired = x.paired; side = x.side; other = x.other; unsettled = unsettled_on p differs x.unsettled; gone = x.gone }

  -- and where it settles
  pub settled_so : (k : ℕ) (mate : Option ℕ) (state : State) → (IsSide q k → ⊥) → PassesSo books e pass (is_below books e place) settled k mate state
      → PassesSo books e pass (is_below books e (Some next)) (settled ++ record { run = length books.history + 1; pass = pass; pair = q } ∷ []) k mate state
  settled_so k mate NoInstruction apart x = x
  settled_so k mate Unmatched apart x = x
  settled_so k mate Cancelled apart (inl x) = inl x
  settled_so k mate Cancelled apart (inr x) = inr (record { pair = x.pair; in_pair = in_pair_on k mate x.pair true (side_apart x.pair k x.in_pair.side apart) x.in_pair })
  settled_so k mate (Matched reason) apart x =
      let differs = side_apart x.pair k x.in_pair.side apart in
      record {
        pair = x.pair;
        in_pair = in_pair_on k mate x.pair false differs x.in_pair;
        not_due = x.not_due;
        tried = λ due low.
            let before = tried_before x.pair x.in_pair.paired differs x.in_pair.unsettled due low in
            x.tried due before ∙ sym (found_stays x.pair before);
      }
  settled_so k mate states.Settled apart x =
      let new : Settled = record { run = length books.history + 1; pass = pass; pair = q } in
      record {
        settlement = x.settlement;
        settled = Contains-from_In (settled ++ new ∷ []) x.settlement (In-left settled (new ∷ []) x.settlement (In-from_Contains settled x.settlement x.settled));
        side = x.side;
        other = x.other;
      }

  -- a side of the pair
  pub side_settled : (k m : ℕ) → IsSide q k → mate_in q k ≡ m → PassesSo books e pass (is_below books e (Some next)) (settled ++ record { run = length books.history + 1; pass = pass; pair = q } ∷ []) k (Some m) states.Settled
  side_settled k m side mate =
      let new : Settled = record { run = length books.history + 1; pass = pass; pair = q } in
      record {
        settlement = new;
        settled = Contains-from_In (settled ++ new ∷ []) new (In-right settled (new ∷ []) new (inl refl));
        side = side;
        other = ap Some (sym mate);
      }

  pub side_left : (k m : ℕ) → IsSide q k → mate_in q k ≡ m → ((s : Settled) → Contains settled s → s.pair ≢ q) → (lack : Lack) → lack_of books.history settled q ≡ Some lack
      → PassesSo books e pass (is_below books e (Some next)) settled k (Some m) (Matched (reason_of_lack (Some lack)))
  side_left k m side mate unsettled lack lacks =
      let g = books.history ++ e ∷ [] in
      let new : Settled = record { run = length books.history + 1; pass = pass; pair = q } in
      let all : settled_before g new settled ≡ settled =
      sym (ap (λ z. settled_before g new z) (append-nil settled)) ∙ filter-front (λ s. precedes g s new) settled [] (λ s i. before_above g (length books.history + 1) pass place s new (reached.within s i) refl refl is.is_open.above) (λ s i. absurd i) in
      record {
        pair = q;
        in_pair = record {
          paired = is.is_open.paired;
          side = side;
          other = ap Some (sym mate);
          unsettled = unsettled;
          gone = next_stands;
        };
        not_due = λ out. absurd (both_ways _ out is.is_open.due);
        tried = λ due low. sym (ap (λ z. reason_of_lack (lack_of books.history z q)) all ∙ ap reason_of_lack lacks);
      }
