-- The pairs that wait, gathered one by one in their order.
use Rattle.std.proofs.Common.{◌≡◌, inl, inr, ℕ, zero, suc, ◌≤◌, true, false, List, [], ◌∷◌, ◌++◌, Contains, AllPairs, get_or, Option, Some, None, ap, sym, ◌∙◌, subst, arith, append_assoc, append-nil}
use Rattle.std.proofs.lemmas.Bool.{cases_Bool}
use Rattle.std.proofs.lemmas.List.Elements.{Contains-get_or, Contains-append_left, Contains-push, Contains-push_cases}
use Rattle.std.proofs.lemmas.List.Quantifiers.{all_pairs_push}
use Rattle.desk_rules.specs.declared.history.pair.Place.{Place}
use Rattle.desk_rules.specs.Content.{Content}
use Rattle.desk_rules.specs.Settlement.{is_before, is_past}
use Rattle.desk_rules.proofs.PlaceLemmas.{before_through}
use Rattle.desk_register.specs.Looked.{IsMatchedPair}
use Rattle.desk_report.specs.declared.rows.pending.PendingPair.{PendingPair}
use Rattle.desk_report.specs.Pending.{ArePending, IsPendingRow, place_of_row}
use Rattle.desk_report.specs.PendingReading.{IsPairAfter, IsWaitingPair}
use Rattle.desk_report.proofs.MatchedLemmas.{left, left_fewer, neither_before, next_or_none}
use Rattle.desk_report.proofs.PendingRowLemmas.{place_told, row_exists}

-- The rows of the pairs up to the last place: each matched pair that is not past it has its row.
pub record Gathered (content : Content) (last : Option Place) (rows : List PendingPair) : Type 0 where
  pub each : (row : PendingPair) → Contains rows row → IsPendingRow content (place_of_row row) row
  pub in_order : AllPairs (λ a b. is_before (place_of_row a) (place_of_row b) ≡ true) rows
  pub below : (row : PendingPair) → Contains rows row → (p : Place) → is_past last p ≡ true → is_before (place_of_row row) p ≡ true
  pub all : (p : Place) → IsMatchedPair content p → is_past last p ≡ false → (row : PendingPair) × Contains rows row × (place_of_row row ≡ p)

contains_none : {X : Type 0} (x : X) → Contains [] x → ⊥
contains_none x c = let lt = c.1 in absurd (omega arith)

pub gathers_none : (content : Content) → Gathered content None []
gathers_none content = record {
  each = λ row c. absurd (contains_none row c);
  in_order = λ i j d lt within. absurd (omega arith);
  below = λ row c p past. absurd (contains_none row c);
  all = λ p w low. cc;
}

module _ (content : Content) (last : Option Place) (rows : List PendingPair) (g : Gathered content last rows) where
  module _ (next : Place) (row : PendingPair) (after : IsPairAfter content last (Some next)) (is : IsPendingRow content next row) where
    at : place_of_row row ≡ next
    at = place_told content next row is

    is_row : IsPendingRow content (place_of_row row) row
    is_row = subst (λ z. IsPendingRow content z row) (sym at) is

    gathered_or_next : (p : Place) → IsMatchedPair content p → is_before next p ≡ false → (found : PendingPair) × Contains (rows ++ row ∷ []) found × (place_of_row found ≡ p)
    gathered_or_next p w low = elim (cases_Bool (is_past last p)) [
      | inl high ↦ (row, Contains-push rows row, at ∙ neither_before next p low (after.2 p w high))
      | inr gone ↦ (let old = g.all p w gone in (old.0, Contains-append_left rows (row ∷ []) old.0 old.1, old.2))
    ]

    pub gathers_one : Gathered content (Some next) (rows ++ row ∷ [])
    gathers_one = record {
      each = λ t c. elim (Contains-push_cases rows row t c) [ inl old ↦ g.each t old | inr new ↦ subst (λ z. IsPendingRow content (place_of_row z) z) new is_row ];
      in_order = all_pairs_push (λ a b. is_before (place_of_row a) (place_of_row b) ≡ true) rows row g.in_order
          (λ k d lt. subst (λ z. is_before (place_of_row (get_or rows k d)) z ≡ true) (sym at) (g.below (get_or rows k d) (Contains-get_or rows k d lt) next after.1));
      below = λ t c p past. elim (Contains-push_cases rows row t c) [
        | inl old ↦ before_through (place_of_row t) next p (g.below t old next after.1) past
        | inr new ↦ subst (λ z. is_before z p ≡ true) (sym at ∙ ap place_of_row new) past
      ];
      all = λ p w low. gathered_or_next p w low;
    }

  pub gathered_all : IsPairAfter content last None → ArePending content rows
  gathered_all none = record {
    each = g.each;
    all = λ p w. elim (cases_Bool (is_past last p)) [ inl high ↦ absurd (none p w high) | inr low ↦ g.all p w low ];
    in_order = g.in_order;
  }

-- What was gathered goes on to the end.
module _ (content : Content) (known : (p : Place) → IsMatchedPair content p → IsWaitingPair content p) where
  ends_here : (last : Option Place) (rows : List PendingPair) → Gathered content last rows → IsPairAfter content last None → (more : List PendingPair) × ArePending content (rows ++ more)
  ends_here last rows g none = ([], subst (λ z. ArePending content z) (sym (append-nil rows)) (gathered_all content last rows g none))

  goes_on : (turns : ℕ) (last : Option Place) (rows : List PendingPair) → Gathered content last rows → left content last ≤ turns → (more : List PendingPair) × ArePending content (rows ++ more)
  goes_on zero last rows g enough = elim (next_or_none content last) [
    | inr none ↦ ends_here last rows g none
    | inl next ↦ (let fewer = left_fewer content last next.0 next.1.0 next.1.1 in absurd (omega arith))
  ]
  goes_on (suc turns) last rows g enough = elim (next_or_none content last) [
    | inr none ↦ ends_here last rows g none
    | inl next ↦
        let fewer = left_fewer content last next.0 next.1.0 next.1.1 in
        let row = row_exists content next.0 (known next.0 next.1.0) in
        let more = goes_on turns (Some next.0) (rows ++ row.0 ∷ []) (gathers_one content last rows g next.0 row.0 next.1 row.1) (omega arith) in
        (row.0 ∷ more.0, subst (λ z. ArePending content z) (append_assoc rows (row.0 ∷ []) more.0) more.1)
  ]

  pub pending_go_on : (last : Option Place) (rows : List PendingPair) → Gathered content last rows → (more : List PendingPair) × ArePending content (rows ++ more)
  pending_go_on last rows g = goes_on (left content last) last rows g (omega arith)
