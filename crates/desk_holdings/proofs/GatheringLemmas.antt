-- The holdings of an account, gathered one by one in their order.
use Rattle.std.proofs.Common.{◌≡◌, ◌⊎◌, inl, inr, ℕ, zero, suc, ◌+◌, ◌<◌, ◌≤◌, true, false, List, [], ◌∷◌, ◌++◌, length, Contains, AllPairs, get_or, Option, Some, None, is_some, refl, ap, sym, ◌∙◌, subst, arith, append_assoc, append-nil}
use Rattle.std.proofs.lemmas.Bool.{both_ways, cases_Bool, cases_lt}
use Rattle.std.proofs.lemmas.List.Elements.{Contains-get_or, Contains-append_left, Contains-push, Contains-push_cases}
use Rattle.std.proofs.lemmas.List.Quantifiers.{all_pairs_push}
use Rattle.std.specs.Ordering.{nat_cmp, is_lt}
use Rattle.std.specs.Cmp.Lexicographic.{slice_cmp}
use Rattle.desk_msg.specs.declared.writing.statement_row.StatementRow.{StatementRow}
use Rattle.desk_rules.specs.declared.history.entry.Entry.{Entry}
use Rattle.desk_rules.specs.Facts.{kind_of}
use Rattle.desk_rules.specs.Content.{Content, history_of}
use Rattle.desk_register.specs.Looked.{HoldsAbove, IsLess, IsAboveText, IsRegisteredAbove}
use Rattle.desk_register.specs.Registered.{security_by}
use Rattle.desk_holdings.specs.Holdings.{AreFirstHoldings, AreHoldings, HoldsRegistered, IsRow}
use Rattle.desk_holdings.specs.Walking.{IsNextRow}
use Rattle.desk_holdings.proofs.AboveLemmas.{IsRegisteredIn, above_from, above_then, above_yes, fewer, is_above, left_above, left_most, less_from, less_then, listed_is_left, never_less, not_above, registered}

some_of : {X : Type 0} (o : Option X) → is_some o ≡ true → (x : X) × (o ≡ Some x)
some_of None e = cc
some_of (Some x) e = (x, refl)

-- The rows of the holdings up to the last one: each that is not above it has its row.
pub record Gathered (content : Content) (account : List ℕ) (last : Option (List ℕ)) (gathered : ℕ) (rows : List StatementRow) : Type 0 where
  pub each : (row : StatementRow) → Contains rows row → IsRow content account row
  pub in_order : AllPairs (λ a b. IsLess a.isin b.isin) rows
  pub below : (row : StatementRow) → Contains rows row → (isin : List ℕ) → IsAboveText last isin → IsLess row.isin isin
  pub all : (isin : List ℕ) → 0 < content.position account isin → is_above last isin ≡ false → (row : StatementRow) × Contains rows row × (row.isin ≡ isin)
  pub left : gathered + left_above (history_of content) last ≤ length (history_of content)

contains_none : {X : Type 0} (x : X) → Contains [] x → ⊥
contains_none x c = let lt = c.1 in absurd (omega arith)

pub gathers_none : (content : Content) (account : List ℕ) → Gathered content account None 0 []
gathers_none content account = record {
  each = λ row c. absurd (contains_none row c);
  in_order = λ i j d lt within. absurd (omega arith);
  below = λ row c isin up. absurd (contains_none row c);
  all = λ isin some low. cc;
  left = (let most = left_most (history_of content) None in omega arith);
}

module _ (content : Content) (account : List ℕ) (last : Option (List ℕ)) (gathered : ℕ) (rows : List StatementRow) (g : Gathered content account last gathered rows) where
  module _ (row : StatementRow) (next : IsNextRow content account last (Some row)) where
    is_row : IsRow content account row
    is_row = record {
      quantity = next.0.1;
      some = (let is : row.quantity ≡ content.position account row.isin = next.0.1 in let some : 0 < content.position account row.isin = next.0.0.0 in omega arith);
      kind = next.1;
    }

    is_registered : IsRegisteredAbove (history_of content) last row.isin
    is_registered = (rw next.1 refl, next.0.0.1)

    gathered_or_new : (other : List ℕ) → 0 < content.position account other → IsLess other row.isin ⊎ (other ≡ row.isin)
        → (found : StatementRow) × Contains (rows ++ row ∷ []) found × (found.isin ≡ other)
    gathered_or_new other some (inr same) = (row, Contains-push rows row, sym same)
    gathered_or_new other some (inl less) = elim (cases_Bool (is_above last other)) [
      | inl high ↦ absurd (next.0.2 other (some, above_from last other high) less)
      | inr low ↦ (let old = g.all other some low in (old.0, Contains-append_left rows (row ∷ []) old.0 old.1, old.2))
    ]

    pub gathers_one : Gathered content account (Some row.isin) (gathered + 1) (rows ++ row ∷ [])
    gathers_one = record {
      each = λ t c. elim (Contains-push_cases rows row t c) [ inl old ↦ g.each t old | inr new ↦ subst (λ z. IsRow content account z) new is_row ];
      in_order = all_pairs_push (λ a b. IsLess a.isin b.isin) rows row g.in_order (λ k d lt. g.below (get_or rows k d) (Contains-get_or rows k d lt) row.isin next.0.0.1);
      below = λ t c other up. elim (Contains-push_cases rows row t c) [
        | inl old ↦ g.below t old other (above_then last row.isin other next.0.0.1 up)
        | inr new ↦ subst (λ z. IsLess z other) (ap (λ z. z.isin) new) up
      ];
      all = λ other some low. gathered_or_new other some (not_above row.isin other low);
      left = (let less = fewer (history_of content) last row.isin is_registered in let had = g.left in omega arith);
    }

  -- where nothing is held above the last one, they are all
  pub gathered_all : IsNextRow content account last None → AreHoldings content account rows
  gathered_all none = record {
    each = g.each;
    all = λ isin some. elim (cases_Bool (is_above last isin)) [
      | inl high ↦ absurd (none isin (some, above_from last isin high))
      | inr low ↦ g.all isin some low
    ];
    in_order = g.in_order;
  }

  -- of as many as there are entries none is left
  pub none_further : HoldsRegistered content account → length (history_of content) ≤ gathered → IsNextRow content account last None
  none_further known enough = λ isin held.
      let some = listed_is_left (history_of content) last isin (known.each isin held.0, held.1) in
      let left = g.left in
      absurd (omega arith)

-- The next holding, if there is one: first among the securities that some entries register.
module _ (content : Content) (account : List ℕ) (last : Option (List ℕ)) where
  abbrev IsHeld : List ℕ → Type 0
  IsHeld isin = HoldsAbove content account last isin

  -- the first that is held of those that the entries register
  record IsFirstOf (entries : List Entry) (isin : List ℕ) : Type 0 where
    held : IsHeld isin
    first : (other : List ℕ) → IsRegisteredIn entries other → IsHeld other → IsLess other isin → ⊥

  abbrev HoldsNoneOf : List Entry → Type 0
  HoldsNoneOf entries = (other : List ℕ) → IsRegisteredIn entries other → IsHeld other → ⊥

  abbrev HoldsNamed : Option (List ℕ) → Type 0
  HoldsNamed named = (isin : List ℕ) × (named ≡ Some isin) × IsHeld isin

  abbrev HoldsNoneNamed : Option (List ℕ) → Type 0
  HoldsNoneNamed named = (isin : List ℕ) → named ≡ Some isin → IsHeld isin → ⊥

  held_or_not : (named : Option (List ℕ)) → HoldsNamed named ⊎ HoldsNoneNamed named
  held_or_not None = inr (λ isin e held. absurd (cc))
  held_or_not (Some isin) = elim (cases_lt 0 (content.position account isin)) [
    | inr none ↦ inr (λ other e held. (let some : 0 < content.position account other = held.0 in let same : isin ≡ other = cc in let is = ap (λ i. content.position account i) same in absurd (omega arith)))
    | inl some ↦ elim (cases_Bool (is_above last isin)) [
      | inl high ↦ inl (isin, refl, (some, above_from last isin high))
      | inr low ↦ inr (λ other e held. (let same : isin ≡ other = cc in let high = above_yes last isin (subst (λ z. IsAboveText last z) (sym same) held.1) in absurd (both_ways (is_above last isin) low high)))
    ]
  ]

  -- an entry registers it, or one of the further ones does
  by_entry : (entry : Entry) (entries : List Entry) (isin : List ℕ) → IsRegisteredIn (entry ∷ entries) isin → (security_by entry ≡ Some isin) ⊎ IsRegisteredIn entries isin
  by_entry entry entries isin r = elim r.kept [
    | inl same ↦ inl (ap security_by same ∙ r.is)
    | inr later ↦ inr (record { entry = r.entry; kept = later; is = r.is })
  ]

  named_once : (named : Option (List ℕ)) (a b : List ℕ) → named ≡ Some a → named ≡ Some b → a ≡ b
  named_once named a b e f = cc

  module _ (entry : Entry) (entries : List Entry) where
    -- the entry's own is first
    own_first : (isin : List ℕ) → security_by entry ≡ Some isin → IsHeld isin → ((other : List ℕ) → IsRegisteredIn entries other → IsHeld other → IsLess other isin → ⊥) → IsFirstOf (entry ∷ entries) isin
    own_first isin is held rest = record {
      held = held;
      first = λ other r there less. elim (by_entry entry entries other r) [
        | inl own ↦ never_less isin (subst (λ z. IsLess z isin) (named_once (security_by entry) other isin own is) less)
        | inr later ↦ rest other later there less
      ];
    }

    -- one of the further entries' is first
    other_first : (isin : List ℕ) → IsFirstOf entries isin → ((other : List ℕ) → security_by entry ≡ Some other → IsHeld other → IsLess other isin → ⊥) → IsFirstOf (entry ∷ entries) isin
    other_first isin f own_not = record {
      held = f.held;
      first = λ other r there less. elim (by_entry entry entries other r) [
        | inl own ↦ own_not other own there less
        | inr later ↦ f.first other later there less
      ];
    }

    first_more : HoldsNamed (security_by entry) ⊎ HoldsNoneNamed (security_by entry) → ((isin : List ℕ) × IsFirstOf entries isin) ⊎ HoldsNoneOf entries
        → ((isin : List ℕ) × IsFirstOf (entry ∷ entries) isin) ⊎ HoldsNoneOf (entry ∷ entries)
    first_more (inr without) (inr none) = inr (λ other r held. elim (by_entry entry entries other r) [ inl own ↦ without other own held | inr later ↦ none other later held ])
    first_more (inr without) (inl found) = inl (found.0, other_first found.0 found.1 (λ other own held less. without other own held))
    first_more (inl own) (inr none) = inl (own.0, own_first own.0 own.1 own.2 (λ other later held less. none other later held))
    first_more (inl own) (inl found) = elim (cases_Bool (is_lt (slice_cmp nat_cmp own.0 found.0))) [
      | inl before ↦ inl (own.0, own_first own.0 own.1 own.2 (λ other later held less. found.1.first other later held (less_then other own.0 found.0 less (less_from (slice_cmp nat_cmp own.0 found.0) before))))
      | inr after ↦ inl (
        found.0,
        other_first found.0 found.1 (λ other is held less.
            let same : other ≡ own.0 = named_once (security_by entry) other own.0 is own.1 in
            let low : IsLess own.0 found.0 = subst (λ z. IsLess z found.0) same less in
            absurd (both_ways (is_lt (slice_cmp nat_cmp own.0 found.0)) after (ap is_lt low))),
      )
    ]

  first_or_none : (entries : List Entry) → ((isin : List ℕ) × IsFirstOf entries isin) ⊎ HoldsNoneOf entries
  first_or_none [] = inr (λ other r held. absurd r.kept)
  first_or_none (entry ∷ entries) = first_more entry entries (held_or_not (security_by entry)) (first_or_none entries)

  next_or_none : HoldsRegistered content account → ((row : StatementRow) × IsNextRow content account last (Some row)) ⊎ IsNextRow content account last None
  next_or_none known = elim (first_or_none (history_of content)) [
    | inl found ↦
        let isin = found.0 in
        let kind = some_of (kind_of (history_of content) isin) (known.each isin found.1.held.0) in
        let row : StatementRow = record { isin = isin; kind = kind.0; quantity = content.position account isin } in
        inl (row, ((found.1.held, refl, λ other held less. found.1.first other (registered (history_of content) other (known.each other held.0)) held less), kind.1))
    | inr none ↦ inr (λ isin held. none isin (registered (history_of content) isin (known.each isin held.0)) held)
  ]

-- What was gathered goes on to the end.
module _ (content : Content) (account : List ℕ) (known : HoldsRegistered content account) where
  ends_here : (last : Option (List ℕ)) (gathered : ℕ) (rows : List StatementRow) → Gathered content account last gathered rows → IsNextRow content account last None → AreFirstHoldings content account rows
  ends_here last gathered rows g none = record { rest = []; whole = subst (λ z. AreHoldings content account z) (sym (append-nil rows)) (gathered_all content account last gathered rows g none) }

  goes_on : (turns : ℕ) (last : Option (List ℕ)) (gathered : ℕ) (rows : List StatementRow) → Gathered content account last gathered rows → length (history_of content) ≤ gathered + turns → AreFirstHoldings content account rows
  goes_on zero last gathered rows g enough = ends_here last gathered rows g (none_further content account last gathered rows g known (omega arith))
  goes_on (suc turns) last gathered rows g enough = elim (next_or_none content account last known) [
    | inr none ↦ ends_here last gathered rows g none
    | inl next ↦
        let row = next.0 in
        let more = goes_on turns (Some row.isin) (gathered + 1) (rows ++ row ∷ []) (gathers_one content account last gathered rows g row next.1) (omega arith) in
        record { rest = row ∷ more.rest; whole = subst (λ z. AreHoldings content account z) (append_assoc rows (row ∷ []) more.rest) more.whole }
  ]

  pub gathered_first : (last : Option (List ℕ)) (gathered : ℕ) (rows : List StatementRow) → Gathered content account last gathered rows → AreFirstHoldings content account rows
  gathered_first last gathered rows g = goes_on (length (history_of content)) last gathered rows g (omega arith)

  pub holdings_exist : (rows : List StatementRow) × AreHoldings content account rows
  holdings_exist = let first = gathered_first None 0 [] (gathers_none content account) in (first.rest, first.whole)
