-- The currencies that were paid in, gathered one by one in the order of their letters.
use Rattle.std.proofs.Common.{◌≡◌, inl, inr, ℕ, zero, suc, ◌+◌, ◌<◌, ◌≤◌, true, false, List, [], ◌∷◌, ◌++◌, length, Contains, AllPairs, Some, None, get_or, refl, sym, ap, ◌∙◌, subst, arith, append_assoc, append-nil}
use Rattle.std.specs.List.{list_any}
use Rattle.std.proofs.lemmas.Bool.{cases_Bool, cases_lt, or_cases, or_parts}
use Rattle.std.proofs.lemmas.List.Elements.{Contains-get_or, Contains-append_left, Contains-push, Contains-push_cases}
use Rattle.std.proofs.lemmas.List.Quantifiers.{all_pairs_push}
use Rattle.std.proofs.lemmas.List.Sums.{sum_by-cons}
use Rattle.desk_codes.specs.Currency.{letters_of, place_of}
use Rattle.desk_codes.specs.declared.currency.Ccy.{Ccy}
use Rattle.desk_codes.specs.declared.currency.Ccy.TheVariants.{Chf}
use Rattle.desk_codes.specs.declared.currency.TheConstants.{CURRENCIES}
use Rattle.desk_codes.proofs.CurrencyLemmas.{below_all, less_before, same_place, stands_at}
use Rattle.desk_rules.specs.declared.history.entry.Entry.{Entry}
use Rattle.desk_rules.specs.declared.history.entry.Entry.TheVariants.{PayIn}
use Rattle.desk_rules.specs.Balances.{paid_in, paid_in_by, paid_out, payment_in, same_ccy}
use Rattle.desk_rules.specs.Books.{Books}
use Rattle.desk_rules.specs.Content.{Content, history_of}
use Rattle.desk_rules.proofs.Conservation.{if_false, if_true}
use Rattle.desk_register.specs.Looked.{IsLess, IsPaid, held_cash_of, pays_in}
use Rattle.desk_engine.specs.Applied.{Keeps}
use Rattle.desk_engine.proofs.HeldLemmas.{held_cash_adds_up}
use Rattle.desk_book.specs.declared.answers.total.CashTotal.{CashTotal}
use Rattle.desk_book.specs.Totals.{AreCashTotals, IsCashTotal, TotalsCash}
use Rattle.desk_book.proofs.ListedLemmas.{contains_none}

-- What was paid in.

pays : (ccy : Ccy) (e : Entry) → pays_in ccy e ≡ true → 0 < paid_in_by (payment_in ccy) e
pays ccy (PayIn payment) is =
    let same : paid_in_by (payment_in ccy) (PayIn payment) ≡ payment.amount = if_true (same_ccy payment.ccy ccy) payment.amount is in
    let some = payment.some in
    omega arith
pays ccy e is = absurd (cc)

pays_nothing : (ccy : Ccy) (e : Entry) → pays_in ccy e ≡ false → paid_in_by (payment_in ccy) e ≡ 0
pays_nothing ccy (PayIn payment) is = if_false (same_ccy payment.ccy ccy) payment.amount is
pays_nothing ccy e is = refl

was_paid_in : (h : List Entry) (ccy : Ccy) → list_any (pays_in ccy) h ≡ true → 0 < paid_in h ccy
was_paid_in [] ccy is = absurd (cc)
was_paid_in (e ∷ h) ccy is =
    let sum = sum_by-cons (paid_in_by (payment_in ccy)) e h in
    elim (or_cases (pays_in ccy e) (list_any (pays_in ccy) h) is) [
      | inl now ↦ (let some = pays ccy e now in omega arith)
      | inr later ↦ (let some = was_paid_in h ccy later in omega arith)
    ]

never_paid_in : (h : List Entry) (ccy : Ccy) → list_any (pays_in ccy) h ≡ false → paid_in h ccy ≡ 0
never_paid_in [] ccy is = refl
never_paid_in (e ∷ h) ccy is =
    let sum = sum_by-cons (paid_in_by (payment_in ccy)) e h in
    let both = or_parts (pays_in ccy e) (list_any (pays_in ccy) h) is in
    let now = pays_nothing ccy e both.0 in
    let later = never_paid_in h ccy both.1 in
    omega arith

-- What a currency totals.

pub totals_none : (content : Content) (ccy : Ccy) → IsPaid (history_of content) ccy None → TotalsCash content ccy None
totals_none content ccy none = never_paid_in (history_of content) ccy none

pub totals_one : (content : Content) (ccy : Ccy) (net held : ℕ) → IsPaid (history_of content) ccy (Some net) → held ≡ held_cash_of content ccy
    → TotalsCash content ccy (Some (record { ccy = ccy; held = held; net = net }))
totals_one content ccy net held paid is = (record { known = (ccy, refl, was_paid_in (history_of content) ccy paid.0); held = is; net = paid.1 }, refl)

-- the totals of the currencies of so many places
pub record CashGathered (content : Content) (count : ℕ) (totals : List CashTotal) : Type 0 where
  pub each : (total : CashTotal) → Contains totals total → IsCashTotal content total
  pub below : (total : CashTotal) → Contains totals total → place_of total.ccy < count
  pub all : (ccy : Ccy) → 0 < paid_in (history_of content) ccy → place_of ccy < count → (total : CashTotal) × Contains totals total × (total.ccy ≡ ccy)
  pub in_order : AllPairs (λ a b. IsLess (letters_of a.ccy) (letters_of b.ccy)) totals

pub cash_none : (content : Content) → CashGathered content 0 []
cash_none content = record {
  each = λ total c. absurd (contains_none total c);
  below = λ total c. absurd (contains_none total c);
  all = λ ccy paid lt. absurd (omega arith);
  in_order = λ i j d lt within. absurd (omega arith);
}

module _ (content : Content) (count : ℕ) (totals : List CashTotal) (g : CashGathered content count totals) (ccy : Ccy) (at : place_of ccy ≡ count) where
  pub cash_skips : paid_in (history_of content) ccy ≡ 0 → CashGathered content (count + 1) totals
  cash_skips none = record {
    each = g.each;
    below = λ total c. (let lt = g.below total c in omega arith);
    all = λ other paid lt. elim (cases_lt (place_of other) count) [
      | inl before ↦ g.all other paid before
      | inr now ↦
          let same = same_place other ccy (omega arith) in
          let P : Ccy → Type 0 = λ c. 0 < paid_in (history_of content) c in
          let some = subst P same paid in
          absurd (omega arith)
    ];
    in_order = g.in_order;
  }

  pub cash_takes : (total : CashTotal) → IsCashTotal content total → total.ccy ≡ ccy → CashGathered content (count + 1) (totals ++ total ∷ [])
  cash_takes total is of_it =
      let here : place_of total.ccy ≡ count = ap place_of of_it ∙ at in
      record {
        each = λ t c. elim (Contains-push_cases totals total t c) [ inl old ↦ g.each t old | inr new ↦ subst (λ z. IsCashTotal content z) new is ];
        below = λ t c. elim (Contains-push_cases totals total t c) [
          | inl old ↦ (let lt = g.below t old in omega arith)
          | inr new ↦ (let same : place_of total.ccy ≡ place_of t.ccy = ap (λ z. place_of z.ccy) new in omega arith)
        ];
        all = λ other paid lt. elim (cases_lt (place_of other) count) [
          | inl before ↦ (let old = g.all other paid before in (old.0, Contains-append_left totals (total ∷ []) old.0 old.1, old.2))
          | inr now ↦ (total, Contains-push totals total, of_it ∙ sym (same_place other ccy (omega arith)))
        ];
        in_order = all_pairs_push (λ a b. IsLess (letters_of a.ccy) (letters_of b.ccy)) totals total g.in_order
            (λ k d lt. (let before = g.below (get_or totals k d) (Contains-get_or totals k d lt) in less_before (get_or totals k d).ccy total.ccy (omega arith)));
      }

-- all of them
pub cash_all : (content : Content) (count : ℕ) (totals : List CashTotal) → length CURRENCIES ≤ count → CashGathered content count totals → AreCashTotals content totals
cash_all content count totals enough g = record {
  each = g.each;
  all = λ letters paid.
      let lt = below_all paid.0 in
      let found = g.all paid.0 paid.2 (omega arith) in
      (found.0, found.1, ap letters_of found.2 ∙ paid.1);
  in_order = g.in_order;
}

-- What was gathered goes on to the totals of all currencies, where the tables are those of accepted entries.
module _ (limit : ℕ) (books : Books) (content : Content) (keeps : Keeps limit books content) where
  total_of : Ccy → CashTotal
  total_of ccy = record { ccy = ccy; held = held_cash_of content ccy; net = held_cash_of content ccy }

  is_total : (ccy : Ccy) → list_any (pays_in ccy) (history_of content) ≡ true → IsCashTotal content (total_of ccy)
  unfolding total_of
  is_total ccy some = record {
    known = (ccy, refl, was_paid_in (history_of content) ccy some);
    held = refl;
    net = (let P : List Entry → Type 0 = λ h. paid_out h ccy + held_cash_of content ccy ≡ paid_in h ccy in subst P (sym keeps.tables.history) (held_cash_adds_up limit books content ccy keeps));
  }

  ends_here : (count : ℕ) (totals : List CashTotal) → length CURRENCIES ≤ count → CashGathered content count totals → (more : List CashTotal) × AreCashTotals content (totals ++ more)
  ends_here count totals enough g = ([], subst (λ z. AreCashTotals content z) (sym (append-nil totals)) (cash_all content count totals enough g))

  goes_on : (turns count : ℕ) (totals : List CashTotal) → CashGathered content count totals → length CURRENCIES ≤ count + turns → (more : List CashTotal) × AreCashTotals content (totals ++ more)
  unfolding total_of
  goes_on zero count totals g enough = ends_here count totals (omega arith) g
  goes_on (suc turns) count totals g enough = elim (cases_lt count (length CURRENCIES)) [
    | inr all ↦ ends_here count totals all g
    | inl left ↦
        let ccy = get_or CURRENCIES count Chf in
        let at : place_of ccy ≡ count = stands_at count Chf left in
        elim (cases_Bool (list_any (pays_in ccy) (history_of content))) [
          | inr none ↦ goes_on turns (count + 1) totals (cash_skips content count totals g ccy at (never_paid_in (history_of content) ccy none)) (omega arith)
          | inl some ↦
              let total = total_of ccy in
              let more = goes_on turns (count + 1) (totals ++ total ∷ []) (cash_takes content count totals g ccy at total (is_total ccy some) refl) (omega arith) in
              (total ∷ more.0, subst (λ z. AreCashTotals content z) (append_assoc totals (total ∷ []) more.0) more.1)
        ]
  ]

  pub cash_goes_on : (count : ℕ) (totals : List CashTotal) → CashGathered content count totals → (more : List CashTotal) × AreCashTotals content (totals ++ more)
  cash_goes_on count totals g = goes_on (length CURRENCIES) count totals g (omega arith)
