-- Where each entry was accepted in its turn, no balance is ever below 0.
use Rattle.std.proofs.Common.{◌≡◌, ℕ, zero, suc, ◌+◌, ◌<◌, ◌≤◌, inl, inr, true, List, [], ◌∷◌, ◌++◌, bytes_eq, filter, length, take, drop, get_or, Option, Some, None, refl, sym, ◌∙◌, ap, subst, arith, append_assoc, append-nil, length-append, add-one}
use Rattle.std.specs.Prelude.{option_and_then}
use Rattle.std.proofs.lemmas.Bool.{ltb-true, ltb-false, cases_lt}
use Rattle.std.proofs.lemmas.List.{take_more, take_all, take-append-drop}
use Rattle.std.proofs.lemmas.List.Elements.{Contains-get_or, filter-append}
use Rattle.std.proofs.lemmas.Slice.Eq.{bytes_eq-Decides}
use Rattle.desk_codes.specs.declared.currency.Ccy.{Ccy}
use Rattle.desk_rules.specs.declared.history.entry.Entry.{Entry}
use Rattle.desk_rules.specs.declared.history.entry.Entry.TheVariants.{Participant, Account, Security, Issue, Redeem, PayIn, PayOut, Instruct, Cancel, Run}
use Rattle.desk_rules.specs.declared.history.pair.Pair.{Pair}
use Rattle.desk_rules.specs.declared.history.pair.Settled.{Settled}
use Rattle.desk_rules.specs.History.{entry_at, before, run_day}
use Rattle.desk_rules.specs.Pairing.{IsMate, IsPairing}
use Rattle.desk_rules.specs.Balances.{same_ccy, movement_on, redeemed_by, credits, debits, payment_of, paid_out_by, cash_credits, cash_debits}
use Rattle.desk_rules.specs.Covered.{is_covered}
use Rattle.desk_rules.specs.Settlement.{is_by, day_of, precedes, settled_before, Settles, IsSettlement}
use Rattle.desk_rules.specs.Books.{Books}
use Rattle.desk_rules.specs.Verdict.{WasAccepted}
use Rattle.desk_rules.specs.Laws.{AreNonNegative}
use Rattle.desk_rules.proofs.Decided.{In, In-from_Contains, Contains-from_In, In-left, In-right, In-cases, filter-front, filter-same, filter-none, Ordered-across, Ordered-right, not_back, front_of}
use Rattle.desk_rules.proofs.HistoryLemmas.{entry_at-end, before-front, before-all}
use Rattle.desk_rules.proofs.PairingLemmas.{lower, lower_strict, mate_front, decided_pairing}
use Rattle.desk_rules.proofs.SettlementLemmas.{precedes_strict, precedes_true, due_facts, IsRanged, decided_settlement}
use Rattle.desk_rules.proofs.SettlementGrowth.{SamePairsTo, precedes-front, settles_front}
use Rattle.desk_rules.proofs.Existence.{HasBooks, books_exist, books_front, same_books}
use Rattle.desk_rules.proofs.Deciding.{same_ccy-true}
use Rattle.desk_rules.proofs.Accepted.{Passes, accepted_front, accepted_last}
use Rattle.desk_rules.proofs.BalanceLemmas.{IsIn, credits-entry, debits-entry, cash_credits-entry, cash_debits-entry, share_fits, settled_non_negative}

bytes_same : (a b : List ℕ) → bytes_eq a b ≡ true → a ≡ b
bytes_same a b e = let d = bytes_eq-Decides a b in d.0 e

-- What an accepted entry takes is there.

pub entry_securities : (b : Books) (e : Entry) → Passes b e → AreNonNegative b.history b.settled → (account isin : List ℕ)
    → debits b.history b.settled account isin + redeemed_by (movement_on account isin) e ≤ credits b.history b.settled account isin
entry_securities b (Participant reference bic) p is account isin = let below = is.positions account isin in omega arith
entry_securities b (Account reference bic a) p is account isin = let below = is.positions account isin in omega arith
entry_securities b (Security reference i kind) p is account isin = let below = is.positions account isin in omega arith
entry_securities b (Issue movement) p is account isin = let below = is.positions account isin in omega arith
entry_securities b (Redeem movement) p is account isin =
    let enough = ltb-false (credits b.history b.settled movement.account movement.isin) (debits b.history b.settled movement.account movement.isin + movement.quantity) (p.checks _ (inr (inr (inl refl)))) in
    share_fits bytes_eq bytes_same (debits b.history b.settled) (credits b.history b.settled) movement.account movement.isin movement.quantity enough is.positions account isin
entry_securities b (PayIn payment) p is account isin = let below = is.positions account isin in omega arith
entry_securities b (PayOut payment) p is account isin = let below = is.positions account isin in omega arith
entry_securities b (Instruct sender instruction) p is account isin = let below = is.positions account isin in omega arith
entry_securities b (Cancel sender order) p is account isin = let below = is.positions account isin in omega arith
entry_securities b (Run reference day rule) p is account isin = let below = is.positions account isin in omega arith

pub entry_cash : (b : Books) (e : Entry) → Passes b e → AreNonNegative b.history b.settled → (bic : List ℕ) (ccy : Ccy)
    → cash_debits b.history b.settled bic ccy + paid_out_by (payment_of bic ccy) e ≤ cash_credits b.history b.settled bic ccy
entry_cash b (Participant reference x) p is bic ccy = let below = is.cash bic ccy in omega arith
entry_cash b (Account reference x a) p is bic ccy = let below = is.cash bic ccy in omega arith
entry_cash b (Security reference i kind) p is bic ccy = let below = is.cash bic ccy in omega arith
entry_cash b (Issue movement) p is bic ccy = let below = is.cash bic ccy in omega arith
entry_cash b (Redeem movement) p is bic ccy = let below = is.cash bic ccy in omega arith
entry_cash b (PayIn payment) p is bic ccy = let below = is.cash bic ccy in omega arith
entry_cash b (PayOut payment) p is bic ccy =
    let enough = ltb-false (cash_credits b.history b.settled payment.bic payment.ccy) (cash_debits b.history b.settled payment.bic payment.ccy + payment.amount) (p.checks _ (inr (inl refl))) in
    share_fits same_ccy same_ccy-true (cash_debits b.history b.settled) (cash_credits b.history b.settled) payment.bic payment.ccy payment.amount enough is.cash bic ccy
entry_cash b (Instruct sender instruction) p is bic ccy = let below = is.cash bic ccy in omega arith
entry_cash b (Cancel sender order) p is bic ccy = let below = is.cash bic ccy in omega arith
entry_cash b (Run reference day rule) p is bic ccy = let below = is.cash bic ccy in omega arith

-- a run takes nothing itself
run_takes : (e : Entry) (day : ℕ) → run_day e ≡ Some day → ((account isin : List ℕ) → redeemed_by (movement_on account isin) e ≡ 0) × ((bic : List ℕ) (ccy : Ccy) → paid_out_by (payment_of bic ccy) e ≡ 0)
run_takes (Participant reference bic) day is = absurd (cc)
run_takes (Account reference bic account) day is = absurd (cc)
run_takes (Security reference isin kind) day is = absurd (cc)
run_takes (Issue movement) day is = absurd (cc)
run_takes (Redeem movement) day is = absurd (cc)
run_takes (PayIn payment) day is = absurd (cc)
run_takes (PayOut payment) day is = absurd (cc)
run_takes (Instruct sender instruction) day is = absurd (cc)
run_takes (Cancel sender order) day is = absurd (cc)
run_takes (Run reference date rule) day is = (λ account isin. refl, λ bic ccy. refl)

-- an entry that takes no more than is there
grown_non_negative : (h : List Entry) (e : Entry) (settled : List Settled) → ((s : Settled) → In settled s → IsIn h s.pair)
    → ((account isin : List ℕ) → debits h settled account isin + redeemed_by (movement_on account isin) e ≤ credits h settled account isin)
    → ((bic : List ℕ) (ccy : Ccy) → cash_debits h settled bic ccy + paid_out_by (payment_of bic ccy) e ≤ cash_credits h settled bic ccy)
    → AreNonNegative (h ++ e ∷ []) settled
grown_non_negative h e settled within securities cash = record {
  positions = λ account isin.
      let come = credits-entry h e settled within account isin in
      let gone = debits-entry h e settled within account isin in
      let fits = securities account isin in
      omega arith;
  cash = λ bic ccy.
      let come = cash_credits-entry h e settled within bic ccy in
      let gone = cash_debits-entry h e settled within bic ccy in
      let fits = cash bic ccy in
      omega arith;
}

-- settled pairs are of numbers that the history has
settled_within : (h : List Entry) (ps : List Pair) (settled : List Settled) → HasBooks h ps settled → (n : ℕ) → ((s : Settled) → In settled s → s.run ≤ n + 1) → (s : Settled) → In settled s → (s.pair.earlier ≤ n) × (s.pair.later ≤ n)
settled_within h ps settled is n runs s i =
    let d = decided_settlement h ps settled is.settlement in
    let r = d.within s i in
    let c = (d.exact s r).0 i in
    let mate = (is.pairing.exact s.pair).0 c.paired in
    let early : s.pair.earlier < s.pair.later = mate.candidate.earlier in
    let low : s.pair.later < s.run = r.numbered in
    let most = runs s i in
    (omega arith, omega arith)

-- What a run adds is of its own number, and where anything is added the entry is a run.

module _ (h : List Entry) (e : Entry) (ps qs : List Pair) (settled more : List Settled) (is : HasBooks h ps settled) (longer : HasBooks (h ++ e ∷ []) qs (settled ++ more)) (same : SamePairsTo (length h) ps qs) where
  first_is_new : (x : Settled) (rest : List Settled) → more ≡ x ∷ rest → length h < x.run
  first_is_new x rest split =
      let g = h ++ e ∷ [] in
      let P : List Settled → Type 0 = λ z. IsSettlement g qs (settled ++ z) in
      let d = decided_settlement g qs (settled ++ x ∷ rest) (subst P split longer.settlement) in
      let inside : In (settled ++ x ∷ rest) x = In-right settled (x ∷ rest) x (inl refl) in
      let Q : List Settled → Type 0 = λ z. Settles g qs z x in
      let c : Settles g qs settled x = subst Q (front_of (precedes g) (precedes_strict g) settled rest x d.order) ((d.exact x (d.within x inside)).0 inside) in
      elim (cases_lt (length h) x.run) [
        | inl new ↦ new
        | inr old ↦
            let old_d = decided_settlement h ps settled is.settlement in
            let facts = due_facts g x.run x.pair c.due in
            let ranged : IsRanged (length h) x = record { run = old; numbered = facts.numbered } in
            let c' : Settles h ps settled x = (settles_front h (e ∷ []) ps qs settled x same ranged).1 c in
            let all : settled_before h x settled ≡ settled =
            sym (ap (λ z. settled_before h x z) (append-nil settled)) ∙ filter-front (λ t. precedes h t x) settled []
            (λ t i.
            let r = old_d.within t i in
            let known : t.run ≤ length h = r.run in
            let low : t.pair.later < t.run = r.numbered in
            let low' : x.pair.later < x.run = facts.numbered in
            sym (precedes-front h (e ∷ []) t x (omega arith) (omega arith)) ∙ Ordered-across (precedes g) settled (x ∷ rest) d.order t x i (inl refl))
            (λ t i. absurd i) in
            let R : List Settled → Type 0 = λ z. Settles h ps z x in
            let there : In settled x = (old_d.exact x ranged).1 (subst R (sym all) c') in
            let strict = precedes_strict g in
            absurd (strict.never x (Ordered-across (precedes g) settled (x ∷ rest) d.order x x there (inl refl)))
      ]

  run_of : (m : List Settled) → more ≡ m → (s : Settled) → In m s → s.run ≡ length h + 1
  run_of [] split s j = absurd j
  run_of (x ∷ rest) split s j =
      let g = h ++ e ∷ [] in
      let longer_by_one : length g ≡ length h + 1 = length-append h (e ∷ []) in
      let P : List Settled → Type 0 = λ z. IsSettlement g qs (settled ++ z) in
      let d = decided_settlement g qs (settled ++ x ∷ rest) (subst P split longer.settlement) in
      let first = first_is_new x rest split in
      let r = d.within s (In-right settled (x ∷ rest) s j) in
      let most : s.run ≤ length g = r.run in
      elim j [
        | inl this ↦ (let same_run : x.run ≡ s.run = ap (λ z. z.run) this in omega arith)
        | inr later ↦
            let o = Ordered-right (precedes g) settled (x ∷ rest) d.order in
            elim (precedes_true g x s (o.0 s later)) [
              | inl lt ↦ omega arith
              | inr both ↦ (let same_run : x.run ≡ s.run = both.0 in omega arith)
            ]
      ]

  pub more_runs : (s : Settled) → In more s → s.run ≡ length h + 1
  more_runs s i = run_of more refl s i

  -- the members that the run adds, one after another
  pub members_non_negative : AreNonNegative h settled → (k : ℕ) → k ≤ length more → AreNonNegative h (settled ++ take k more)
  members_non_negative start zero le = let P : List Settled → Type 0 = AreNonNegative h in subst P (sym (append-nil settled)) start
  members_non_negative start (suc k) le =
      let g = h ++ e ∷ [] in
      let before_this = members_non_negative start k (omega arith) in
      let d : Settled = record { run = 0; pass = 0; pair = record { earlier = 0; later = 0 } } in
      let x = get_or more k d in
      let more_here : take (k + 1) more ≡ take k more ++ x ∷ [] = take_more more k d (omega arith) in
      let taken : settled ++ take (suc k) more ≡ settled ++ take k more ++ x ∷ [] = ap (λ z. settled ++ z) (ap (λ n. take n more) (sym (add-one k)) ∙ more_here) ∙ sym (append_assoc settled (take k more) (x ∷ [])) in
      let rest = drop (k + 1) more in
      let whole : settled ++ take k more ++ x ∷ rest ≡ settled ++ more =
      sym (append_assoc (settled ++ take k more) (x ∷ []) rest) ∙ ap (λ z. z ++ rest) (append_assoc settled (take k more) (x ∷ [])) ∙ ap (λ z. settled ++ z ++ rest) (sym more_here)
      ∙ append_assoc settled (take (k + 1) more) rest ∙ ap (λ z. settled ++ z) (take-append-drop (k + 1) more) in
      let P : List Settled → Type 0 = λ z. IsSettlement g qs z in
      let dec = decided_settlement g qs (settled ++ take k more ++ x ∷ rest) (subst P (sym whole) longer.settlement) in
      let inside : In (settled ++ take k more ++ x ∷ rest) x = In-right (settled ++ take k more) (x ∷ rest) x (inl refl) in
      let Q : List Settled → Type 0 = λ z. Settles g qs z x in
      let c : Settles g qs (settled ++ take k more) x = subst Q (front_of (precedes g) (precedes_strict g) (settled ++ take k more) rest x dec.order) ((dec.exact x (dec.within x inside)).0 inside) in
      let run : x.run ≡ length h + 1 = more_runs x (In-from_Contains more x (Contains-get_or more k d (omega arith))) in
      let R : List Entry → Type 0 = λ z. is_covered z (settled ++ take k more) x.pair ≡ true in
      let covered : is_covered h (settled ++ take k more) x.pair ≡ true = subst R (before-all h (e ∷ []) x.run run) c.covered in
      let S : List Settled → Type 0 = AreNonNegative h in
      subst S (sym taken) (settled_non_negative h (settled ++ take k more) x before_this covered)

  -- what stands before the member k of those that the run adds
  pub member_front : (k : ℕ) (d : Settled) → k < length more → settled_before (h ++ e ∷ []) (get_or more k d) (settled ++ more) ≡ settled ++ take k more
  member_front k d lt =
      let g = h ++ e ∷ [] in
      let x = get_or more k d in
      let more_here : take (k + 1) more ≡ take k more ++ x ∷ [] = take_more more k d lt in
      let rest = drop (k + 1) more in
      let whole : settled ++ take k more ++ x ∷ rest ≡ settled ++ more =
      sym (append_assoc (settled ++ take k more) (x ∷ []) rest) ∙ ap (λ z. z ++ rest) (append_assoc settled (take k more) (x ∷ [])) ∙ ap (λ z. settled ++ z ++ rest) (sym more_here)
      ∙ append_assoc settled (take (k + 1) more) rest ∙ ap (λ z. settled ++ z) (take-append-drop (k + 1) more) in
      let P : List Settled → Type 0 = λ z. IsSettlement g qs z in
      let dec = decided_settlement g qs (settled ++ take k more ++ x ∷ rest) (subst P (sym whole) longer.settlement) in
      ap (λ z. settled_before g x z) (sym whole) ∙ front_of (precedes g) (precedes_strict g) (settled ++ take k more) rest x dec.order

-- The pairs of a front.

first_pair_is_new : (h g : List Entry) (ps : List Pair) (x : Pair) (rest : List Pair) → IsPairing h ps → IsPairing (h ++ g) (ps ++ x ∷ rest) → length h < x.later
first_pair_is_new h g ps x rest is longer =
    let d = decided_pairing (h ++ g) (ps ++ x ∷ rest) longer in
    let inside : In (ps ++ x ∷ rest) x = In-right ps (x ∷ rest) x (inl refl) in
    let Q : List Pair → Type 0 = λ z. IsMate (h ++ g) z x in
    let m : IsMate (h ++ g) ps x = subst Q (front_of lower lower_strict ps rest x d.order) ((d.exact x (d.within x inside)).0 inside) in
    elim (cases_lt (length h) x.later) [
      | inl new ↦ new
      | inr old ↦
          let old_d = decided_pairing h ps is in
          let m' : IsMate h ps x = (mate_front h g ps x old).1 m in
          let all : filter (λ t. lower t x) ps ≡ ps =
          sym (ap (λ z. filter (λ t. lower t x) z) (append-nil ps)) ∙ filter-front (λ t. lower t x) ps [] (λ t i. Ordered-across lower ps (x ∷ rest) d.order t x i (inl refl)) (λ t i. absurd i) in
          let R : List Pair → Type 0 = λ z. IsMate h z x in
          let there : In ps x = (old_d.exact x old).1 (subst R (sym all) m') in
          absurd (lower_strict.never x (Ordered-across lower ps (x ∷ rest) d.order x x there (inl refl)))
    ]

new_pairs : (h g : List Entry) (ps more : List Pair) → IsPairing h ps → IsPairing (h ++ g) (ps ++ more) → (p : Pair) → In more p → length h < p.later
new_pairs h g ps [] is longer p i = absurd i
new_pairs h g ps (x ∷ rest) is longer p i =
    let first = first_pair_is_new h g ps x rest is longer in
    let d = decided_pairing (h ++ g) (ps ++ x ∷ rest) longer in
    elim i [
      | inl this ↦ (let P : Pair → Type 0 = λ z. length h < z.later in subst P this first)
      | inr later ↦ (let o = Ordered-right lower ps (x ∷ rest) d.order in let lt = ltb-true x.later p.later (o.0 p later) in omega arith)
    ]

pub same_pairs_front : (h g : List Entry) (ps more : List Pair) → IsPairing h ps → IsPairing (h ++ g) (ps ++ more) → SamePairsTo (length h) ps (ps ++ more)
same_pairs_front h g ps more is longer p le = (
  λ c. Contains-from_In (ps ++ more) p (In-left ps more p (In-from_Contains ps p c)),
  λ c. elim (In-cases ps more p (In-from_Contains (ps ++ more) p c)) [
    | inl i ↦ Contains-from_In ps p i
    | inr i ↦ let lt = new_pairs h g ps more is longer p i in absurd (omega arith)
  ],
)

-- Never below 0.

pub record NeverNegative (h : List Entry) (settled : List Settled) : Type 0 where
  pub now : AreNonNegative h settled
  pub each : (s : Settled) → In settled s → AreNonNegative (before s.run h) (settled_before h s settled ++ s ∷ [])

by_run : (o : Option Entry) (e : Entry) (day : ℕ) → o ≡ Some e → is_by (option_and_then run_day o) day ≡ true → (run : ℕ) × (run_day e ≡ Some run)
by_run o e day is t =
    let P : Option Entry → Type 0 = λ z. is_by (option_and_then run_day z) day ≡ true in
    some_by (run_day e) (subst P is t)
  where
    some_by : (d : Option ℕ) → is_by d day ≡ true → (run : ℕ) × (d ≡ Some run)
    some_by None x = absurd (cc)
    some_by (Some run) x = (run, refl)

module _ (limit : ℕ) (h : List Entry) (e : Entry) (ps qs : List Pair) (settled : List Settled) (was : WasAccepted limit (h ++ e ∷ [])) (is : HasBooks h ps settled) (same : SamePairsTo (length h) ps qs) (start : NeverNegative h settled) where
  after_none : AreNonNegative (h ++ e ∷ []) settled
  after_none =
      let books : Books = record { history = h; pairs = ps; settled = settled } in
      let p = accepted_last limit h e ps settled was is in
      grown_non_negative h e settled
      (λ s i.
      let d = decided_settlement h ps settled is.settlement in
      let w = settled_within h ps settled is (length h) (λ t j. let r = d.within t j in let most : t.run ≤ length h = r.run in omega arith) s i in
      record { earlier = w.0; later = w.1 })
      (entry_securities books e p start.now) (entry_cash books e p start.now)

  after_some : (more : List Settled) (x : Settled) → In more x → HasBooks (h ++ e ∷ []) qs (settled ++ more) → AreNonNegative (h ++ e ∷ []) (settled ++ more)
  after_some more x i longer =
      let g = h ++ e ∷ [] in
      let one_more : length g ≡ length h + 1 = length-append h (e ∷ []) in
      let d = decided_settlement g qs (settled ++ more) longer.settlement in
      let inside = In-right settled more x i in
      let c = (d.exact x (d.within x inside)).0 inside in
      let facts = due_facts g x.run x.pair c.due in
      let number : x.run ≡ length h + 1 = more_runs h e ps qs settled more is longer same x i in
      let run = by_run (entry_at g x.run) e (day_of g x.pair) (entry_at-end h e x.run number) facts.by in
      let takes = run_takes e run.0 run.1 in
      let all : AreNonNegative h (settled ++ take (length more) more) = members_non_negative h e ps qs settled more is longer same start.now (length more) (omega arith) in
      let P : List Settled → Type 0 = λ z. AreNonNegative h (settled ++ z) in
      let there : AreNonNegative h (settled ++ more) = subst P (take_all (length more) more (omega arith)) all in
      grown_non_negative h e (settled ++ more)
      (λ s j. let w = settled_within g qs (settled ++ more) longer (length h) (λ t k. let r = d.within t k in let most : t.run ≤ length g = r.run in omega arith) s j in record { earlier = w.0; later = w.1 })
      (λ account isin. let below = there.positions account isin in let none = takes.0 account isin in omega arith)
      (λ bic ccy. let below = there.cash bic ccy in let none = takes.1 bic ccy in omega arith)

  after_entry : (more : List Settled) → HasBooks (h ++ e ∷ []) qs (settled ++ more) → AreNonNegative (h ++ e ∷ []) (settled ++ more)
  after_entry [] longer = let P : List Settled → Type 0 = AreNonNegative (h ++ e ∷ []) in subst P (sym (append-nil settled)) after_none
  after_entry (x ∷ rest) longer = after_some (x ∷ rest) x (inl refl) longer

  -- what was settled before stands as it did
  old_member : (more : List Settled) → HasBooks (h ++ e ∷ []) qs (settled ++ more) → (s : Settled) → In settled s → AreNonNegative (before s.run (h ++ e ∷ [])) (settled_before (h ++ e ∷ []) s (settled ++ more) ++ s ∷ [])
  old_member more longer s i =
      let g = h ++ e ∷ [] in
      let old_d = decided_settlement h ps settled is.settlement in
      let d = decided_settlement g qs (settled ++ more) longer.settlement in
      let r = old_d.within s i in
      let known : s.run ≤ length h = r.run in
      let low : s.pair.later < s.run = r.numbered in
      let rest_none : filter (λ t. precedes g t s) more ≡ [] = filter-none (λ t. precedes g t s) more (λ t j. not_back (precedes g) (precedes_strict g) s t (Ordered-across (precedes g) settled more d.order s t i j)) in
      let old_same : filter (λ t. precedes g t s) settled ≡ settled_before h s settled = filter-same (λ t. precedes g t s) (λ t. precedes h t s) settled
      (λ t j. let q = old_d.within t j in let known' : t.run ≤ length h = q.run in let low' : t.pair.later < t.run = q.numbered in precedes-front h (e ∷ []) t s (omega arith) (omega arith)) in
      let front : settled_before g s (settled ++ more) ≡ settled_before h s settled =
      filter-append (λ t. precedes g t s) settled more ∙ ap (λ z. filter (λ t. precedes g t s) settled ++ z) rest_none ∙ append-nil (filter (λ t. precedes g t s) settled) ∙ old_same in
      let P : List Settled → Type 0 = λ z. AreNonNegative (before s.run g) (z ++ s ∷ []) in
      let Q : List Entry → Type 0 = λ z. AreNonNegative z (settled_before h s settled ++ s ∷ []) in
      subst P (sym front) (subst Q (sym (before-front h (e ∷ []) s.run (omega arith))) (start.each s i))

  new_member : (more : List Settled) → HasBooks (h ++ e ∷ []) qs (settled ++ more) → (s : Settled) → In more s → AreNonNegative (before s.run (h ++ e ∷ [])) (settled_before (h ++ e ∷ []) s (settled ++ more) ++ s ∷ [])
  new_member more longer s i =
      let g = h ++ e ∷ [] in
      let place = Contains-from_In more s i in
      let k = place.0 in
      let lt : k < length more = place.1 in
      let number : s.run ≡ length h + 1 = more_runs h e ps qs settled more is longer same s i in
      let front : settled_before g s (settled ++ more) ≡ settled ++ take k more =
      ap (λ z. settled_before g z (settled ++ more)) (sym place.2) ∙ member_front h e ps qs settled more is longer same k s lt in
      let taken : take (suc k) more ≡ take k more ++ s ∷ [] = ap (λ n. take n more) (sym (add-one k)) ∙ take_more more k s lt ∙ ap (λ z. take k more ++ z ∷ []) place.2 in
      let all : settled ++ take (suc k) more ≡ settled ++ take k more ++ s ∷ [] = ap (λ z. settled ++ z) taken ∙ sym (append_assoc settled (take k more) (s ∷ [])) in
      let here : AreNonNegative h (settled ++ take (suc k) more) = members_non_negative h e ps qs settled more is longer same start.now (suc k) (omega arith) in
      let P : List Settled → Type 0 = λ z. AreNonNegative (before s.run g) (z ++ s ∷ []) in
      let Q : List Entry → Type 0 = λ z. AreNonNegative z (settled ++ take k more ++ s ∷ []) in
      let R : List Settled → Type 0 = AreNonNegative h in
      subst P (sym front) (subst Q (sym (before-all h (e ∷ []) s.run number)) (subst R all here))

  pub still_never : (more : List Settled) → HasBooks (h ++ e ∷ []) qs (settled ++ more) → NeverNegative (h ++ e ∷ []) (settled ++ more)
  still_never more longer = record {
    now = after_entry more longer;
    each = λ s i. elim (In-cases settled more s i) [ inl old ↦ old_member more longer s old | inr new ↦ new_member more longer s new ];
  }

never_step : (limit : ℕ) (h : List Entry) (e : Entry) → WasAccepted limit (h ++ e ∷ []) → ((ps : List Pair) (ss : List Settled) → HasBooks h ps ss → NeverNegative h ss)
    → (qs : List Pair) (ts : List Settled) → HasBooks (h ++ e ∷ []) qs ts → NeverNegative (h ++ e ∷ []) ts
never_step limit h e was start qs ts longer =
    let own = books_exist h in
    let fronts = books_front h (e ∷ []) own.0 qs own.1 ts own.2 longer in
    let P : List Settled → Type 0 = NeverNegative (h ++ e ∷ []) in
    let both : HasBooks (h ++ e ∷ []) (own.0 ++ fronts.0) (own.1 ++ fronts.1) = same_books (h ++ e ∷ []) (h ++ e ∷ []) qs (own.0 ++ fronts.0) ts (own.1 ++ fronts.1) refl fronts.2 fronts.3 longer in
    subst P (sym fronts.3) (still_never limit h e own.0 (own.0 ++ fronts.0) own.1 was own.2 (same_pairs_front h (e ∷ []) own.0 fronts.0 own.2.pairing both.pairing) (start own.0 own.1 own.2) fronts.1 both)

never_grow : (limit : ℕ) (h g : List Entry) → WasAccepted limit (h ++ g) → ((ps : List Pair) (ss : List Settled) → HasBooks h ps ss → NeverNegative h ss)
    → (qs : List Pair) (ts : List Settled) → HasBooks (h ++ g) qs ts → NeverNegative (h ++ g) ts
never_grow limit h [] was start qs ts longer =
    let P : List Entry → Type 0 = λ z. NeverNegative z ts in
    let Q : List Entry → Type 0 = λ z. HasBooks z qs ts in
    subst P (sym (append-nil h)) (start qs ts (subst Q (append-nil h) longer))
never_grow limit h (e ∷ g) was start qs ts longer =
    let W : List Entry → Type 0 = WasAccepted limit in
    let P : List Entry → Type 0 = λ z. NeverNegative z ts in
    let Q : List Entry → Type 0 = λ z. HasBooks z qs ts in
    let was' : WasAccepted limit (h ++ e ∷ [] ++ g) = subst W (sym (append_assoc h (e ∷ []) g)) was in
    subst P (append_assoc h (e ∷ []) g) (never_grow limit (h ++ e ∷ []) g was' (never_step limit h e (accepted_front limit (h ++ e ∷ []) g was') start) qs ts (subst Q (sym (append_assoc h (e ∷ []) g)) longer))

none_settled : (ps : List Pair) (ss : List Settled) → HasBooks [] ps ss → NeverNegative [] ss
none_settled ps ss is =
    let d = decided_settlement [] ps ss is.settlement in
    let nothing : (s : Settled) → In ss s → ⊥ = (λ s i. let r = d.within s i in let a : s.run ≤ 0 = r.run in let b : s.pair.later < s.run = r.numbered in omega arith) in
    let empty : ss ≡ [] = none_left ss nothing in
    let P : List Settled → Type 0 = NeverNegative [] in
    subst P (sym empty) (record { now = record { positions = λ account isin. omega arith; cash = λ bic ccy. omega arith }; each = λ s i. absurd i })
  where
    none_left : (xs : List Settled) → ((s : Settled) → In xs s → ⊥) → xs ≡ []
    none_left [] none = refl
    none_left (x ∷ xs) none = absurd (none x (inl refl))

pub never_negative : (limit : ℕ) (h : List Entry) (ps : List Pair) (ss : List Settled) → WasAccepted limit h → IsPairing h ps → IsSettlement h ps ss → NeverNegative h ss
never_negative limit h ps ss was pairing settlement = never_grow limit [] h was none_settled ps ss (record { pairing = pairing; settlement = settlement })
