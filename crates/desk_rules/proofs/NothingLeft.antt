-- After a run in passes nothing covered is left, and its passes are those that begin.
use Rattle.std.proofs.Common.{◌≡◌, ℕ, zero, suc, ◌+◌, ◌<◌, ◌≤◌, ◌⊎◌, inl, inr, Bool, true, false, ◌&&◌, ◌==◌, nat_lt, List, [], ◌∷◌, ◌++◌, length, Option, Some, None, refl, sym, ◌∙◌, ap, subst, arith, append-nil, length-append, if◌then◌else◌}
use Rattle.std.specs.Prelude.{nat_le, count_by, Contains, option_and_then}
use Rattle.std.proofs.lemmas.List.Sums.{length-filter}
use Rattle.std.proofs.lemmas.Bool.{cases_Bool, cases_lt, both_ways, false_from_ne_true, eqb-true, eq-eqb, ltb-true, lt-ltb, leb-true, le-leb, and_parts, and_from}
use Rattle.desk_codes.specs.declared.currency.Ccy.{Ccy}
use Rattle.desk_msg.specs.declared.instruction.Cash.{Cash}
use Rattle.desk_rules.specs.declared.history.entry.Entry.{Entry}
use Rattle.desk_rules.specs.declared.history.entry.Entry.TheVariants.{Run}
use Rattle.desk_rules.specs.declared.history.entry.RunRule.{RunRule}
use Rattle.desk_rules.specs.declared.history.entry.RunRule.TheVariants.{Passes}
use Rattle.desk_rules.specs.declared.history.pair.Pair.{Pair}
use Rattle.desk_rules.specs.declared.history.pair.Settled.{Settled}
use Rattle.desk_rules.specs.History.{Instructed, before, entry_at, run_rule}
use Rattle.desk_rules.specs.Balances.{delivery_of, receipt_of, credits, debits, cash_credits, cash_debits}
use Rattle.desk_rules.specs.Covered.{can_deliver, can_pay_cash, can_pay, has_securities, has_cash, is_covered}
use Rattle.desk_rules.specs.Books.{Books, AreBooks}
use Rattle.desk_rules.specs.Settlement.{pass_begins, precedes, settled_before, is_due, IsUnsettled, allows_more, is_in_passes, Settles, IsSettlement, last_pass, passes_of, settled_count}
use Rattle.desk_rules.proofs.Decided.{In, Contains-from_In, In-filter, filter-front, filter_yes, filter_no}
use Rattle.desk_rules.proofs.HistoryLemmas.{entry_at-end, before-all}
use Rattle.desk_rules.proofs.BalanceLemmas.{IsIn, delivery_of-front, receipt_of-front, credits-entry, debits-entry, cash_credits-entry, cash_debits-entry}
use Rattle.desk_rules.proofs.SettlementLemmas.{begins_true, begins_first, begins_further, due_facts, decided_settlement, precedes_run, precedes_pass}

-- no settled pair of the run has a pass above the last
pub below_last : (settled : List Settled) (run : ℕ) (s : Settled) → In settled s → s.run ≡ run → s.pass ≤ last_pass settled run
below_last [] run s i e = absurd i
below_last (t ∷ settled) run s i e = elim (cases_Bool (t.run == run && nat_lt (last_pass settled run) t.pass)) [
  | inl more ↦
      let is : last_pass (t ∷ settled) run ≡ t.pass = ap (λ b. if b then t.pass else last_pass settled run) more in
      let above : last_pass settled run < t.pass = let parts = and_parts (t.run == run) (nat_lt (last_pass settled run) t.pass) more in ltb-true _ _ parts.1 in
      elim i [ inl same ↦ (let p : t.pass ≡ s.pass = ap (λ (z : Settled). z.pass) same in omega arith) | inr j ↦ (let rest = below_last settled run s j e in omega arith) ]
  | inr less ↦
      let is : last_pass (t ∷ settled) run ≡ last_pass settled run = ap (λ b. if b then t.pass else last_pass settled run) less in
      elim i [
        | inl same ↦
            let p : t.pass ≡ s.pass = ap (λ (z : Settled). z.pass) same in
            let r : t.run ≡ run = ap (λ (z : Settled). z.run) same ∙ e in
            elim (cases_lt (last_pass settled run) t.pass) [
              | inl lt ↦ absurd (both_ways _ less (and_from _ _ (eq-eqb t.run run r) (lt-ltb _ _ lt)))
              | inr ge ↦ omega arith
            ]
        | inr j ↦ (let rest = below_last settled run s j e in omega arith)
      ]
]

-- the last pass is that of some settled pair, or there is none
pub last_is : (settled : List Settled) (run : ℕ) → (last_pass settled run ≡ 0) ⊎ ((s : Settled) × In settled s × (s.run ≡ run) × (s.pass ≡ last_pass settled run))
last_is [] run = inl refl
last_is (t ∷ settled) run = elim (cases_Bool (t.run == run && nat_lt (last_pass settled run) t.pass)) [
  | inl more ↦
      let is : last_pass (t ∷ settled) run ≡ t.pass = ap (λ b. if b then t.pass else last_pass settled run) more in
      let parts = and_parts (t.run == run) (nat_lt (last_pass settled run) t.pass) more in
      inr (t, inl refl, eqb-true t.run run parts.0, sym is)
  | inr less ↦
      let is : last_pass (t ∷ settled) run ≡ last_pass settled run = ap (λ b. if b then t.pass else last_pass settled run) less in
      elim (last_is settled run) [ inl none ↦ inl (is ∙ none) | inr found ↦ inr (found.0, inr found.1, found.2, found.3 ∙ sym is) ]
]

difference : (a b : ℕ) → a ≤ b → (n : ℕ) × (a + n ≡ b)
difference zero b le = (b, omega arith)
difference (suc a) zero le = absurd (omega arith)
difference (suc a) (suc b) le = let rest = difference a b (omega arith) in let e : a + rest.0 ≡ b = rest.1 in (rest.0, omega arith)

module _ (h : List Entry) (ps : List Pair) (settled : List Settled) (is : IsSettlement h ps settled) where
  -- what settled in a pass above the first, settled after something in the pass before it
  earlier_pass : (s : Settled) → In settled s → (s.pass ≡ 1) ⊎ ((t : Settled) × In settled t × (t.run ≡ s.run) × (t.pass + 1 ≡ s.pass) × (is_in_passes h s.run ≡ true))
  earlier_pass s i =
      let settles = (is.exact s).0 (Contains-from_In settled s i) in
      elim (begins_true h (settled_before h s settled) s.run s.pass settles.begun) [
        | inl first ↦ inl first
        | inr f ↦ let both = In-filter (λ x. precedes h x s) settled f.member f.inside in inr (f.member, both.0, f.run_is, f.pass_is, f.allowed)
      ]

  -- every pass from 1 up to one that settled something settled something
  settled_in_pass : (n : ℕ) (s : Settled) → In settled s → (k : ℕ) → 0 < k → k + n ≡ s.pass → (t : Settled) × In settled t × (t.run ≡ s.run) × (t.pass ≡ k)
  settled_in_pass zero s i k some e = (s, i, refl, omega arith)
  settled_in_pass (suc n) s i k some e = elim (earlier_pass s i) [
    | inl first ↦ absurd (omega arith)
    | inr t ↦
        let before : t.0.pass + 1 ≡ s.pass = t.3 in
        let found = settled_in_pass n t.0 t.1 k some (omega arith) in
        (found.0, found.1, found.2 ∙ t.2, found.3)
  ]

  pass_some : (s : Settled) → In settled s → 0 < s.pass
  pass_some s i = elim (earlier_pass s i) [ inl first ↦ omega arith | inr t ↦ (let before : t.0.pass + 1 ≡ s.pass = t.3 in omega arith) ]

  -- a pass begins exactly when it is one of those that are counted
  pub begins_counted : (run pass : ℕ) → pass_begins h settled run pass ≡ true → (0 < pass) × (pass ≤ passes_of h settled run)
  begins_counted run pass b = elim (begins_true h settled run pass b) [
    | inl first ↦ (omega arith, at_least_one pass first)
    | inr f ↦
        let before : f.member.pass + 1 ≡ pass = f.pass_is in
        let most = below_last settled run f.member f.inside f.run_is in
        let count : passes_of h settled run ≡ last_pass settled run + 1 = ap (λ b. if b then last_pass settled run + 1 else 1) f.allowed in
        (omega arith, omega arith)
  ]
    where
      at_least_one : (n : ℕ) → n ≡ 1 → n ≤ passes_of h settled run
      at_least_one n e = elim (cases_Bool (is_in_passes h run)) [
        | inl t ↦ (let count : passes_of h settled run ≡ last_pass settled run + 1 = ap (λ b. if b then last_pass settled run + 1 else 1) t in omega arith)
        | inr f ↦ (let count : passes_of h settled run ≡ 1 = ap (λ b. if b then last_pass settled run + 1 else 1) f in omega arith)
      ]

  pub counted_begins : (run pass : ℕ) → 0 < pass → pass ≤ passes_of h settled run → pass_begins h settled run pass ≡ true
  counted_begins run pass some most = elim (cases_lt 1 pass) [
    | inr le ↦ begins_first h settled run pass (omega arith)
    | inl further ↦ elim (cases_Bool (is_in_passes h run)) [
      | inr f ↦ absurd (let count : passes_of h settled run ≡ 1 = ap (λ b. if b then last_pass settled run + 1 else 1) f in omega arith)
      | inl t ↦
          let count : passes_of h settled run ≡ last_pass settled run + 1 = ap (λ b. if b then last_pass settled run + 1 else 1) t in
          elim (last_is settled run) [
            | inl none ↦ absurd (omega arith)
            | inr last ↦
                let top : last.0.pass ≡ last_pass settled run = last.3 in
                let found = below pass further last.0 last.1 (omega arith) in
                begins_further h settled run pass (record { allowed = t; member = found.0; inside = found.1; run_is = found.2 ∙ last.2; pass_is = found.3 })
          ]
    ]
  ]
    where
      below : (k : ℕ) → 1 < k → (s : Settled) → In settled s → k ≤ s.pass + 1 → (t : Settled) × In settled t × (t.run ≡ s.run) × (t.pass + 1 ≡ k)
      below zero lt s i le = absurd (omega arith)
      below (suc k) lt s i le =
          let gap = difference k s.pass (omega arith) in
          let found = settled_in_pass gap.0 s i k (omega arith) gap.1 in
          let at : found.0.pass ≡ k = found.3 in
          (found.0, found.1, found.2, omega arith)

-- A run settles at least one pair in each of its passes but the last.

count_yes : {X : Type 0} (f : X → Bool) (x : X) (xs : List X) → f x ≡ true → count_by f (x ∷ xs) ≡ count_by f xs + 1
count_yes f x xs t = let a = length-filter f (x ∷ xs) in let b = length-filter f xs in let c = ap length (filter_yes f x xs t) in omega arith

count_no : {X : Type 0} (f : X → Bool) (x : X) (xs : List X) → f x ≡ false → count_by f (x ∷ xs) ≡ count_by f xs
count_no f x xs e = let a = length-filter f (x ∷ xs) in let b = length-filter f xs in let c = ap length (filter_no f x xs e) in omega arith

-- a test that is met wherever another is, and once more
count_wider : {X : Type 0} (f g : X → Bool) (xs : List X) → ((x : X) → f x ≡ true → g x ≡ true) → count_by f xs ≤ count_by g xs
count_wider f g [] wider = omega arith
count_wider f g (x ∷ xs) wider =
    let rest = count_wider f g xs wider in
    elim (cases_Bool (f x)) [
      | inl t ↦
          let a = count_yes f x xs t in
          let b = count_yes g x xs (wider x t) in
          omega arith
      | inr e ↦
          let a = count_no f x xs e in
          elim (cases_Bool (g x)) [
            | inl t ↦ (let b = count_yes g x xs t in omega arith)
            | inr u ↦ (let b = count_no g x xs u in omega arith)
          ]
    ]

count_more : {X : Type 0} (f g : X → Bool) (xs : List X) (y : X) → ((x : X) → f x ≡ true → g x ≡ true) → In xs y → f y ≡ false → g y ≡ true → count_by f xs + 1 ≤ count_by g xs
count_more f g [] y wider i outside inside = absurd i
count_more {X} f g (x ∷ xs) y wider (inl same) outside inside =
    let e : f x ≡ false = ap f same ∙ outside in
    let t : g x ≡ true = ap g same ∙ inside in
    let a = count_no f x xs e in
    let b = count_yes g x xs t in
    let rest = count_wider f g xs wider in
    omega arith
count_more f g (x ∷ xs) y wider (inr i) outside inside =
    let rest = count_more f g xs y wider i outside inside in
    elim (cases_Bool (f x)) [
      | inl t ↦
          let a = count_yes f x xs t in
          let b = count_yes g x xs (wider x t) in
          omega arith
      | inr e ↦
          let a = count_no f x xs e in
          elim (cases_Bool (g x)) [
            | inl t ↦ (let b = count_yes g x xs t in omega arith)
            | inr u ↦ (let b = count_no g x xs u in omega arith)
          ]
    ]

-- settled by the run in a pass up to k
abbrev is_to : ℕ → ℕ → Settled → Bool
is_to run k s = s.run == run && nat_le s.pass k

to_wider : (run k : ℕ) (s : Settled) → is_to run k s ≡ true → is_to run (k + 1) s ≡ true
to_wider run k s e = let parts = and_parts (s.run == run) (nat_le s.pass k) e in and_from (s.run == run) (nat_le s.pass (k + 1)) parts.0 (le-leb s.pass (k + 1) (let le = leb-true s.pass k parts.1 in omega arith))

module _ (h : List Entry) (ps : List Pair) (settled : List Settled) (is : IsSettlement h ps settled) where
  each_pass_counts : (run k : ℕ) → k ≤ last_pass settled run → k ≤ count_by (is_to run k) settled
  each_pass_counts run zero le = omega arith
  each_pass_counts run (suc k) le = elim (last_is settled run) [
    | inl none ↦ absurd (omega arith)
    | inr last ↦
        let rest = each_pass_counts run k (omega arith) in
        let top : last.0.pass ≡ last_pass settled run = last.3 in
        let found = in_pass last.0 last.1 (suc k) (omega arith) (omega arith) in
        let pass : found.0.pass ≡ suc k = found.3 in
        let outside : is_to run k found.0 ≡ false = false_from_ne_true (is_to run k found.0) (λ e. let parts = and_parts (found.0.run == run) (nat_le found.0.pass k) e in let low = leb-true found.0.pass k parts.1 in omega arith) in
        let inside : is_to run (k + 1) found.0 ≡ true = and_from (found.0.run == run) (nat_le found.0.pass (k + 1)) (eq-eqb found.0.run run (found.2 ∙ last.2)) (le-leb found.0.pass (k + 1) (omega arith)) in
        let more = count_more (is_to run k) (is_to run (k + 1)) settled found.0 (to_wider run k) found.1 outside inside in
        let next : k + 1 ≡ suc k = omega arith in
        let same : count_by (is_to run (k + 1)) settled ≡ count_by (is_to run (suc k)) settled = ap (λ n. count_by (is_to run n) settled) next in
        omega arith
  ]
    where
      in_pass : (s : Settled) → In settled s → (n : ℕ) → 0 < n → n ≤ s.pass → (t : Settled) × In settled t × (t.run ≡ s.run) × (t.pass ≡ n)
      in_pass s i n some le = let gap = difference n s.pass le in settled_in_pass h ps settled is gap.0 s i n some gap.1

  pub few_passes : (run : ℕ) → passes_of h settled run ≤ settled_count settled run + 1
  few_passes run =
      let all = each_pass_counts run (last_pass settled run) (omega arith) in
      let wider = count_wider (is_to run (last_pass settled run)) (λ (s : Settled). s.run == run) settled (λ s e. let parts = and_parts (s.run == run) (nat_le s.pass (last_pass settled run)) e in parts.0) in
      elim (cases_Bool (is_in_passes h run)) [
        | inl t ↦ (let count : passes_of h settled run ≡ last_pass settled run + 1 = ap (λ b. if b then last_pass settled run + 1 else 1) t in omega arith)
        | inr f ↦ (let count : passes_of h settled run ≡ 1 = ap (λ b. if b then last_pass settled run + 1 else 1) f in omega arith)
      ]

-- Cover by the entries with a run is cover by those before it: a run issues, redeems and pays nothing.

pub same_deliver : (g h : List Entry) (settled : List Settled) (o : Option Instructed) → ((a i : List ℕ) → debits g settled a i ≡ debits h settled a i) → ((a i : List ℕ) → credits g settled a i ≡ credits h settled a i) → can_deliver g settled o ≡ can_deliver h settled o
same_deliver g h settled None gone come = refl
same_deliver g h settled (Some x) gone come =
    ap (λ n. nat_le (n + x.instruction.quantity) (credits g settled x.instruction.account x.instruction.isin)) (gone x.instruction.account x.instruction.isin)
    ∙ ap (λ n. nat_le (debits h settled x.instruction.account x.instruction.isin + x.instruction.quantity) n) (come x.instruction.account x.instruction.isin)

same_pay_cash : (g h : List Entry) (settled : List Settled) (bic : List ℕ) (cash : Option Cash) → ((b : List ℕ) (c : Ccy) → cash_debits g settled b c ≡ cash_debits h settled b c) → ((b : List ℕ) (c : Ccy) → cash_credits g settled b c ≡ cash_credits h settled b c) → can_pay_cash g settled bic cash ≡ can_pay_cash h settled bic cash
same_pay_cash g h settled bic None gone come = refl
same_pay_cash g h settled bic (Some cash) gone come =
    ap (λ n. nat_le (n + cash.amount) (cash_credits g settled bic cash.ccy)) (gone bic cash.ccy)
    ∙ ap (λ n. nat_le (cash_debits h settled bic cash.ccy + cash.amount) n) (come bic cash.ccy)

pub same_pay : (g h : List Entry) (settled : List Settled) (o : Option Instructed) → ((b : List ℕ) (c : Ccy) → cash_debits g settled b c ≡ cash_debits h settled b c) → ((b : List ℕ) (c : Ccy) → cash_credits g settled b c ≡ cash_credits h settled b c) → can_pay g settled o ≡ can_pay h settled o
same_pay g h settled None gone come = refl
same_pay g h settled (Some x) gone come = same_pay_cash g h settled x.sender x.instruction.cash gone come

covered-run : (h : List Entry) (reference day : List ℕ) (rule : RunRule) (settled : List Settled) (p : Pair) → ((s : Settled) → In settled s → IsIn h s.pair) → IsIn h p
    → is_covered (h ++ Run reference day rule ∷ []) settled p ≡ is_covered h settled p
covered-run h reference day rule settled p within is =
    let run = Run reference day rule in
    let g = h ++ run ∷ [] in
    let securities : has_securities g settled p ≡ has_securities h settled p =
    ap (can_deliver g settled) (delivery_of-front h (run ∷ []) p is)
    ∙ same_deliver g h settled (delivery_of h p)
    (λ a i. let e = debits-entry h run settled within a i in omega arith)
    (λ a i. let e = credits-entry h run settled within a i in omega arith) in
    let cash : has_cash g settled p ≡ has_cash h settled p =
    ap (can_pay g settled) (receipt_of-front h (run ∷ []) p is)
    ∙ same_pay g h settled (receipt_of h p)
    (λ b c. let e = cash_debits-entry h run settled within b c in omega arith)
    (λ b c. let e = cash_credits-entry h run settled within b c in omega arith) in
    ap (λ b. b && has_cash g settled p) securities ∙ ap (λ b. has_securities h settled p && b) cash

-- Nothing covered is left.

pub nothing_left : (front : List Entry) (reference day : List ℕ) (books : Books) (p : Pair) → AreBooks books → books.history ≡ front ++ Run reference day Passes ∷ []
    → Contains books.pairs p → is_due books.history (length books.history) p ≡ true → IsUnsettled books.settled p → is_covered books.history books.settled p ≡ false
nothing_left front reference day books p are last paired due unsettled =
    let h = books.history in
    let run = Run reference day Passes in
    let n = length h in
    let long : n ≡ length front + 1 = ap length last ∙ length-append front (run ∷ []) in
    let entry : entry_at h n ≡ Some run = ap (λ z. entry_at z n) last ∙ entry_at-end front run n long in
    let passes : is_in_passes h n ≡ true = ap (λ o. allows_more (option_and_then run_rule o)) entry in
    let s : Settled = record { run = n; pass = last_pass books.settled n + 1; pair = p } in
    let d = decided_settlement h books.pairs books.settled are.settlement in
    let all : settled_before h s books.settled ≡ books.settled =
    sym (ap (λ z. settled_before h s z) (append-nil books.settled))
    ∙ filter-front (λ x. precedes h x s) books.settled [] (λ t i.
    let r = d.within t i in
    let within : t.run ≤ n = r.run in
    elim (cases_lt t.run n) [
      | inl lt ↦ precedes_run h t s lt
      | inr ge ↦ let same : t.run ≡ n = omega arith in precedes_pass h t s same (let most = below_last books.settled n t i same in omega arith)
    ]) (λ x i. absurd i) in
    let counted : passes_of h books.settled n ≡ last_pass books.settled n + 1 = ap (λ b. if b then last_pass books.settled n + 1 else 1) passes in
    let begun : pass_begins h books.settled n (last_pass books.settled n + 1) ≡ true = counted_begins h books.pairs books.settled are.settlement n (last_pass books.settled n + 1) (omega arith) (omega arith) in
    let front_is : before n h ≡ front = ap (before n) last ∙ before-all front (run ∷ []) n long in
    let is_in : (q : Pair) → Contains books.pairs q → q.later < n → IsIn front q = λ q c lt.
    let mate = (are.pairing.exact q).0 c in
    let order = mate.candidate.earlier in
    record { earlier = omega arith; later = omega arith } in
    let numbered = (due_facts h n p due).numbered in
    let same : is_covered h books.settled p ≡ is_covered (before n h) books.settled p =
    ap (λ z. is_covered z books.settled p) last
    ∙ covered-run front reference day Passes books.settled p
    (λ t i.
    let r = d.within t i in
    let within : t.run ≤ n = r.run in
    let below : t.pair.later < t.run = r.numbered in
    is_in t.pair ((are.settlement.exact t).0 (Contains-from_In books.settled t i)).paired (omega arith))
    (is_in p paired numbered)
    ∙ ap (λ z. is_covered z books.settled p) (sym front_is) in
    false_from_ne_true (is_covered h books.settled p) (λ covered.
    let now : is_covered (before n h) books.settled p ≡ true = sym same ∙ covered in
    let settles : Settles h books.pairs books.settled s = record { paired = paired; due = due; begun = begun; unsettled = unsettled; covered = now } in
    let P : List Settled → Type 0 = λ z. Settles h books.pairs z s in
    unsettled s ((are.settlement.exact s).1 (subst P (sym all) settles)) refl)
