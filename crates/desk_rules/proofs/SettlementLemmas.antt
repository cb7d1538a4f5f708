-- A history has one settlement. It grows by runs alone, and a run takes the due pairs in order.
use Rattle.std.proofs.Common.{◌≡◌, ℕ, ◌+◌, ◌<◌, ◌≤◌, ◌⊎◌, inl, inr, true, ◌&&◌, ◌==◌, nat_lt, List, [], ◌∷◌, length, Option, Some, None, refl, sym, ◌∙◌, ap, arith}
use Rattle.std.specs.Prelude.{option_and_then}
use Rattle.std.specs.List.{list_any}
use Rattle.std.proofs.lemmas.Bool.{both_ways, cases_order, ltb-true, lt-ltb, eqb-true, eq-eqb, and_parts, and_from, or_cases, or_left, or_right}
use Rattle.desk_rules.specs.declared.history.entry.Entry.{Entry}
use Rattle.desk_rules.specs.declared.history.pair.Pair.{Pair}
use Rattle.desk_rules.specs.declared.history.pair.Settled.{Settled}
use Rattle.desk_rules.specs.declared.history.pair.Place.{Place}
use Rattle.desk_rules.specs.History.{entry_at, before, run_day}
use Rattle.desk_rules.specs.Pairing.{IsPairing}
use Rattle.desk_rules.specs.Settlement.{day_of, place_of, is_sooner, is_passed_sooner, precedes, settled_before, is_by, is_not_cancelled, is_due, is_in_passes, pass_begins, Settles, IsSettlement}
use Rattle.desk_rules.specs.Underway.{is_above}
use Rattle.desk_rules.proofs.Decided.{In, In-from_Contains, Contains-from_In, Ordered, Ordered-from_AllPairs, AllPairs-from_Ordered, IsStrict, IsTotalOn, Decided, one_list}
use Rattle.desk_rules.proofs.HistoryLemmas.{entry_at-known}
use Rattle.desk_rules.proofs.PairingLemmas.{lower}
use Rattle.desk_rules.proofs.PlaceLemmas.{before_true, before_day, before_number, before_never, before_through}
use Rattle.desk_rules.proofs.SideLemmas.{any-In, In-any}

-- The order, in words of numbers.

pub sooner_true : (h : List Entry) (p q : Pair) → is_sooner h p q ≡ true → (day_of h p < day_of h q) ⊎ ((day_of h p ≡ day_of h q) × (p.later < q.later))
sooner_true h p q e = before_true (place_of h p) (place_of h q) e

pub sooner_day : (h : List Entry) (p q : Pair) → day_of h p < day_of h q → is_sooner h p q ≡ true
sooner_day h p q lt = before_day (place_of h p) (place_of h q) lt

pub sooner_number : (h : List Entry) (p q : Pair) → day_of h p ≡ day_of h q → p.later < q.later → is_sooner h p q ≡ true
sooner_number h p q same lt = before_number (place_of h p) (place_of h q) same lt

pub precedes_true : (h : List Entry) (s t : Settled) → precedes h s t ≡ true → (s.run < t.run) ⊎ ((s.run ≡ t.run) × ((s.pass < t.pass) ⊎ ((s.pass ≡ t.pass) × (is_sooner h s.pair t.pair ≡ true))))
precedes_true h s t e = elim (or_cases (nat_lt s.run t.run) (s.run == t.run && is_passed_sooner h s t) e) [
  | inl lt ↦ inl (ltb-true s.run t.run lt)
  | inr both ↦
      let parts = and_parts (s.run == t.run) (is_passed_sooner h s t) both in
      inr (
        eqb-true s.run t.run parts.0,
        elim (or_cases (nat_lt s.pass t.pass) (s.pass == t.pass && is_sooner h s.pair t.pair) parts.1) [
          | inl lt ↦ inl (ltb-true s.pass t.pass lt)
          | inr inner ↦ let these = and_parts (s.pass == t.pass) (is_sooner h s.pair t.pair) inner in inr (eqb-true s.pass t.pass these.0, these.1)
        ],
      )
]

pub precedes_run : (h : List Entry) (s t : Settled) → s.run < t.run → precedes h s t ≡ true
precedes_run h s t lt = or_left (nat_lt s.run t.run) _ (lt-ltb s.run t.run lt)

pub precedes_pass : (h : List Entry) (s t : Settled) → s.run ≡ t.run → s.pass < t.pass → precedes h s t ≡ true
precedes_pass h s t same lt = or_right (nat_lt s.run t.run) _ (and_from _ _ (eq-eqb s.run t.run same) (or_left (nat_lt s.pass t.pass) _ (lt-ltb s.pass t.pass lt)))

pub precedes_pair : (h : List Entry) (s t : Settled) → s.run ≡ t.run → s.pass ≡ t.pass → is_sooner h s.pair t.pair ≡ true → precedes h s t ≡ true
precedes_pair h s t same pass e = or_right (nat_lt s.run t.run) _ (and_from _ _ (eq-eqb s.run t.run same) (or_right (nat_lt s.pass t.pass) _ (and_from _ _ (eq-eqb s.pass t.pass pass) e)))

pub above_true : (h : List Entry) (place : Place) (p : Pair) → is_above h (Some place) p ≡ true → (place.day < day_of h p) ⊎ ((place.day ≡ day_of h p) × (place.number < p.later))
above_true h place p e = before_true place (place_of h p) e

pub above_day : (h : List Entry) (place : Place) (p : Pair) → place.day < day_of h p → is_above h (Some place) p ≡ true
above_day h place p lt = before_day place (place_of h p) lt

pub above_number : (h : List Entry) (place : Place) (p : Pair) → place.day ≡ day_of h p → place.number < p.later → is_above h (Some place) p ≡ true
above_number h place p same lt = before_number place (place_of h p) same lt

pub sooner_strict_never : (h : List Entry) (p : Pair) → is_sooner h p p ≡ true → ⊥
sooner_strict_never h p e = both_ways _ (before_never (place_of h p) (place_of h p) refl refl) e

pub sooner_through : (h : List Entry) (p q r : Pair) → is_sooner h p q ≡ true → is_sooner h q r ≡ true → is_sooner h p r ≡ true
sooner_through h p q r e f = before_through (place_of h p) (place_of h q) (place_of h r) e f

pub precedes_strict : (h : List Entry) → IsStrict (precedes h)
precedes_strict h = record {
  never = λ s e. elim (precedes_true h s s e) [ inl lt ↦ omega arith | inr both ↦ elim both.1 [ inl lt ↦ omega arith | inr inner ↦ sooner_strict_never h s.pair inner.1 ] ];
  through = λ s t u e f. elim (precedes_true h s t e) [
    | inl a ↦ elim (precedes_true h t u f) [ inl b ↦ precedes_run h s u (omega arith) | inr b ↦ precedes_run h s u (let same : t.run ≡ u.run = b.0 in omega arith) ]
    | inr a ↦
        let same : s.run ≡ t.run = a.0 in
        elim (precedes_true h t u f) [
          | inl b ↦ precedes_run h s u (omega arith)
          | inr b ↦ elim a.1 [
            | inl p ↦ elim b.1 [ inl q ↦ precedes_pass h s u (same ∙ b.0) (omega arith) | inr q ↦ precedes_pass h s u (same ∙ b.0) (let pass : t.pass ≡ u.pass = q.0 in omega arith) ]
            | inr p ↦
                let pass : s.pass ≡ t.pass = p.0 in
                elim b.1 [ inl q ↦ precedes_pass h s u (same ∙ b.0) (omega arith) | inr q ↦ precedes_pair h s u (same ∙ b.0) (pass ∙ q.0) (sooner_through h s.pair t.pair u.pair p.1 q.1) ]
          ]
        ]
  ];
}

pub settled_same : (s t : Settled) → s.run ≡ t.run → s.pass ≡ t.pass → s.pair ≡ t.pair → s ≡ t
settled_same s t a b c = let f : ℕ → ℕ → Pair → Settled = λ n k p. record { run = n; pass = k; pair = p } in ap (λ n. f n s.pass s.pair) a ∙ ap (λ k. f t.run k s.pair) b ∙ ap (λ p. f t.run t.pass p) c

-- A pass that begins.

-- what makes a further pass begin
pub record Follows (h : List Entry) (settled : List Settled) (run pass : ℕ) : Type 0 where
  pub allowed : is_in_passes h run ≡ true
  pub member : Settled
  pub inside : In settled member
  pub run_is : member.run ≡ run
  pub pass_is : member.pass + 1 ≡ pass

pub begins_true : (h : List Entry) (settled : List Settled) (run pass : ℕ) → pass_begins h settled run pass ≡ true → (pass ≡ 1) ⊎ Follows h settled run pass
begins_true h settled run pass e = elim (or_cases (pass == 1) (is_in_passes h run && list_any (λ t. t.run == run && t.pass + 1 == pass) settled) e) [
  | inl first ↦ inl (eqb-true pass 1 first)
  | inr further ↦
      let parts = and_parts (is_in_passes h run) (list_any (λ t. t.run == run && t.pass + 1 == pass) settled) further in
      let found = In-any (λ t. t.run == run && t.pass + 1 == pass) settled parts.1 in
      let t = found.0 in
      let these = and_parts (t.run == run) (t.pass + 1 == pass) found.2 in
      inr (record { allowed = parts.0; member = t; inside = found.1; run_is = eqb-true t.run run these.0; pass_is = eqb-true (t.pass + 1) pass these.1 })
]

pub begins_first : (h : List Entry) (settled : List Settled) (run pass : ℕ) → pass ≡ 1 → pass_begins h settled run pass ≡ true
begins_first h settled run pass first = or_left (pass == 1) _ (eq-eqb pass 1 first)

pub begins_further : (h : List Entry) (settled : List Settled) (run pass : ℕ) → Follows h settled run pass → pass_begins h settled run pass ≡ true
begins_further h settled run pass f = or_right (pass == 1) _ (and_from _ _ f.allowed (any-In (λ t. t.run == run && t.pass + 1 == pass) settled f.member f.inside (and_from _ _ (eq-eqb f.member.run run f.run_is) (eq-eqb (f.member.pass + 1) pass f.pass_is))))

-- a pass that begins after some settlements begins after others that have all of those
pub begins_wider : (h : List Entry) (settled wider : List Settled) (run pass : ℕ) → ((s : Settled) → In settled s → In wider s) → pass_begins h settled run pass ≡ true → pass_begins h wider run pass ≡ true
begins_wider h settled wider run pass sub e = elim (begins_true h settled run pass e) [
  | inl first ↦ begins_first h wider run pass first
  | inr f ↦ begins_further h wider run pass (record { allowed = f.allowed; member = f.member; inside = sub f.member f.inside; run_is = f.run_is; pass_is = f.pass_is })
]

-- What is due.

pub record DueFacts (h : List Entry) (run : ℕ) (p : Pair) : Type 0 where
  pub by : is_by (option_and_then run_day (entry_at h run)) (day_of h p) ≡ true
  pub numbered : p.later < run
  pub stands : is_not_cancelled (before run h) p ≡ true

pub due_facts : (h : List Entry) (run : ℕ) (p : Pair) → is_due h run p ≡ true → DueFacts h run p
due_facts h run p e =
    let day = is_by (option_and_then run_day (entry_at h run)) (day_of h p) in
    let outer = and_parts (day && nat_lt p.later run) (is_not_cancelled (before run h) p) e in
    let inner = and_parts day (nat_lt p.later run) outer.0 in
    record { by = inner.0; numbered = ltb-true p.later run inner.1; stands = outer.1 }

pub by_some : (f : Entry → Option ℕ) (o : Option Entry) (day : ℕ) → is_by (option_and_then f o) day ≡ true → (e : Entry) × (o ≡ Some e)
by_some f None day e = absurd (cc)
by_some f (Some x) day e = (x, refl)

pub due_known : (h : List Entry) (run : ℕ) (p : Pair) → is_due h run p ≡ true → run ≤ length h
due_known h run p e = let f = due_facts h run p e in let s = by_some run_day (entry_at h run) (day_of h p) f.by in let k = entry_at-known h run s.0 s.1 in k.1

-- the runs of a history, and the pairs numbered below them
pub record IsRanged (n : ℕ) (s : Settled) : Type 0 where
  pub run : s.run ≤ n
  pub numbered : s.pair.later < s.run

pub settles_ranged : (h : List Entry) (ps : List Pair) (settled : List Settled) (s : Settled) → Settles h ps settled s → IsRanged (length h) s
settles_ranged h ps settled s is = let f = due_facts h s.run s.pair is.due in record { run = due_known h s.run s.pair is.due; numbered = f.numbered }

pub decided_settlement : (h : List Entry) (ps : List Pair) (settled : List Settled) → IsSettlement h ps settled → Decided (precedes h) (IsRanged (length h)) (Settles h ps) settled
decided_settlement h ps settled is = record {
  exact = λ s b. (
    λ i. (is.exact s).0 (Contains-from_In settled s i),
    λ c. In-from_Contains settled s ((is.exact s).1 c),
  );
  within = λ s i. settles_ranged h ps (settled_before h s settled) s ((is.exact s).0 (Contains-from_In settled s i));
  order = Ordered-from_AllPairs (precedes h) settled is.in_order;
}

pub settlement_decided : (h : List Entry) (ps : List Pair) (settled : List Settled) → Decided (precedes h) (IsRanged (length h)) (Settles h ps) settled → IsSettlement h ps settled
settlement_decided h ps settled d = record {
  exact = λ s. (
    λ c. let i = In-from_Contains settled s c in (d.exact s (d.within s i)).0 i,
    λ m. Contains-from_In settled s ((d.exact s (settles_ranged h ps (settled_before h s settled) s m)).1 m),
  );
  in_order = AllPairs-from_Ordered (precedes h) settled d.order;
}

-- Pairs of one number are one.

pub one_number : (ps : List Pair) → Ordered lower ps → (p q : Pair) → In ps p → In ps q → p.later ≡ q.later → p ≡ q
one_number [] o p q i j same = absurd i
one_number (x ∷ ps) o p q (inl e) (inl f) same = sym e ∙ f
one_number (x ∷ ps) o p q (inl e) (inr j) same = let lt = ltb-true x.later q.later (o.0 q j) in let also = ap (λ z. z.later) e in absurd (omega arith)
one_number (x ∷ ps) o p q (inr i) (inl f) same = let lt = ltb-true x.later p.later (o.0 p i) in let also = ap (λ z. z.later) f in absurd (omega arith)
one_number (x ∷ ps) o p q (inr i) (inr j) same = one_number ps o.1 p q i j same

pub ordered_pairs : (h : List Entry) (ps : List Pair) → IsPairing h ps → Ordered lower ps
ordered_pairs h ps is = Ordered-from_AllPairs lower ps (λ i j d a b. lt-ltb _ _ (is.rising i j d a b))

-- two pairs are in order, or are one
pub sooner_total : (h : List Entry) (ps : List Pair) → Ordered lower ps → (p q : Pair) → In ps p → In ps q → (is_sooner h p q ≡ true) ⊎ ((p ≡ q) ⊎ (is_sooner h q p ≡ true))
sooner_total h ps o p q i j = elim (cases_order (day_of h p) (day_of h q)) [
  | inl same ↦ elim (cases_order p.later q.later) [
    | inl number ↦ inr (inl (one_number ps o p q i j number))
    | inr n ↦ elim n [ inl less ↦ inl (sooner_number h p q same less) | inr more ↦ inr (inr (sooner_number h q p (sym same) more)) ]
  ]
  | inr d ↦ elim d [ inl less ↦ inl (sooner_day h p q less) | inr more ↦ inr (inr (sooner_day h q p more)) ]
]

settles_total : (h : List Entry) (ps : List Pair) → Ordered lower ps → IsTotalOn (precedes h) (Settles h ps)
settles_total h ps o front s t a b = elim (cases_order s.run t.run) [
  | inl same ↦ elim (cases_order s.pass t.pass) [
    | inl pass ↦ elim (sooner_total h ps o s.pair t.pair (In-from_Contains ps s.pair a.paired) (In-from_Contains ps t.pair b.paired)) [
      | inl less ↦ inl (precedes_pair h s t same pass less)
      | inr n ↦ elim n [ inl e ↦ inr (inl (settled_same s t same pass e)) | inr more ↦ inr (inr (precedes_pair h t s (sym same) (sym pass) more)) ]
    ]
    | inr d ↦ elim d [ inl less ↦ inl (precedes_pass h s t same less) | inr more ↦ inr (inr (precedes_pass h t s (sym same) more)) ]
  ]
  | inr d ↦ elim d [ inl less ↦ inl (precedes_run h s t less) | inr more ↦ inr (inr (precedes_run h t s more)) ]
]

pub one_settlement : (h : List Entry) (ps : List Pair) (ss ts : List Settled) → Ordered lower ps → IsSettlement h ps ss → IsSettlement h ps ts → ss ≡ ts
one_settlement h ps ss ts o s t = one_list (precedes h) (precedes_strict h) (IsRanged (length h)) (Settles h ps) (settles_total h ps o) ss ts (decided_settlement h ps ss s) (decided_settlement h ps ts t)
