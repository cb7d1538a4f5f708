-- How the settlement grows with a history: by runs alone, and in a run by the due pairs that are covered, in order.
use Rattle.std.proofs.Common.{◌≡◌, ℕ, ◌+◌, ◌<◌, ◌≤◌, ◌↔◌, ◌⊎◌, inl, inr, true, false, ◌&&◌, ◌||◌, ◌==◌, nat_lt, List, [], ◌∷◌, ◌++◌, Contains, filter, length, Option, Some, None, refl, sym, ◌∙◌, ap, subst, arith, append-nil, length-append}
use Rattle.std.specs.Prelude.{option_and_then}
use Rattle.std.specs.List.{list_any}
use Rattle.std.proofs.lemmas.Bool.{cases_Bool, cases_lt, cases_eq, cases_order, both_ways, false_from_ne_true}
use Rattle.desk_rules.specs.declared.history.entry.Entry.{Entry}
use Rattle.desk_rules.specs.declared.history.pair.Pair.{Pair}
use Rattle.desk_rules.specs.declared.history.pair.Settled.{Settled}
use Rattle.desk_rules.specs.declared.history.pair.Place.{Place}
use Rattle.desk_rules.specs.History.{entry_at, before, run_day, run_rule}
use Rattle.desk_rules.specs.Covered.{is_covered}
use Rattle.desk_rules.specs.Settlement.{instructed_day, day_of, is_sooner, precedes, settled_before, is_by, is_due, allows_more, is_in_passes, pass_begins, Settles, IsSettlement}
use Rattle.desk_rules.specs.Underway.{is_above}
use Rattle.desk_rules.specs.Underway.{IsOpen, IsNext}
use Rattle.desk_rules.specs.Underway.{IsReached, IsSettledAsFar}
use Rattle.desk_rules.proofs.Decided.{AllPairs-from_Ordered, Ordered-from_AllPairs, In-from_Contains, Contains-from_In, In-left, In-push_cases, In, In-filter, filter-In, filter-front, Ordered, Decided, grow_out, grow_in, Decided-same}
use Rattle.desk_rules.proofs.HistoryLemmas.{entry_at-front, entry_at-end, before-front, instruction_at-front}
use Rattle.desk_rules.proofs.PairingLemmas.{pair_same, lower}
use Rattle.desk_rules.proofs.SettlementLemmas.{sooner_true, sooner_day, sooner_number, precedes_run, precedes_pass, precedes_pair, begins_true, begins_first, begins_wider, above_true, above_day, above_number, precedes_strict, settled_same, due_facts, IsRanged, decided_settlement, settlement_decided, one_number}

-- What a history says of the numbers that it has, it says when it is longer.

pub day_of-front : (h g : List Entry) (p : Pair) → p.later ≤ length h → day_of (h ++ g) p ≡ day_of h p
day_of-front h g p le = ap (λ o. instructed_day o) (instruction_at-front h g p.later le)

pub is_due-front : (h g : List Entry) (run : ℕ) (p : Pair) → run ≤ length h → p.later < run → is_due (h ++ g) run p ≡ is_due h run p
is_due-front h g run p le lt = rw (entry_at-front h g run le, day_of-front h g p (omega arith), before-front h g run (omega arith)) refl

pub is_sooner-front : (h g : List Entry) (p q : Pair) → p.later ≤ length h → q.later ≤ length h → is_sooner (h ++ g) p q ≡ is_sooner h p q
is_sooner-front h g p q a b = rw (day_of-front h g p a, day_of-front h g q b) refl

pub precedes-front : (h g : List Entry) (s t : Settled) → s.pair.later ≤ length h → t.pair.later ≤ length h → precedes (h ++ g) s t ≡ precedes h s t
precedes-front h g s t a b = ap (λ v. nat_lt s.run t.run || (s.run == t.run && (nat_lt s.pass t.pass || (s.pass == t.pass && v)))) (is_sooner-front h g s.pair t.pair a b)

pub in_passes-front : (h g : List Entry) (run : ℕ) → run ≤ length h → is_in_passes (h ++ g) run ≡ is_in_passes h run
in_passes-front h g run le = ap (λ o. allows_more (option_and_then run_rule o)) (entry_at-front h g run le)

pub begins-front : (h g : List Entry) (settled : List Settled) (run pass : ℕ) → run ≤ length h → pass_begins (h ++ g) settled run pass ≡ pass_begins h settled run pass
begins-front h g settled run pass le = ap (λ b. pass == 1 || (b && list_any (λ t. t.run == run && t.pass + 1 == pass) settled)) (in_passes-front h g run le)

-- two lists have the same pairs up to a number
abbrev pub SamePairsTo : ℕ → List Pair → List Pair → Type 0
SamePairsTo n ps qs = (p : Pair) → p.later ≤ n → Contains ps p ↔ Contains qs p

pub same_pairs_push : (n : ℕ) (ps : List Pair) (q : Pair) → n < q.later → SamePairsTo n ps (ps ++ q ∷ [])
same_pairs_push n ps q lt p le = (
  λ c. Contains-from_In (ps ++ q ∷ []) p (In-left ps (q ∷ []) p (In-from_Contains ps p c)),
  λ c. elim (In-push_cases ps q p (In-from_Contains (ps ++ q ∷ []) p c)) [
    | inl i ↦ Contains-from_In ps p i
    | inr e ↦ let same : q.later ≡ p.later = ap (λ z. z.later) e in absurd (omega arith)
  ],
)

pub settles_front : (h g : List Entry) (ps qs : List Pair) (settled : List Settled) (s : Settled) → SamePairsTo (length h) ps qs → IsRanged (length h) s → Settles h ps settled s ↔ Settles (h ++ g) qs settled s
settles_front h g ps qs settled s same r =
    let numbered : s.pair.later < s.run = r.numbered in
    let known : s.run ≤ length h = r.run in
    let due : is_due (h ++ g) s.run s.pair ≡ is_due h s.run s.pair = is_due-front h g s.run s.pair known numbered in
    let begun : pass_begins (h ++ g) settled s.run s.pass ≡ pass_begins h settled s.run s.pass = begins-front h g settled s.run s.pass known in
    let front : before s.run (h ++ g) ≡ before s.run h = before-front h g s.run (omega arith) in (
      λ c. record {
        paired = (same s.pair (omega arith)).0 c.paired;
        due = due ∙ c.due;
        begun = begun ∙ c.begun;
        unsettled = c.unsettled;
        covered = rw front c.covered;
      },
      λ c. record {
        paired = (same s.pair (omega arith)).1 c.paired;
        due = sym due ∙ c.due;
        begun = sym begun ∙ c.begun;
        unsettled = c.unsettled;
        covered = let e = c.covered in rw front at e;
      },
    )

-- the settlement of a history, in the words of a longer one
settled_in : (h g : List Entry) (ps qs : List Pair) (settled : List Settled) → SamePairsTo (length h) ps qs → IsSettlement h ps settled → Decided (precedes (h ++ g)) (IsRanged (length h)) (Settles (h ++ g) qs) settled
settled_in h g ps qs settled same is = Decided-same (precedes h) (precedes (h ++ g)) (IsRanged (length h)) (Settles h ps) (Settles (h ++ g) qs) settled (decided_settlement h ps settled is)
    (λ s t a b. let ra : s.run ≤ length h = a.run in let na : s.pair.later < s.run = a.numbered in let rb : t.run ≤ length h = b.run in let nb : t.pair.later < t.run = b.numbered in sym (precedes-front h g s t (omega arith) (omega arith)))
    (λ front s r. settles_front h g ps qs front s same r)

pub by_none : (f : Entry → Option ℕ) (o : Option Entry) (e : Entry) (day : ℕ) → o ≡ Some e → f e ≡ None → is_by (option_and_then f o) day ≡ true → ⊥
by_none f o e day is none t = let P : Option Entry → Type 0 = λ z. is_by (option_and_then f z) day ≡ true in let Q : Option ℕ → Type 0 = λ z. is_by z day ≡ true in absurd (no_by day (subst Q none (subst P is t)))
  where
    no_by : (d : ℕ) → is_by None d ≡ true → ⊥
    no_by d x = cc

-- An entry that is no run settles nothing.
pub settlement_alone : (h : List Entry) (e : Entry) (ps qs : List Pair) (settled : List Settled) → SamePairsTo (length h) ps qs → run_day e ≡ None → IsSettlement h ps settled → IsSettlement (h ++ e ∷ []) qs settled
settlement_alone h e ps qs settled same no_run is =
    let g = h ++ e ∷ [] in
    let longer : length g ≡ length h + 1 = length-append h (e ∷ []) in
    settlement_decided g qs settled (grow_out (precedes g) (precedes_strict g) (IsRanged (length h)) (IsRanged (length g)) (Settles g qs) (Settles g qs) settled
    (settled_in h (e ∷ []) ps qs settled same is)
    (λ s r. record { run = let k : s.run ≤ length h = r.run in omega arith; numbered = r.numbered })
    (λ front s r. ((λ c. c), (λ c. c)))
    (λ s r. elim (cases_lt s.run (length h + 1)) [
      | inl lt ↦ inl (record { run = omega arith; numbered = r.numbered })
      | inr ge ↦ inr (λ c.
          let most : s.run ≤ length g = r.run in
          let f = due_facts g s.run s.pair c.due in
          by_none run_day (entry_at g s.run) e (day_of g s.pair) (entry_at-end h e s.run (omega arith)) no_run f.by)
    ]))

-- Within a run: what stands in the list so far, up to a place in the order of the run.

-- the settlement of a history whose last entry is the run n, as far as the place in the pass k
abbrev pub IsSettledTo : List Entry → List Pair → ℕ → ℕ → Option Place → List Settled → Type 0
IsSettledTo h ps n k place settled = Decided (precedes h) (IsReached h n k place) (Settles h ps) settled

pub decided_as_far : {h : List Entry} {ps : List Pair} {n k : ℕ} {place : Option Place} {settled : List Settled} → IsSettledAsFar h ps n k place settled → IsSettledTo h ps n k place settled
decided_as_far {settled = settled} far = record {
  exact = λ s b. (
    λ i. (far.exact s b).0 (Contains-from_In settled s i),
    λ c. In-from_Contains settled s ((far.exact s b).1 c),
  );
  within = λ s i. far.within s (Contains-from_In settled s i);
  order = Ordered-from_AllPairs _ settled far.in_order;
}

pub as_far_decided : {h : List Entry} {ps : List Pair} {n k : ℕ} {place : Option Place} {settled : List Settled} → IsSettledTo h ps n k place settled → IsSettledAsFar h ps n k place settled
as_far_decided {settled = settled} d = record {
  exact = λ s b. (
    λ c. (d.exact s b).0 (In-from_Contains settled s c),
    λ m. Contains-from_In settled s ((d.exact s b).1 m),
  );
  within = λ s c. d.within s (In-from_Contains settled s c);
  in_order = AllPairs-from_Ordered _ settled d.order;
}

no_pass_zero : (h : List Entry) (settled : List Settled) (run pass : ℕ) → pass < 1 → pass_begins h settled run pass ≡ true → ⊥
no_pass_zero h settled run pass lt e = elim (begins_true h settled run pass e) [ inl first ↦ omega arith | inr f ↦ (let is : f.member.pass + 1 ≡ pass = f.pass_is in omega arith) ]

pub run_begins : (h : List Entry) (e : Entry) (ps : List Pair) (settled : List Settled) → IsSettlement h ps settled → IsSettledTo (h ++ e ∷ []) ps (length h + 1) 1 None settled
run_begins h e ps settled is =
    let g = h ++ e ∷ [] in
    grow_out (precedes g) (precedes_strict g) (IsRanged (length h)) (IsReached g (length h + 1) 1 None) (Settles g ps) (Settles g ps) settled
    (settled_in h (e ∷ []) ps ps settled (λ p le. ((λ c. c), (λ c. c))) is)
    (λ s r. record { numbered = r.numbered; reached = inl (let k : s.run ≤ length h = r.run in omega arith) })
    (λ front s r. ((λ c. c), (λ c. c)))
    (λ s r. elim r.reached [
      | inl lt ↦ inl (record { run = omega arith; numbered = r.numbered })
      | inr both ↦ elim both.1 [
        | inl zero ↦ inr (λ c. no_pass_zero g (filter (λ t. precedes g t s) settled) s.run s.pass zero c.begun)
        | inr inner ↦ let never : true ≡ false = inner.1 in absurd (cc)
      ]
    ])

-- a pair that isn't above a place is sooner than one that is
pub below_above : (h : List Entry) (place : Option Place) (p q : Pair) → is_above h place p ≡ false → is_above h place q ≡ true → is_sooner h p q ≡ true
below_above h None p q low high = absurd (cc)
below_above h (Some place) p q low high =
    let not_day : place.day < day_of h p → ⊥ = λ lt. both_ways _ low (above_day h place p lt) in
    let not_number : place.day ≡ day_of h p → place.number < p.later → ⊥ = λ same lt. both_ways _ low (above_number h place p same lt) in
    elim (above_true h place q high) [
      | inl day ↦ elim (cases_lt (place.day) (day_of h p)) [ inl lt ↦ absurd (not_day lt) | inr ge ↦ sooner_day h p q (omega arith) ]
      | inr both ↦
          let same : place.day ≡ day_of h q = both.0 in
          let less : place.number < q.later = both.1 in
          elim (cases_lt (place.day) (day_of h p)) [
            | inl lt ↦ absurd (not_day lt)
            | inr ge ↦ elim (cases_lt (day_of h p) (place.day)) [
              | inl lt ↦ sooner_day h p q (omega arith)
              | inr le ↦ elim (cases_lt place.number p.later) [
                | inl lt ↦ absurd (not_number (omega arith) lt)
                | inr number ↦ sooner_number h p q (omega arith) (omega arith)
              ]
            ]
          ]
    ]

-- the place of a pair
pub record IsPlaceOf (h : List Entry) (place : Place) (p : Pair) : Type 0 where
  pub day : place.day ≡ day_of h p
  pub number : place.number ≡ p.later

-- what isn't above the place of q comes before q, or has its day and number
pub at_place : (h : List Entry) (place : Place) (p q : Pair) → IsPlaceOf h place q → is_above h (Some place) p ≡ false → (is_sooner h p q ≡ true) ⊎ (p.later ≡ q.later)
at_place h place p q is low =
    let day : place.day ≡ day_of h q = is.day in
    let number : place.number ≡ q.later = is.number in
    let not_day : place.day < day_of h p → ⊥ = λ lt. both_ways _ low (above_day h place p lt) in
    let not_number : place.day ≡ day_of h p → place.number < p.later → ⊥ = λ same lt. both_ways _ low (above_number h place p same lt) in
    elim (cases_order (day_of h p) (day_of h q)) [
      | inl same ↦ elim (cases_order p.later q.later) [
        | inl e ↦ inr e
        | inr o ↦ elim o [ inl less ↦ inl (sooner_number h p q same less) | inr more ↦ absurd (not_number (omega arith) (omega arith)) ]
      ]
      | inr o ↦ elim o [ inl less ↦ inl (sooner_day h p q less) | inr more ↦ absurd (not_day (omega arith)) ]
    ]

-- q itself, and what is sooner, isn't above its place
pub own_place : (h : List Entry) (place : Place) (q : Pair) → IsPlaceOf h place q → is_above h (Some place) q ≡ false
own_place h place q is =
    let day : place.day ≡ day_of h q = is.day in
    let number : place.number ≡ q.later = is.number in
    false_from_ne_true (is_above h (Some place) q) (λ e. elim (above_true h place q e) [ inl lt ↦ omega arith | inr both ↦ (let lt : place.number < q.later = both.1 in omega arith) ])

pub sooner_place : (h : List Entry) (place : Place) (p q : Pair) → IsPlaceOf h place q → is_sooner h p q ≡ true → is_above h (Some place) p ≡ false
sooner_place h place p q is less =
    let day : place.day ≡ day_of h q = is.day in
    let number : place.number ≡ q.later = is.number in
    false_from_ne_true (is_above h (Some place) p) (λ e. elim (sooner_true h p q less) [
      | inl l ↦ elim (above_true h place p e) [ inl lt ↦ omega arith | inr both ↦ (let same : place.day ≡ day_of h p = both.0 in omega arith) ]
      | inr l ↦
          let same : day_of h p ≡ day_of h q = l.0 in
          let lower : p.later < q.later = l.1 in
          elim (above_true h place p e) [ inl lt ↦ omega arith | inr both ↦ (let lt : place.number < p.later = both.1 in omega arith) ]
    ])

-- all that is reached comes before what is above the place in the pass
pub before_above : (h : List Entry) (n k : ℕ) (place : Option Place) (s t : Settled) → IsReached h n k place s → t.run ≡ n → t.pass ≡ k → is_above h place t.pair ≡ true → precedes h s t ≡ true
before_above h n k place s t r run pass high = elim r.reached [
  | inl lt ↦ precedes_run h s t (omega arith)
  | inr both ↦ elim both.1 [
    | inl lt ↦ precedes_pass h s t (both.0 ∙ sym run) (omega arith)
    | inr inner ↦ precedes_pair h s t (both.0 ∙ sym run) (inner.0 ∙ sym pass) (below_above h place s.pair t.pair inner.1 high)
  ]
]

-- what may still settle in the pass, in any list that goes on from this one, is open
still_open : (h : List Entry) (ps : List Pair) (settled more : List Settled) (n k : ℕ) (place : Option Place) (s : Settled) → IsSettledTo h ps n k place settled → s.run ≡ n → s.pass ≡ k → is_above h place s.pair ≡ true
    → Settles h ps (settled_before h s (settled ++ more)) s → IsOpen h ps settled n place s.pair
still_open h ps settled more n k place s d same pass high c = record {
  paired = c.paired;
  due = let P : ℕ → Type 0 = λ m. is_due h m s.pair ≡ true in subst P same c.due;
  unsettled = λ t inside.
      let i = In-from_Contains settled t inside in
      let there = filter-In (λ x. precedes h x s) (settled ++ more) t (In-left settled more t i) (before_above h n k place t s (d.within t i) same pass high) in
      c.unsettled t (Contains-from_In (settled_before h s (settled ++ more)) t there);
  above = high;
}

-- between a place and that of the next pair nothing but that pair may settle
nothing_between : (h : List Entry) (ps : List Pair) (settled more : List Settled) (n k : ℕ) (place : Option Place) (q : Pair) (next : Place) (s : Settled) → IsSettledTo h ps n k place settled
    → Ordered lower ps → IsNext h ps settled n place q → IsPlaceOf h next q → s.run ≡ n → s.pass ≡ k → is_above h place s.pair ≡ true → is_above h (Some next) s.pair ≡ false
    → Settles h ps (settled_before h s (settled ++ more)) s → s.pair ≡ q
nothing_between h ps settled more n k place q next s d o is at same pass high low c =
    elim (at_place h next s.pair q at low) [
      | inl less ↦ absurd (both_ways _ (is.least s.pair (still_open h ps settled more n k place s d same pass high c)) less)
      | inr number ↦ one_number ps o s.pair q (In-from_Contains ps s.pair c.paired) (In-from_Contains ps q is.is_open.paired) number
    ]

reached_further : (h : List Entry) (ps : List Pair) (settled : List Settled) (n k : ℕ) (place : Option Place) (q : Pair) (next : Place) → IsNext h ps settled n place q → IsPlaceOf h next q → (s : Settled) → IsReached h n k place s → IsReached h n k (Some next) s
reached_further h ps settled n k place q next is at s r = record {
  numbered = r.numbered;
  reached = elim r.reached [
    | inl lt ↦ inl lt
    | inr both ↦ inr (
      both.0,
      elim both.1 [
        | inl lt ↦ inl lt
        | inr inner ↦ inr (inner.0, sooner_place h next s.pair q at (below_above h place s.pair q inner.1 is.is_open.above))
      ],
    )
  ];
}

-- The next pair is covered, and settles.
pub run_settles : (h : List Entry) (ps : List Pair) (settled : List Settled) (n k : ℕ) (place : Option Place) (q : Pair) (next : Place)
    → Ordered lower ps → IsSettledTo h ps n k place settled → pass_begins h settled n k ≡ true → IsNext h ps settled n place q → IsPlaceOf h next q
    → is_covered (before n h) settled q ≡ true
    → IsSettledTo h ps n k (Some next) (settled ++ record { run = n; pass = k; pair = q } ∷ [])
run_settles h ps settled n k place q next o d begun is at covered =
    let new : Settled = record { run = n; pass = k; pair = q } in
    let facts = due_facts h n q is.is_open.due in
    grow_in (precedes h) (precedes_strict h) (IsReached h n k place) (IsReached h n k (Some next)) (Settles h ps) (Settles h ps) settled new d
    (reached_further h ps settled n k place q next is at)
    (record { numbered = facts.numbered; reached = inr (refl, inr (refl, own_place h next q at)) })
    (λ front s r. ((λ c. c), (λ c. c)))
    (λ s r. before_above h n k place s new r refl refl is.is_open.above)
    (record { paired = is.is_open.paired; due = is.is_open.due; begun = begun; unsettled = is.is_open.unsettled; covered = covered })
    (λ s r. elim r.reached [
      | inl lt ↦ inl (record { numbered = r.numbered; reached = inl lt })
      | inr both ↦ elim both.1 [
        | inl lt ↦ inl (record { numbered = r.numbered; reached = inr (both.0, inl lt) })
        | inr inner ↦ elim (cases_Bool (is_above h place s.pair)) [
          | inr low ↦ inl (record { numbered = r.numbered; reached = inr (both.0, inr (inner.0, low)) })
          | inl high ↦ inr (elim (cases_eq q.earlier s.pair.earlier) [
            | inr differs ↦ inr (λ c. differs (ap (λ p. p.earlier) (sym (nothing_between h ps settled (new ∷ []) n k place q next s d o is at both.0 inner.0 high inner.1 c))))
            | inl earlier ↦ elim (cases_eq q.later s.pair.later) [
              | inr differs ↦ inr (λ c. differs (ap (λ p. p.later) (sym (nothing_between h ps settled (new ∷ []) n k place q next s d o is at both.0 inner.0 high inner.1 c))))
              | inl later ↦ inl (settled_same new s (sym both.0) (sym inner.0) (pair_same q s.pair earlier later))
            ]
          ])
        ]
      ]
    ])

-- The next pair is not covered, and stays.
pub run_leaves : (h : List Entry) (ps : List Pair) (settled : List Settled) (n k : ℕ) (place : Option Place) (q : Pair) (next : Place)
    → Ordered lower ps → IsSettledTo h ps n k place settled → IsNext h ps settled n place q → IsPlaceOf h next q
    → is_covered (before n h) settled q ≡ false
    → IsSettledTo h ps n k (Some next) settled
run_leaves h ps settled n k place q next o d is at short =
    let new : Settled = record { run = n; pass = k; pair = q } in
    grow_out (precedes h) (precedes_strict h) (IsReached h n k place) (IsReached h n k (Some next)) (Settles h ps) (Settles h ps) settled d
    (reached_further h ps settled n k place q next is at)
    (λ front s r. ((λ c. c), (λ c. c)))
    (λ s r. elim r.reached [
      | inl lt ↦ inl (record { numbered = r.numbered; reached = inl lt })
      | inr both ↦ elim both.1 [
        | inl lt ↦ inl (record { numbered = r.numbered; reached = inr (both.0, inl lt) })
        | inr inner ↦ elim (cases_Bool (is_above h place s.pair)) [
          | inr low ↦ inl (record { numbered = r.numbered; reached = inr (both.0, inr (inner.0, low)) })
          | inl high ↦ inr (λ c.
              let P : List Settled → Type 0 = λ z. Settles h ps (settled_before h s z) s in
              let same : s.pair ≡ q = nothing_between h ps settled [] n k place q next s d o is at both.0 inner.0 high inner.1 (subst P (sym (append-nil settled)) c) in
              let this : s ≡ new = settled_same s new both.0 inner.0 same in
              let Q : Settled → Type 0 = λ z. Settles h ps (settled_before h z settled) z in
              let all : settled_before h new settled ≡ settled =
              sym (ap (λ z. settled_before h new z) (append-nil settled)) ∙ filter-front (λ x. precedes h x new) settled [] (λ x i. before_above h n k place x new (d.within x i) refl refl is.is_open.above) (λ x i. absurd i) in
              let R : List Settled → Type 0 = λ z. Settles h ps z new in
              let settles : Settles h ps settled new = subst R all (subst Q this c) in
              both_ways _ short settles.covered)
        ]
      ]
    ])

-- No pair is left to take: the pass is over.
pub pass_ends : (h : List Entry) (ps : List Pair) (settled : List Settled) (n k : ℕ) (place : Option Place)
    → IsSettledTo h ps n k place settled → ((p : Pair) → IsOpen h ps settled n place p → ⊥)
    → IsSettledTo h ps n (k + 1) None settled
pass_ends h ps settled n k place d none =
    grow_out (precedes h) (precedes_strict h) (IsReached h n k place) (IsReached h n (k + 1) None) (Settles h ps) (Settles h ps) settled d
    (λ s r. record {
      numbered = r.numbered;
      reached = elim r.reached [
        | inl lt ↦ inl lt
        | inr both ↦ inr (both.0, inl (elim both.1 [ inl lt ↦ omega arith | inr inner ↦ (let pass : s.pass ≡ k = inner.0 in omega arith) ]))
      ];
    })
    (λ front s r. ((λ c. c), (λ c. c)))
    (λ s r. elim r.reached [
      | inl lt ↦ inl (record { numbered = r.numbered; reached = inl lt })
      | inr both ↦ elim both.1 [
        | inr inner ↦ let never : true ≡ false = inner.1 in absurd (cc)
        | inl most ↦ elim (cases_lt s.pass k) [
          | inl lt ↦ inl (record { numbered = r.numbered; reached = inr (both.0, inl lt) })
          | inr ge ↦
              let pass : s.pass ≡ k = omega arith in
              elim (cases_Bool (is_above h place s.pair)) [
                | inr low ↦ inl (record { numbered = r.numbered; reached = inr (both.0, inr (pass, low)) })
                | inl high ↦ inr (λ c.
                    let P : List Settled → Type 0 = λ z. Settles h ps (settled_before h s z) s in
                    none s.pair (still_open h ps settled [] n k place s d both.0 pass high (subst P (sym (append-nil settled)) c)))
              ]
        ]
      ]
    ])

-- The next pass does not begin: the settlement is whole.
pub run_ends : (h : List Entry) (ps : List Pair) (settled : List Settled) (n k : ℕ)
    → n ≡ length h → 0 < k → IsSettledTo h ps n k None settled → pass_begins h settled n k ≡ false
    → IsSettlement h ps settled
run_ends h ps settled n k last some d over =
    settlement_decided h ps settled (grow_out (precedes h) (precedes_strict h) (IsReached h n k None) (IsRanged (length h)) (Settles h ps) (Settles h ps) settled d
    (λ s r. record { run = elim r.reached [ inl lt ↦ omega arith | inr both ↦ (let e : s.run ≡ n = both.0 in omega arith) ]; numbered = r.numbered })
    (λ front s r. ((λ c. c), (λ c. c)))
    (λ s r. elim (cases_lt s.run n) [
      | inl lt ↦ inl (record { numbered = r.numbered; reached = inl lt })
      | inr ge ↦
          let most : s.run ≤ length h = r.run in
          let same : s.run ≡ n = omega arith in
          elim (cases_lt s.pass k) [
            | inl lt ↦ inl (record { numbered = r.numbered; reached = inr (same, inl lt) })
            | inr late ↦ inr (λ c. no_more s same late c.begun)
          ]
    ]))
  where
    all_below : (t : Settled) → In settled t → t.run ≡ n → t.pass < k
    all_below t i run = let r = d.within t i in elim r.reached [
      | inl lt ↦ absurd (omega arith)
      | inr both ↦ elim both.1 [ inl lt ↦ lt | inr inner ↦ (let never : true ≡ false = inner.1 in absurd (cc)) ]
    ]

    at_k : (pass : ℕ) → pass ≡ k → pass_begins h settled n pass ≡ true → ⊥
    at_k pass same e = let P : ℕ → Type 0 = λ z. pass_begins h settled n z ≡ true in both_ways _ over (subst P same e)

    begun_by : (run pass : ℕ) → run ≡ n → k ≤ pass → pass_begins h settled run pass ≡ true → ⊥
    begun_by run pass same late e = elim (begins_true h settled run pass e) [
      | inl first ↦ at_k pass (omega arith) (begins_first h settled n pass first)
      | inr f ↦
          let below = all_below f.member f.inside (f.run_is ∙ same) in
          let is : f.member.pass + 1 ≡ pass = f.pass_is in
          let P : ℕ → Type 0 = λ z. pass_begins h settled z pass ≡ true in
          at_k pass (omega arith) (subst P same e)
    ]

    no_more : (s : Settled) → s.run ≡ n → k ≤ s.pass → pass_begins h (settled_before h s settled) s.run s.pass ≡ true → ⊥
    no_more s same late e = begun_by s.run s.pass same late (begins_wider h (settled_before h s settled) settled s.run s.pass (λ t i. let both = In-filter (λ x. precedes h x s) settled t i in both.0) e)
