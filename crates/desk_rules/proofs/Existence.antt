-- Each history has a pairing and a settlement, and those of a front of it are their fronts.
use Rattle.std.proofs.Common.{◌≡◌, ◌≢◌, ℕ, zero, suc, ◌+◌, ◌<◌, ◌≤◌, ◌↔◌, ◌⊎◌, inl, inr, Bool, true, false, List, [], ◌∷◌, ◌++◌, Contains, filter, length, Option, Some, None, refl, sym, ap, subst, arith, append_assoc, append-nil, length-append}
use Rattle.std.specs.Prelude.{option_and_then, not, ◌==◌}
use Rattle.std.specs.List.{list_any}
use Rattle.std.proofs.lemmas.Bool.{cases_Bool, cases_eq, both_ways, false_from_ne_true, eqb-true, eq-eqb}
use Rattle.desk_rules.specs.declared.history.entry.Entry.{Entry}
use Rattle.desk_rules.specs.declared.history.entry.Entry.TheVariants.{Participant, Account, Security, Issue, Redeem, PayIn, PayOut, Instruct, Cancel, Run}
use Rattle.desk_rules.specs.declared.history.pair.Pair.{Pair}
use Rattle.desk_rules.specs.declared.history.pair.Settled.{Settled}
use Rattle.desk_rules.specs.declared.history.pair.Place.{Place}
use Rattle.desk_rules.specs.History.{Instructed, instructed, before, instruction_at, run_day}
use Rattle.desk_rules.specs.Pairing.{IsCandidate, IsPairing}
use Rattle.desk_rules.specs.Covered.{is_covered}
use Rattle.desk_rules.specs.Settlement.{is_sooner, precedes, settled_before, is_due, IsUnsettled, pass_begins, Settles, IsSettlement, place_of}
use Rattle.desk_rules.specs.Underway.{is_above}
use Rattle.desk_rules.specs.Underway.{IsOpen, IsNext}
use Rattle.desk_rules.proofs.Decided.{In, In-from_Contains, Contains-from_In, In-left, filter-In, Ordered, filter_yes, filter_no}
use Rattle.desk_rules.proofs.HistoryLemmas.{entry_at-end}
use Rattle.desk_rules.proofs.PairingLemmas.{pair_same, lower, pairing_alone, pairing_mated, one_pairing}
use Rattle.desk_rules.proofs.SettlementLemmas.{sooner_through, sooner_strict_never, begins_true, begins_first, begins_wider, one_number, ordered_pairs, one_settlement}
use Rattle.desk_rules.proofs.SideLemmas.{any-In, In-any}
use Rattle.desk_rules.proofs.SettlementGrowth.{same_pairs_push, settlement_alone, IsSettledTo, IsPlaceOf, run_begins, run_settles, run_leaves, pass_ends, run_ends, before_above, below_above, own_place, sooner_place}
use Rattle.desk_rules.proofs.Deciding.{Either, either_like, both, either_Bool, mate_or_none}

-- The next pair of a run, or none.

-- a settlement is of another pair, or of this one
either_other : (t : Settled) (p : Pair) → Either (t.pair ≢ p)
either_other t p = elim (cases_eq t.pair.earlier p.earlier) [
  | inr differs ↦ inl (λ e. differs (ap (λ x. x.earlier) e))
  | inl earlier ↦ elim (cases_eq t.pair.later p.later) [
    | inr differs ↦ inl (λ e. differs (ap (λ x. x.later) e))
    | inl later ↦ inr (λ f. f (pair_same t.pair p earlier later))
  ]
]

pub either_unsettled : (settled : List Settled) (p : Pair) → Either (IsUnsettled settled p)
either_unsettled settled p = either_like
    (λ f s c. f s (In-from_Contains settled s c))
    (λ f s i. f s (Contains-from_In settled s i))
    (each settled)
  where
    each : (ss : List Settled) → Either ((s : Settled) → In ss s → s.pair ≢ p)
    each [] = inl (λ s i. absurd i)
    each (t ∷ ss) = either_like
        (λ x s i. elim i [ inl e ↦ (let P : Settled → Type 0 = λ z. z.pair ≢ p in subst P e x.0) | inr j ↦ x.1 s j ])
        (λ f. (f t (inl refl), λ s i. f s (inr i)))
        (both (either_other t p) (each ss))

-- a pair of the list is open or not
either_open : (h : List Entry) (ps : List Pair) (settled : List Settled) (n : ℕ) (place : Option Place) (p : Pair) → In ps p → Either (IsOpen h ps settled n place p)
either_open h ps settled n place p i = either_like
    (λ x. record { paired = Contains-from_In ps p i; due = x.0; unsettled = x.1.0; above = x.1.1 })
    (λ o. (o.due, (o.unsettled, o.above)))
    (both (either_Bool (is_due h n p) true) (both (either_unsettled settled p) (either_Bool (is_above h place p) true)))

-- of some pairs of the list the least that is open, or none is
least_open : (h : List Entry) (ps : List Pair) (settled : List Settled) (n : ℕ) (place : Option Place) (qs : List Pair) → ((p : Pair) → In qs p → In ps p)
    → ((q : Pair) × IsOpen h ps settled n place q × ((p : Pair) → In qs p → IsOpen h ps settled n place p → is_sooner h p q ≡ false))
    ⊎ ((p : Pair) → In qs p → IsOpen h ps settled n place p → ⊥)
least_open h ps settled n place [] sub = inr (λ p i. absurd i)
least_open h ps settled n place (x ∷ qs) sub =
    let IsThis : Pair → Type 0 = λ p. IsOpen h ps settled n place p in
    elim (least_open h ps settled n place qs (λ p i. sub p (inr i))) [
      | inr none ↦ elim (either_open h ps settled n place x (sub x (inl refl))) [
        | inl o ↦ inl (
          x,
          o,
          λ p i po. elim i [
            | inl e ↦ (let P : Pair → Type 0 = λ z. is_sooner h z x ≡ false in subst P e (false_from_ne_true (is_sooner h x x) (sooner_strict_never h x)))
            | inr j ↦ absurd (none p j po)
          ],
        )
        | inr closed ↦ inr (λ p i po. elim i [ inl e ↦ closed (subst IsThis (sym e) po) | inr j ↦ none p j po ])
      ]
      | inl found ↦ elim (either_open h ps settled n place x (sub x (inl refl))) [
        | inr closed ↦ inl (found.0, found.1, λ p i po. elim i [ inl e ↦ absurd (closed (subst IsThis (sym e) po)) | inr j ↦ found.2 p j po ])
        | inl o ↦ elim (cases_Bool (is_sooner h x found.0)) [
          | inl less ↦ inl (
            x,
            o,
            λ p i po. elim i [
              | inl e ↦ (let P : Pair → Type 0 = λ z. is_sooner h z x ≡ false in subst P e (false_from_ne_true (is_sooner h x x) (sooner_strict_never h x)))
              | inr j ↦ false_from_ne_true (is_sooner h p x) (λ lt. both_ways (is_sooner h p found.0) (found.2 p j po) (sooner_through h p x found.0 lt less))
            ],
          )
          | inr more ↦ inl (
            found.0,
            found.1,
            λ p i po. elim i [
              | inl e ↦ (let P : Pair → Type 0 = λ z. is_sooner h z found.0 ≡ false in subst P e more)
              | inr j ↦ found.2 p j po
            ],
          )
        ]
      ]
    ]

pub next_or_none : (h : List Entry) (ps : List Pair) (settled : List Settled) (n : ℕ) (place : Option Place)
    → ((q : Pair) × IsNext h ps settled n place q) ⊎ ((p : Pair) → IsOpen h ps settled n place p → ⊥)
next_or_none h ps settled n place = elim (least_open h ps settled n place ps (λ p i. i)) [
  | inl found ↦ inl (found.0, record { is_open = found.1; least = λ p o. found.2 p (In-from_Contains ps p o.paired) o })
  | inr none ↦ inr (λ p o. none p (In-from_Contains ps p o.paired) o)
]

pub place_of-is : (h : List Entry) (q : Pair) → IsPlaceOf h (place_of h q) q
place_of-is h q = record { day = refl; number = refl }

-- With each pair that a run takes, fewer are above the place.

pub filter_most : {X : Type 0} (f g : X → Bool) (xs : List X) → ((x : X) → g x ≡ true → f x ≡ true) → length (filter g xs) ≤ length (filter f xs)
filter_most f g [] sub = omega arith
filter_most {X} f g (x ∷ xs) sub =
    let rest = filter_most f g xs sub in
    elim (cases_Bool (g x)) [
      | inl e ↦ (let a = filter_yes g x xs e in let b = filter_yes f x xs (sub x e) in rw (a, b) (omega arith))
      | inr e ↦ (let a = filter_no g x xs e in elim (cases_Bool (f x)) [ inl t ↦ (let b = filter_yes f x xs t in rw (a, b) (omega arith)) | inr t ↦ (let b = filter_no f x xs t in rw (a, b) rest) ])
    ]

pub filter_fewer : {X : Type 0} (f g : X → Bool) (xs : List X) (q : X) → ((x : X) → g x ≡ true → f x ≡ true) → In xs q → f q ≡ true → g q ≡ false → length (filter g xs) < length (filter f xs)
filter_fewer f g [] q sub i high low = absurd i
filter_fewer {X} f g (x ∷ xs) q sub (inl e) high low =
    let rest = filter_most f g xs sub in
    let P : X → Type 0 = λ z. g z ≡ false in
    let Q : X → Type 0 = λ z. f z ≡ true in
    let a = filter_no g x xs (subst P (sym e) low) in
    let b = filter_yes f x xs (subst Q (sym e) high) in
    rw (a, b) (omega arith)
filter_fewer {X} f g (x ∷ xs) q sub (inr i) high low =
    let rest = filter_fewer f g xs q sub i high low in
    elim (cases_Bool (g x)) [
      | inl e ↦ (let a = filter_yes g x xs e in let b = filter_yes f x xs (sub x e) in rw (a, b) (omega arith))
      | inr e ↦ (let a = filter_no g x xs e in elim (cases_Bool (f x)) [ inl t ↦ (let b = filter_yes f x xs t in rw (a, b) (omega arith)) | inr t ↦ (let b = filter_no f x xs t in rw (a, b) rest) ])
    ]

-- what is above the place of q is above the place that q is above
pub above_further : (h : List Entry) (place : Option Place) (next : Place) (p q : Pair) → IsPlaceOf h next q → is_above h place q ≡ true → is_above h (Some next) p ≡ true → is_above h place p ≡ true
above_further h place next p q at high above = elim (cases_Bool (is_above h place p)) [
  | inl e ↦ e
  | inr low ↦ absurd (both_ways (is_above h (Some next) p) (sooner_place h next p q at (below_above h place p q low high)) above)
]

pub fewer_above : (h : List Entry) (ps : List Pair) (place : Option Place) (next : Place) (q : Pair) → Contains ps q → IsPlaceOf h next q → is_above h place q ≡ true
    → length (filter (is_above h (Some next)) ps) < length (filter (is_above h place) ps)
fewer_above h ps place next q inside at high =
    filter_fewer (is_above h place) (is_above h (Some next)) ps q (λ p above. above_further h place next p q at high above) (In-from_Contains ps q inside) high (own_place h next q at)

-- What a pass settles from a place on.
pub record PassFrom (h : List Entry) (ps : List Pair) (settled : List Settled) (n k : ℕ) : Type 0 where
  pub more : List Settled
  pub is : IsSettledTo h ps n (k + 1) None (settled ++ more)

pass_exists : (h : List Entry) (ps : List Pair) → Ordered lower ps → (fuel n k : ℕ) (settled : List Settled) (place : Option Place)
    → length (filter (is_above h place) ps) < fuel → IsSettledTo h ps n k place settled → pass_begins h settled n k ≡ true
    → PassFrom h ps settled n k
pass_exists h ps o zero n k settled place room d begun = absurd (omega arith)
pass_exists h ps o (suc fuel) n k settled place room d begun =
    let P : List Settled → Type 0 = IsSettledTo h ps n (k + 1) None in
    elim (next_or_none h ps settled n place) [
      | inr none ↦ record { more = []; is = subst P (sym (append-nil settled)) (pass_ends h ps settled n k place d none) }
      | inl found ↦
          let q = found.0 in
          let next = place_of h q in
          let new : Settled = record { run = n; pass = k; pair = q } in
          let open_ = found.1.is_open in
          let fewer = fewer_above h ps place next q open_.paired (place_of-is h q) open_.above in
          elim (cases_Bool (is_covered (before n h) settled q)) [
            | inl covered ↦
                let rest = pass_exists h ps o fuel n k (settled ++ new ∷ []) (Some next) (omega arith) (run_settles h ps settled n k place q next o d begun found.1 (place_of-is h q) covered)
                (begins_wider h settled (settled ++ new ∷ []) n k (λ s i. In-left settled (new ∷ []) s i) begun) in
                record { more = new ∷ rest.more; is = subst P (append_assoc settled (new ∷ []) rest.more) rest.is }
            | inr short ↦ pass_exists h ps o fuel n k settled (Some next) (omega arith) (run_leaves h ps settled n k place q next o d found.1 (place_of-is h q) short) begun
          ]
    ]

-- With each pass that settles some pair, fewer are left.

abbrev pub is_left : List Settled → Pair → Bool
is_left settled p = not (list_any (λ t. t.pair.later == p.later) settled)

left_yes : (settled : List Settled) (p : Pair) → ((t : Settled) → In settled t → t.pair.later ≡ p.later → ⊥) → is_left settled p ≡ true
left_yes settled p none = elim (cases_Bool (list_any (λ t. t.pair.later == p.later) settled)) [
  | inr e ↦ ap not e
  | inl e ↦ let found = In-any (λ t. t.pair.later == p.later) settled e in absurd (none found.0 found.1 (eqb-true found.0.pair.later p.later found.2))
]

left_no : (settled : List Settled) (t : Settled) → In settled t → is_left settled t.pair ≡ false
left_no settled t i = ap not (any-In (λ u. u.pair.later == t.pair.later) settled t i (eq-eqb t.pair.later t.pair.later refl))

pub left_narrower : (settled more : List Settled) (p : Pair) → is_left (settled ++ more) p ≡ true → is_left settled p ≡ true
left_narrower settled more p e = left_yes settled p (λ t i same.
    let P : Bool → Type 0 = λ b. b ≡ true in
    let no : is_left (settled ++ more) p ≡ false = ap not (any-In (λ u. u.pair.later == p.later) (settled ++ more) t (In-left settled more t i) (eq-eqb t.pair.later p.later same)) in
    both_ways _ no e)

-- where a further pass begins, the pass before it leaves fewer
pub fewer_left : (h : List Entry) (ps : List Pair) → Ordered lower ps → (settled more : List Settled) (n k : ℕ) → 0 < k
    → IsSettledTo h ps n k None settled → IsSettledTo h ps n (k + 1) None (settled ++ more) → pass_begins h (settled ++ more) n (k + 1) ≡ true
    → length (filter (is_left (settled ++ more)) ps) < length (filter (is_left settled) ps)
fewer_left h ps o settled more n k some d e begun = elim (begins_true h (settled ++ more) n (k + 1) begun) [
  | inl first ↦ absurd (omega arith)
  | inr f ↦
      let t = f.member in
      let run : t.run ≡ n = f.run_is in
      let pass : t.pass + 1 ≡ k + 1 = f.pass_is in
      let c : Settles h ps (settled_before h t (settled ++ more)) t = (e.exact t (e.within t f.inside)).0 f.inside in
      let inside = In-from_Contains ps t.pair c.paired in
      filter_fewer (is_left settled) (is_left (settled ++ more)) ps t.pair (λ p left. left_narrower settled more p left) inside
      (left_yes settled t.pair (λ u i same.
      let r = d.within u i in
      let cu = (d.exact u r).0 i in
      let pair : u.pair ≡ t.pair = one_number ps o u.pair t.pair (In-from_Contains ps u.pair cu.paired) inside same in
      let first = before_above h n k None u t r run (omega arith) refl in
      let there = filter-In (λ x. precedes h x t) (settled ++ more) u (In-left settled more u i) first in
      c.unsettled u (Contains-from_In (settled_before h t (settled ++ more)) u there) pair))
      (left_no (settled ++ more) t f.inside)
]

joined : (h : List Entry) (ps : List Pair) (settled more rest : List Settled) → IsSettlement h ps (settled ++ more ++ rest) → IsSettlement h ps (settled ++ (more ++ rest))
joined h ps settled more rest is = let P : List Settled → Type 0 = IsSettlement h ps in subst P (append_assoc settled more rest) is

-- A run from the begin of a pass on.
run_exists : (h : List Entry) (ps : List Pair) → Ordered lower ps → (fuel k : ℕ) (settled : List Settled)
    → length (filter (is_left settled) ps) < fuel → 0 < k → IsSettledTo h ps (length h) k None settled → pass_begins h settled (length h) k ≡ true
    → (more : List Settled) × IsSettlement h ps (settled ++ more)
run_exists h ps o zero k settled room some d begun = absurd (omega arith)
run_exists h ps o (suc fuel) k settled room some d begun =
    let this = pass_exists h ps o (length (filter (is_above h None) ps) + 1) (length h) k settled None (omega arith) d begun in
    elim (cases_Bool (pass_begins h (settled ++ this.more) (length h) (k + 1))) [
      | inr over ↦ (this.more, run_ends h ps (settled ++ this.more) (length h) (k + 1) refl (omega arith) this.is over)
      | inl again ↦
          let fewer = fewer_left h ps o settled this.more (length h) k some d this.is again in
          let rest = run_exists h ps o fuel (k + 1) (settled ++ this.more) (omega arith) (omega arith) this.is again in
          (this.more ++ rest.0, joined h ps settled this.more rest.0 rest.1)
    ]

-- A history with its pairing and its settlement.
pub record HasBooks (h : List Entry) (ps : List Pair) (settled : List Settled) : Type 0 where
  pub pairing : IsPairing h ps
  pub settlement : IsSettlement h ps settled

-- the books of a longer history, which begin as those of the shorter one
pub record GrowsTo (h : List Entry) (ps : List Pair) (settled : List Settled) : Type 0 where
  pub more_pairs : List Pair
  pub more_settled : List Settled
  pub books : HasBooks h (ps ++ more_pairs) (settled ++ more_settled)

run_instructs : (e : Entry) (day : ℕ) (i : Instructed) → run_day e ≡ Some day → instructed e ≡ Some i → ⊥
run_instructs (Participant reference bic) day i r s = cc
run_instructs (Account reference bic account) day i r s = cc
run_instructs (Security reference isin kind) day i r s = cc
run_instructs (Issue movement) day i r s = cc
run_instructs (Redeem movement) day i r s = cc
run_instructs (PayIn payment) day i r s = cc
run_instructs (PayOut payment) day i r s = cc
run_instructs (Instruct sender instruction) day i r s = cc
run_instructs (Cancel sender order) day i r s = cc
run_instructs (Run reference date rule) day i r s = cc

cases_day : (o : Option ℕ) → (o ≡ None) ⊎ ((day : ℕ) × (o ≡ Some day))
cases_day None = inl refl
cases_day (Some day) = inr (day, refl)

-- a run has no candidate
pub run_unpaired : (h : List Entry) (e : Entry) (ps : List Pair) (day k : ℕ) → run_day e ≡ Some day → IsCandidate (h ++ e ∷ []) ps (length h + 1) k → ⊥
run_unpaired h e ps day k is c =
    let P : Option Entry → Type 0 = λ o. option_and_then instructed o ≡ Some c.opposite.second in
    run_instructs e day c.opposite.second is (subst P (entry_at-end h e (length h + 1) refl) c.opposite.is_second)

entry_books : (h : List Entry) (e : Entry) (ps : List Pair) (settled : List Settled) → HasBooks h ps settled → GrowsTo (h ++ e ∷ []) ps settled
entry_books h e ps settled is =
    let g = h ++ e ∷ [] in
    let P : List Pair → Type 0 = λ z. IsPairing g z in
    let Q : List Settled → Type 0 = λ z. IsSettlement g (ps ++ []) z in
    elim (cases_day (run_day e)) [
      | inl none ↦ elim (mate_or_none g ps (length h + 1)) [
        | inr alone ↦ record {
          more_pairs = [];
          more_settled = [];
          books = record {
            pairing = subst P (sym (append-nil ps)) (pairing_alone h e ps is.pairing alone);
            settlement = subst Q (sym (append-nil settled)) (settlement_alone h e ps (ps ++ []) settled (λ p le. (let R : List Pair → Type 0 = λ z. Contains ps p ↔ Contains z p in subst R (sym (append-nil ps)) ((λ c. c), (λ c. c)))) none is.settlement);
          };
        }
        | inl found ↦
            let p : Pair = record { earlier = found.0; later = length h + 1 } in
            let S : List Settled → Type 0 = λ z. IsSettlement g (ps ++ p ∷ []) z in
            record {
              more_pairs = p ∷ [];
              more_settled = [];
              books = record {
                pairing = pairing_mated h e ps p is.pairing refl found.1;
                settlement = subst S (sym (append-nil settled)) (settlement_alone h e ps (ps ++ p ∷ []) settled (same_pairs_push (length h) ps p (omega arith)) none is.settlement);
              };
            }
      ]
      | inr run ↦
          let pairing : IsPairing g ps = pairing_alone h e ps is.pairing (λ k c. run_unpaired h e ps run.0 k run.1 c) in
          let last : length h + 1 ≡ length g = sym (length-append h (e ∷ [])) in
          let T : ℕ → Type 0 = λ n. IsSettledTo g ps n 1 None settled in
          let rest = run_exists g ps (ordered_pairs g ps pairing) (length (filter (is_left settled) ps) + 1) 1 settled (omega arith) (omega arith) (subst T last (run_begins h e ps settled is.settlement)) (begins_first g settled (length g) 1 refl) in
          let U : List Pair → Type 0 = λ z. IsSettlement g z (settled ++ rest.0) in
          record {
            more_pairs = [];
            more_settled = rest.0;
            books = record {
              pairing = subst P (sym (append-nil ps)) pairing;
              settlement = subst U (sym (append-nil ps)) rest.1;
            };
          }
    ]

pub same_books : (h g : List Entry) (ps qs : List Pair) (ss ts : List Settled) → h ≡ g → ps ≡ qs → ss ≡ ts → HasBooks h ps ss → HasBooks g qs ts
same_books h g ps qs ss ts a b c is =
    let P : List Entry → Type 0 = λ z. HasBooks z ps ss in
    let Q : List Pair → Type 0 = λ z. HasBooks g z ss in
    let R : List Settled → Type 0 = λ z. HasBooks g qs z in
    subst R c (subst Q b (subst P a is))

-- one entry, and then the rest
grows_on : (h g : List Entry) (e : Entry) (ps : List Pair) (settled : List Settled) (one : GrowsTo (h ++ e ∷ []) ps settled) → GrowsTo (h ++ e ∷ [] ++ g) (ps ++ one.more_pairs) (settled ++ one.more_settled) → GrowsTo (h ++ e ∷ g) ps settled
grows_on h g e ps settled one all = record {
  more_pairs = one.more_pairs ++ all.more_pairs;
  more_settled = one.more_settled ++ all.more_settled;
  books = same_books (h ++ e ∷ [] ++ g) (h ++ e ∷ g) (ps ++ one.more_pairs ++ all.more_pairs) (ps ++ (one.more_pairs ++ all.more_pairs)) (settled ++ one.more_settled ++ all.more_settled) (settled ++ (one.more_settled ++ all.more_settled))
      (append_assoc h (e ∷ []) g) (append_assoc ps one.more_pairs all.more_pairs) (append_assoc settled one.more_settled all.more_settled) all.books;
}

grows_not : (h : List Entry) (ps : List Pair) (settled : List Settled) → HasBooks h ps settled → GrowsTo (h ++ []) ps settled
grows_not h ps settled is = record {
  more_pairs = [];
  more_settled = [];
  books = same_books h (h ++ []) ps (ps ++ []) settled (settled ++ []) (sym (append-nil h)) (sym (append-nil ps)) (sym (append-nil settled)) is;
}

books_grow : (h g : List Entry) (ps : List Pair) (settled : List Settled) → HasBooks h ps settled → GrowsTo (h ++ g) ps settled
books_grow h [] ps settled is = grows_not h ps settled is
books_grow h (e ∷ g) ps settled is =
    let one = entry_books h e ps settled is in
    grows_on h g e ps settled one (books_grow (h ++ e ∷ []) g (ps ++ one.more_pairs) (settled ++ one.more_settled) one.books)

-- the empty history
pub no_books : HasBooks [] [] []
no_books = record {
  pairing = record {
    exact = λ p. ((λ c. absurd (In-from_Contains [] p c)), (λ m. let k = known m.candidate.opposite.second p.later m.candidate.opposite.is_second in absurd k));
    rising = λ i j d a b. absurd (omega arith);
  };
  settlement = record {
    exact = λ s. ((λ c. absurd (In-from_Contains [] s c)), (λ c. absurd (In-from_Contains [] s.pair c.paired)));
    in_order = λ i j d a b. absurd (omega arith);
  };
}
  where
    known : (i : Instructed) (n : ℕ) → instruction_at [] n ≡ Some i → ⊥
    known i zero e = cc
    known i (suc n) e = cc

pub books_exist : (h : List Entry) → (ps : List Pair) × (settled : List Settled) × HasBooks h ps settled
books_exist h = let all = books_grow [] h [] [] no_books in (all.more_pairs, all.more_settled, all.books)

-- The pairing and the settlement of a front.
pub books_front : (h g : List Entry) (ps qs : List Pair) (ss ts : List Settled) → HasBooks h ps ss → HasBooks (h ++ g) qs ts
    → (more_pairs : List Pair) × (more_settled : List Settled) × (qs ≡ ps ++ more_pairs) × (ts ≡ ss ++ more_settled)
books_front h g ps qs ss ts is longer =
    let all = books_grow h g ps ss is in
    let pairs : qs ≡ ps ++ all.more_pairs = one_pairing (h ++ g) qs (ps ++ all.more_pairs) longer.pairing all.books.pairing in
    let P : List Pair → Type 0 = λ z. IsSettlement (h ++ g) z ts in
    let settled : ts ≡ ss ++ all.more_settled = one_settlement (h ++ g) (ps ++ all.more_pairs) ts (ss ++ all.more_settled) (ordered_pairs (h ++ g) (ps ++ all.more_pairs) all.books.pairing) (subst P pairs longer.settlement) all.books.settlement in
    (all.more_pairs, all.more_settled, pairs, settled)
