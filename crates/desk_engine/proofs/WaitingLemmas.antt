-- How many pairs a run settles, and how many that were due in it are left.
use Rattle.std.proofs.Common.{◌≡◌, ◌≢◌, inl, inr, ℕ, ◌+◌, ◌<◌, ◌≤◌, ◌==◌, Bool, true, false, not, ◌&&◌, ◌||◌, List, [], ◌∷◌, ◌++◌, length, filter, count_by, Contains, Option, Some, None, refl, ap, sym, ◌∙◌, subst, arith, append-nil, append_assoc}
use Rattle.std.specs.List.{list_any}
use Rattle.std.proofs.lemmas.Bool.{cases_Bool, both_ways, ne_eqb, eqb-true, eq-eqb, and_parts, and_from, not-true, false_from_ne_true, cases_eq, ltb-true}
use Rattle.std.proofs.lemmas.List.Elements.{filter-append}
use Rattle.std.proofs.lemmas.List.Folds.{list_any-append}
use Rattle.std.proofs.lemmas.List.Sums.{count_by-le-length, length-filter}
use Rattle.desk_rules.specs.declared.history.entry.Entry.{Entry}
use Rattle.desk_rules.specs.declared.history.pair.Pair.{Pair}
use Rattle.desk_rules.specs.declared.history.pair.Place.{Place}
use Rattle.desk_rules.specs.declared.history.pair.Settled.{Settled}
use Rattle.desk_rules.specs.Books.{Books, AreBooks}
use Rattle.desk_rules.specs.Settlement.{is_due, precedes, IsSettlement}
use Rattle.desk_rules.specs.Underway.{is_above}
use Rattle.desk_rules.specs.Underway.{IsOpen, IsNext}
use Rattle.desk_rules.specs.Reply.{same_pair, is_settled_pair}
use Rattle.desk_rules.proofs.Decided.{In, In-from_Contains, In-push_cases, Contains-from_In, In-right, Ordered, Ordered-from_AllPairs, filter_yes, filter_no, filter-none, filter-same}
use Rattle.desk_rules.proofs.PairingLemmas.{pair_same, lower}
use Rattle.desk_rules.proofs.SideLemmas.{any-In, In-any}
use Rattle.desk_rules.proofs.SettlementLemmas.{one_number, ordered_pairs, precedes_strict}
use Rattle.desk_rules.proofs.PairingLaws.{settled_once}
use Rattle.desk_rules.proofs.SettlementGrowth.{IsPlaceOf, below_above, at_place, own_place, sooner_place}

-- Counts by two tests.

-- tests that agree on the members count the same
pub count_same : {X : Type 0} (f g : X → Bool) (xs : List X) → ((x : X) → In xs x → f x ≡ g x) → count_by f xs ≡ count_by g xs
count_same f g xs same = sym (length-filter f xs) ∙ ap length (filter-same f g xs same) ∙ length-filter g xs

-- tests that agree on all pairs but one, which stands once
filter_one_more : (f g : Pair → Bool) (ps : List Pair) (q : Pair) → Ordered lower ps → In ps q → ((p : Pair) → In ps p → (p.later ≡ q.later → ⊥) → f p ≡ g p) → f q ≡ false → g q ≡ true
    → length (filter g ps) ≡ length (filter f ps) + 1
filter_one_more f g [] q o i same was now = absurd i
filter_one_more f g (x ∷ ps) q o (inl e) same was now =
    let is_out : f x ≡ false = ap f e ∙ was in
    let is_in : g x ≡ true = ap g e ∙ now in
    let rest = filter-same f g ps (λ p i. same p (inr i) (λ number. (let lt = ltb-true x.later p.later (o.0 p i) in let this : x.later ≡ q.later = ap (λ (z : Pair). z.later) e in omega arith))) in
    let a = filter_no f x ps is_out in
    let b = filter_yes g x ps is_in in
    let c : length (filter f ps) ≡ length (filter g ps) = ap length rest in
    rw (a, b) (omega arith)
filter_one_more f g (x ∷ ps) q o (inr i) same was now =
    let rest = filter_one_more f g ps q o.1 i (λ p j. same p (inr j)) was now in
    let lt = ltb-true x.later q.later (o.0 q i) in
    let here : f x ≡ g x = same x (inl refl) (λ number. omega arith) in
    elim (cases_Bool (g x)) [
      | inl is_in ↦ (let a = filter_yes f x ps (here ∙ is_in) in let b = filter_yes g x ps is_in in rw (a, b) (omega arith))
      | inr is_out ↦ (let a = filter_no f x ps (here ∙ is_out) in let b = filter_no g x ps is_out in rw (a, b) rest)
    ]

pub count_one_more : (f g : Pair → Bool) (ps : List Pair) (q : Pair) → Ordered lower ps → In ps q → ((p : Pair) → In ps p → (p.later ≡ q.later → ⊥) → f p ≡ g p) → f q ≡ false → g q ≡ true
    → count_by g ps ≡ count_by f ps + 1
count_one_more f g ps q o i same was now =
    let more = filter_one_more f g ps q o i same was now in
    let a = length-filter f ps in
    let b = length-filter g ps in
    omega arith

-- tests that agree on the others, and on that one as well
all_same : (f g : Pair → Bool) (ps : List Pair) (q : Pair) → ((p : Pair) → In ps p → (p.later ≡ q.later → ⊥) → f p ≡ g p) → ((p : Pair) → In ps p → p.later ≡ q.later → f p ≡ g p)
    → count_by f ps ≡ count_by g ps
all_same f g ps q others this = count_same f g ps (λ p i. elim (cases_eq p.later q.later) [ inl is ↦ this p i is | inr other ↦ others p i other ])

-- What a run settles.

pub count_of_run : (n : ℕ) (earlier more : List Settled) → ((s : Settled) → In earlier s → s.run < n) → ((s : Settled) → In more s → s.run ≡ n) → count_by (λ (s : Settled). s.run == n) (earlier ++ more) ≡ length more
count_of_run n earlier more old new =
    let f : Settled → Bool = λ s. s.run == n in
    let none : filter f earlier ≡ [] = filter-none f earlier (λ s i. ne_eqb s.run n (λ (e : s.run ≡ n). (let lt = old s i in omega arith))) in
    let all : filter f more ≡ more = filter-all f more (λ s i. eq-eqb s.run n (new s i)) in
    sym (length-filter f (earlier ++ more)) ∙ ap length (filter-append f earlier more ∙ ap (λ z. z ++ filter f more) none ∙ all)
  where
    filter-all : (f : Settled → Bool) (ss : List Settled) → ((s : Settled) → In ss s → f s ≡ true) → filter f ss ≡ ss
    filter-all f [] pass = refl
    filter-all f (s ∷ ss) pass = rw (pass s (inl refl)) (ap (λ z. s ∷ z) (filter-all f ss (λ t i. pass t (inr i))))

-- Pairs that are settled.

pub settled_pair_in : (settled : List Settled) (p : Pair) → is_settled_pair settled p ≡ true → (s : Settled) × Contains settled s × (s.pair ≡ p)
settled_pair_in settled p e =
    let found = In-any (λ s. same_pair s.pair p) settled e in
    let parts = and_parts (found.0.pair.earlier == p.earlier) (found.0.pair.later == p.later) found.2 in
    (found.0, Contains-from_In settled found.0 found.1, pair_same found.0.pair p (eqb-true _ _ parts.0) (eqb-true _ _ parts.1))

pub in_settled_pair : (settled : List Settled) (s : Settled) → In settled s → is_settled_pair settled s.pair ≡ true
in_settled_pair settled s i = any-In (λ t. same_pair t.pair s.pair) settled s i (and_from _ _ (eq-eqb s.pair.earlier s.pair.earlier refl) (eq-eqb s.pair.later s.pair.later refl))

pub unsettled_pair : (settled : List Settled) (p : Pair) → ((s : Settled) → Contains settled s → s.pair ≢ p) → is_settled_pair settled p ≡ false
unsettled_pair settled p none = false_from_ne_true (is_settled_pair settled p) (λ e. (let found = settled_pair_in settled p e in none found.0 found.1 found.2))

or_none : (b : Bool) → (b || (false || false)) ≡ b
or_none true = refl
or_none false = refl

-- a further settlement leaves the other pairs as they were
pub settled_pair_on : (settled : List Settled) (t : Settled) (p : Pair) → (p.later ≡ t.pair.later → ⊥) → is_settled_pair (settled ++ t ∷ []) p ≡ is_settled_pair settled p
settled_pair_on settled t p other =
    let f : Settled → Bool = λ s. same_pair s.pair p in
    let differs : f t ≡ false = false_from_ne_true (f t) (λ e. (let parts = and_parts (t.pair.earlier == p.earlier) (t.pair.later == p.later) e in other (sym (eqb-true _ _ parts.1)))) in
    list_any-append f settled (t ∷ []) ∙ ap (λ b. list_any f settled || (b || false)) differs ∙ or_none (list_any f settled)

-- Pairs that a run has tried and left.

-- the pair is due in the run, not settled, and not above the place
abbrev pub is_left : List Entry → ℕ → Option Place → List Settled → Pair → Bool
is_left g n place settled p = (is_due g n p && not (is_settled_pair settled p)) && not (is_above g place p)

abbrev pub left_count : List Entry → ℕ → Option Place → List Settled → List Pair → ℕ
left_count g n place settled ps = count_by (is_left g n place settled) ps

and_low : (b c : Bool) → c ≡ true → (b && not c) ≡ false
and_low true c e = rw e refl
and_low false c e = refl

and_high : (b c : Bool) → c ≡ false → (b && not c) ≡ b
and_high true c e = rw e refl
and_high false c e = refl

and_unless : (b c : Bool) → (b ≡ true → c ≡ true → ⊥) → (b && not c) ≡ b
and_unless true true never = absurd (never refl refl)
and_unless true false never = refl
and_unless false c never = refl

-- at first there is none
pub none_left : (g : List Entry) (n : ℕ) (settled : List Settled) (ps : List Pair) → left_count g n None settled ps ≡ 0
none_left g n settled ps =
    sym (length-filter (is_left g n None settled) ps) ∙ ap length (filter-none (is_left g n None settled) ps (λ p i. and_low (is_due g n p && not (is_settled_pair settled p)) true refl))

-- a pair that is due and not settled, above the place, is open
open_pair : (g : List Entry) (n : ℕ) (place : Option Place) (settled : List Settled) (ps : List Pair) (p : Pair) → In ps p → (is_due g n p && not (is_settled_pair settled p)) ≡ true → is_above g place p ≡ true → IsOpen g ps settled n place p
open_pair g n place settled ps p i waits above =
    let parts = and_parts (is_due g n p) (not (is_settled_pair settled p)) waits in
    record {
      paired = Contains-from_In ps p i;
      due = parts.0;
      unsettled = λ s c e. (let P : Pair → Type 0 = λ z. is_settled_pair settled z ≡ true in both_ways _ (not-true _ parts.1) (subst P e (in_settled_pair settled s (In-from_Contains settled s c))));
      above = above;
    }

-- at the end they are all that were due and are not settled
pub all_left : (g : List Entry) (n : ℕ) (place : Option Place) (settled : List Settled) (ps : List Pair) → ((p : Pair) → IsOpen g ps settled n place p → ⊥)
    → left_count g n place settled ps ≡ count_by (λ p. is_due g n p && not (is_settled_pair settled p)) ps
all_left g n place settled ps none = count_same (is_left g n place settled) (λ p. is_due g n p && not (is_settled_pair settled p)) ps
    (λ p i. and_unless (is_due g n p && not (is_settled_pair settled p)) (is_above g place p) (λ waits above. none p (open_pair g n place settled ps p i waits above)))

module _ (g : List Entry) (n : ℕ) (place : Option Place) (settled : List Settled) (ps : List Pair) (q : Pair) (next : Place)
    (o : Ordered lower ps) (is : IsNext g ps settled n place q) (at : IsPlaceOf g next q) (unsettled : (s : Settled) → Contains settled s → s.pair ≢ q) where
  -- no other pair comes to be left
  left_on : (p : Pair) → In ps p → (p.later ≡ q.later → ⊥) → is_left g n place settled p ≡ is_left g n (Some next) settled p
  left_on p i other =
      let waits : Bool = is_due g n p && not (is_settled_pair settled p) in
      elim (cases_Bool (is_above g place p)) [
        | inr low ↦ and_high waits (is_above g place p) low ∙ sym (and_high waits (is_above g (Some next) p) (sooner_place g next p q at (below_above g place p q low is.is_open.above)))
        | inl above ↦ elim (cases_Bool (is_above g (Some next) p)) [
          | inl further ↦ and_low waits (is_above g place p) above ∙ sym (and_low waits (is_above g (Some next) p) further)
          | inr low ↦
              let not_waits : waits ≡ false = false_from_ne_true waits (λ e. elim (at_place g next p q at low) [
                | inl sooner ↦ both_ways _ (is.least p (open_pair g n place settled ps p i e above)) sooner
                | inr same ↦ other same
              ]) in
              and_low waits (is_above g place p) above ∙ sym not_waits ∙ sym (and_high waits (is_above g (Some next) p) low)
        ]
      ]

  -- the pair itself was not
  left_not_yet : is_left g n place settled q ≡ false
  left_not_yet = and_low (is_due g n q && not (is_settled_pair settled q)) (is_above g place q) is.is_open.above

  -- the pair lacks, and is left
  pub left_lacks : left_count g n (Some next) settled ps ≡ left_count g n place settled ps + 1
  left_lacks = count_one_more (is_left g n place settled) (is_left g n (Some next) settled) ps q o (In-from_Contains ps q is.is_open.paired) left_on left_not_yet
      (and_high (is_due g n q && not (is_settled_pair settled q)) (is_above g (Some next) q) (own_place g next q at)
      ∙ and_high (is_due g n q) (is_settled_pair settled q) (unsettled_pair settled q unsettled) ∙ is.is_open.due)

  -- the pair settles, and is not
  pub left_settled : (pass : ℕ) → left_count g n (Some next) (settled ++ record { run = n; pass = pass; pair = q } ∷ []) ps ≡ left_count g n place settled ps
  left_settled pass =
      let t : Settled = record { run = n; pass = pass; pair = q } in
      let on : List Settled = settled ++ t ∷ [] in
      sym (all_same (is_left g n place settled) (is_left g n (Some next) on) ps q
      (λ p i other. left_on p i other ∙ ap (λ b. (is_due g n p && not b) && not (is_above g (Some next) p)) (sym (settled_pair_on settled t p other)))
      (λ p i number.
      let same : p ≡ q = one_number ps o p q i (In-from_Contains ps q is.is_open.paired) number in
      let P : Pair → Type 0 = λ z. is_left g n place settled z ≡ is_left g n (Some next) on z in
      let now : is_left g n (Some next) on q ≡ false =
      ap (λ b. b && not (is_above g (Some next) q)) (and_low (is_due g n q) (is_settled_pair on q) (in_settled_pair on t (In-right settled (t ∷ []) t (inl refl)))) in
      subst P (sym same) (left_not_yet ∙ sym now)))

-- one pair more settles: one less is unsettled
pub unsettled_fewer : (ps : List Pair) (settled : List Settled) (t : Settled) → Ordered lower ps → In ps t.pair → ((s : Settled) → Contains settled s → s.pair ≢ t.pair)
    → count_by (λ p. not (is_settled_pair settled p)) ps ≡ count_by (λ p. not (is_settled_pair (settled ++ t ∷ []) p)) ps + 1
unsettled_fewer ps settled t o i none =
    count_one_more (λ p. not (is_settled_pair (settled ++ t ∷ []) p)) (λ p. not (is_settled_pair settled p)) ps t.pair o i
    (λ p j other. ap not (settled_pair_on settled t p other))
    (ap not (in_settled_pair (settled ++ t ∷ []) t (In-right settled (t ∷ []) t (inl refl))))
    (ap not (unsettled_pair settled t.pair none))

-- one pair more settles that a test holds of: it holds of one less that is unsettled
pub due_fewer : (b : Pair → Bool) (ps : List Pair) (settled : List Settled) (t : Settled) → Ordered lower ps → In ps t.pair → ((s : Settled) → Contains settled s → s.pair ≢ t.pair) → b t.pair ≡ true
    → count_by (λ p. b p && not (is_settled_pair settled p)) ps ≡ 1 + count_by (λ p. b p && not (is_settled_pair (settled ++ t ∷ []) p)) ps
due_fewer b ps settled t o i none due =
    let more = count_one_more (λ p. b p && not (is_settled_pair (settled ++ t ∷ []) p)) (λ p. b p && not (is_settled_pair settled p)) ps t.pair o i
    (λ p j other. ap (λ z. b p && not z) (settled_pair_on settled t p other))
    (and_low (b t.pair) (is_settled_pair (settled ++ t ∷ []) t.pair) (in_settled_pair (settled ++ t ∷ []) t (In-right settled (t ∷ []) t (inl refl))))
    (and_high (b t.pair) (is_settled_pair settled t.pair) (unsettled_pair settled t.pair none) ∙ due) in
    omega arith

-- no two of these are of one pair
abbrev AreApart : List Settled → Type 0
AreApart [] = Unit {0}
AreApart (s ∷ ss) = ((t : Settled) → In ss t → s.pair ≢ t.pair) × AreApart ss

left_after : (ps : List Pair) (done rest : List Settled) → Ordered lower ps → ((s : Settled) → In rest s → In ps s.pair) → ((s t : Settled) → In done s → In rest t → s.pair ≢ t.pair) → AreApart rest
    → count_by (λ p. not (is_settled_pair done p)) ps ≡ count_by (λ p. not (is_settled_pair (done ++ rest) p)) ps + length rest
left_after ps done [] o inside fresh apart =
    let none : done ++ [] ≡ done = append-nil done in
    let same = ap (λ z. count_by (λ p. not (is_settled_pair z p)) ps) none in
    omega (arith, same)
left_after ps done (t ∷ rest) o inside fresh apart =
    let one = unsettled_fewer ps done t o (inside t (inl refl)) (λ s c. fresh s t (In-from_Contains done s c) (inl refl)) in
    let others = left_after ps (done ++ t ∷ []) rest o (λ s i. inside s (inr i))
    (λ s u i j. elim (In-push_cases done t s i) [ inl old ↦ fresh s u old (inr j) | inr is ↦ (let first = apart.0 u j in λ same. first (ap (λ (z : Settled). z.pair) is ∙ same)) ]) apart.1 in
    let joined : (done ++ t ∷ []) ++ rest ≡ done ++ t ∷ rest = append_assoc done (t ∷ []) rest in
    let same = ap (λ z. count_by (λ p. not (is_settled_pair z p)) ps) joined in
    omega (arith, one, others, same)

apart_of : (h : List Entry) (ps : List Pair) (settled ss : List Settled) → IsSettlement h ps settled → ((s : Settled) → In ss s → Contains settled s) → Ordered (precedes h) ss → AreApart ss
apart_of h ps settled [] is inside order = tt
apart_of h ps settled (s ∷ ss) is inside order = (
  λ t i same.
      let one : s ≡ t = settled_once h ps settled s t is (inside s (inl refl)) (inside t (inr i)) same in
      let P : Settled → Type 0 = λ z. precedes h s z ≡ true in
      (precedes_strict h).never s (subst P (sym one) (order.0 t i)),
  apart_of h ps settled ss is (λ t i. inside t (inr i)) order.1,
)

-- the pairs that are settled and those that are not are no more than all
pub settled_and_left : (books : Books) → AreBooks books → length books.settled + count_by (λ p. not (is_settled_pair books.settled p)) books.pairs ≤ length books.pairs
settled_and_left books are =
    let order = Ordered-from_AllPairs (precedes books.history) books.settled are.settlement.in_order in
    let apart = apart_of books.history books.pairs books.settled books.settled are.settlement (λ s i. Contains-from_In books.settled s i) order in
    let all = left_after books.pairs [] books.settled (ordered_pairs books.history books.pairs are.pairing)
    (λ s i. let m = (are.settlement.exact s).0 (Contains-from_In books.settled s i) in In-from_Contains books.pairs s.pair m.paired) (λ s t none i. absurd none) apart in
    let most = count_by-le-length (λ (p : Pair). not (is_settled_pair [] p)) books.pairs in
    omega (arith, all, most)
