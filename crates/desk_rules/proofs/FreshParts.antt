-- What a longer history adds to the pairs and the settlements of its front is of later numbers.
use Rattle.std.proofs.Common.{◌≡◌, ◌<◌, Bool, true, List, [], ◌∷◌, ◌++◌, length, filter, refl, sym, ◌∙◌, ap, subst, arith, inl, inr}
use Rattle.std.proofs.lemmas.Bool.{cases_lt, ltb-true}
use Rattle.std.proofs.lemmas.List.{append-nil}
use Rattle.desk_rules.specs.declared.history.entry.Entry.{Entry}
use Rattle.desk_rules.specs.declared.history.pair.Pair.{Pair}
use Rattle.desk_rules.specs.declared.history.pair.Settled.{Settled}
use Rattle.desk_rules.specs.Pairing.{IsPairing, IsMate}
use Rattle.desk_rules.specs.Settlement.{IsSettlement, Settles, precedes}
use Rattle.desk_rules.proofs.Decided.{In, In-from_Contains, Contains-from_In, In-left, In-right, In-cases, filter-front, front_of, Ordered, Ordered-across, Ordered-right}
use Rattle.desk_rules.proofs.PairingLemmas.{lower, lower_strict, decided_pairing, mate_front}
use Rattle.desk_rules.proofs.SettlementLemmas.{IsRanged, precedes_strict, precedes_true, decided_settlement}
use Rattle.desk_rules.proofs.SettlementGrowth.{SamePairsTo, settles_front, precedes-front}

filter-all : {X : Type 0} (p : X → Bool) (xs : List X) → ((x : X) → In xs x → p x ≡ true) → filter p xs ≡ xs
filter-all p xs all = sym (ap (filter p) (append-nil xs)) ∙ filter-front p xs [] all (λ x i. absurd i)

first_after : {X : Type 0} (lt : X → X → Bool) (x : X) (rest : List X) (y : X) → Ordered lt (x ∷ rest) → In rest y → lt x y ≡ true
first_after lt x rest y order i = Ordered-across lt (x ∷ []) rest order x y (inl refl) i

fresh_first : (h g : List Entry) (ps : List Pair) (p : Pair) (rest : List Pair) → IsPairing h ps → IsPairing (h ++ g) (ps ++ p ∷ rest) → length h < p.later
fresh_first h g ps p rest is longer = elim (cases_lt (length h) p.later) [
  | inl lt ↦ lt
  | inr le ↦
      let d = decided_pairing h ps is in
      let e = decided_pairing (h ++ g) (ps ++ p ∷ rest) longer in
      let member : In (ps ++ p ∷ rest) p = In-right ps (p ∷ rest) p (inl refl) in
      let mate = subst (λ z. IsMate (h ++ g) z p) (front_of lower lower_strict ps rest p e.order) ((e.exact p (e.within p member)).0 member) in
      let back : IsMate h ps p = (mate_front h g ps p le).1 mate in
      let below = filter-all (λ t. lower t p) ps (λ t i. Ordered-across lower ps (p ∷ rest) e.order t p i (inl refl)) in
      let old : In ps p = (d.exact p le).1 (subst (λ z. IsMate h z p) (sym below) back) in
      absurd (lower_strict.never p (Ordered-across lower ps (p ∷ rest) e.order p p old (inl refl)))
]

-- the pairs that are added are numbered above the front
pub fresh_pairs : (h g : List Entry) (ps more : List Pair) → IsPairing h ps → IsPairing (h ++ g) (ps ++ more) → (q : Pair) → In more q → length h < q.later
fresh_pairs h g ps [] is longer q i = absurd i
fresh_pairs h g ps (p ∷ rest) is longer q (inl e) = let first = fresh_first h g ps p rest is longer in subst (λ z. length h < z.later) e first
fresh_pairs h g ps (p ∷ rest) is longer q (inr i) =
    let first = fresh_first h g ps p rest is longer in
    let order = Ordered-right lower ps (p ∷ rest) (decided_pairing (h ++ g) (ps ++ p ∷ rest) longer).order in
    let above = ltb-true p.later q.later (first_after lower p rest q order i) in
    omega (arith, first, above)

same_front_pairs : (h g : List Entry) (ps more : List Pair) → IsPairing h ps → IsPairing (h ++ g) (ps ++ more) → SamePairsTo (length h) ps (ps ++ more)
same_front_pairs h g ps more is longer p le = (
  λ c. Contains-from_In (ps ++ more) p (In-left ps more p (In-from_Contains ps p c)),
  λ c. elim (In-cases ps more p (In-from_Contains (ps ++ more) p c)) [
    | inl i ↦ Contains-from_In ps p i
    | inr i ↦ let above = fresh_pairs h g ps more is longer p i in absurd (omega (arith, above, le))
  ],
)

first_run : (h g : List Entry) (ps qs : List Pair) (ss : List Settled) (s : Settled) (rest : List Settled) → SamePairsTo (length h) ps qs → IsSettlement h ps ss → IsSettlement (h ++ g) qs (ss ++ s ∷ rest) → length h < s.run
first_run h g ps qs ss s rest same is longer = elim (cases_lt (length h) s.run) [
  | inl lt ↦ lt
  | inr le ↦
      let d = decided_settlement h ps ss is in
      let e = decided_settlement (h ++ g) qs (ss ++ s ∷ rest) longer in
      let member : In (ss ++ s ∷ rest) s = In-right ss (s ∷ rest) s (inl refl) in
      let numbered = (e.within s member).numbered in
      let ranged : IsRanged (length h) s = record { run = le; numbered = numbered } in
      let strict = precedes_strict (h ++ g) in
      let settles = subst (λ z. Settles (h ++ g) qs z s) (front_of (precedes (h ++ g)) strict ss rest s e.order) ((e.exact s (e.within s member)).0 member) in
      let back : Settles h ps ss s = (settles_front h g ps qs ss s same ranged).1 settles in
      let before = filter-all (λ t. precedes h t s) ss (λ t i.
      let r = d.within t i in
      let a = r.run in
      let b = r.numbered in
      sym (precedes-front h g t s (omega (arith, a, b)) (omega (arith, le, numbered))) ∙ Ordered-across (precedes (h ++ g)) ss (s ∷ rest) e.order t s i (inl refl)) in
      let old : In ss s = (d.exact s ranged).1 (subst (λ z. Settles h ps z s) (sym before) back) in
      absurd (strict.never s (Ordered-across (precedes (h ++ g)) ss (s ∷ rest) e.order s s old (inl refl)))
]

-- the settlements that are added are of later runs
pub fresh_settled : (h g : List Entry) (ps more : List Pair) (ss late : List Settled) → IsPairing h ps → IsPairing (h ++ g) (ps ++ more) → IsSettlement h ps ss → IsSettlement (h ++ g) (ps ++ more) (ss ++ late)
    → (t : Settled) → In late t → length h < t.run
fresh_settled h g ps more ss [] is longer s l t i = absurd i
fresh_settled h g ps more ss (x ∷ rest) is longer s l t (inl e) =
    let first = first_run h g ps (ps ++ more) ss x rest (same_front_pairs h g ps more is longer) s l in subst (λ z. length h < z.run) e first
fresh_settled h g ps more ss (x ∷ rest) is longer s l t (inr i) =
    let first = first_run h g ps (ps ++ more) ss x rest (same_front_pairs h g ps more is longer) s l in
    let order = Ordered-right (precedes (h ++ g)) ss (x ∷ rest) (decided_settlement (h ++ g) (ps ++ more) (ss ++ x ∷ rest) l).order in
    elim (precedes_true (h ++ g) x t (first_after (precedes (h ++ g)) x rest t order i)) [
      | inl lt ↦ omega (arith, first, lt)
      | inr same ↦ let e = same.0 in omega (arith, first, e)
    ]
