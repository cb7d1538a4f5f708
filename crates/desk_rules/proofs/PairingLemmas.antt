-- A history has one pairing, and the next entry adds at most one pair to it.
use Rattle.std.proofs.Common.{◌≡◌, ℕ, ◌+◌, ◌<◌, ◌≤◌, ◌↔◌, inl, inr, Bool, nat_lt, List, [], ◌∷◌, ◌++◌, length, refl, sym, ◌∙◌, ap, subst, arith, append-nil, length-append}
use Rattle.std.proofs.lemmas.Bool.{cases_lt, cases_eq, cases_order, ltb-true, lt-ltb, le-ltb}
use Rattle.desk_rules.specs.declared.history.entry.Entry.{Entry}
use Rattle.desk_rules.specs.declared.history.pair.Pair.{Pair}
use Rattle.desk_rules.specs.Opposite.{AreOppositeAt}
use Rattle.desk_rules.specs.Pairing.{pairs_below, IsCandidate, IsMate, IsPairing}
use Rattle.desk_rules.proofs.Decided.{In-from_Contains, Contains-from_In, Ordered-from_AllPairs, AllPairs-from_Ordered, filter-front, filter-push_no, IsStrict, IsTotalOn, Decided, one_list, grow_out, grow_in}
use Rattle.desk_rules.proofs.HistoryLemmas.{before-front, instruction_at-known, instruction_at-front}

pub pair_same : (p q : Pair) → p.earlier ≡ q.earlier → p.later ≡ q.later → p ≡ q
pair_same p q a b = let f : ℕ → ℕ → Pair = λ m n. record { earlier = m; later = n } in ap (λ m. f m p.later) a ∙ ap (λ n. f q.earlier n) b

-- the order of the pairs
abbrev pub lower : Pair → Pair → Bool
lower p q = nat_lt p.later q.later

pub lower_strict : IsStrict lower
lower_strict = record {
  never = λ p e. let h = ltb-true p.later p.later e in omega arith;
  through = λ p q r e f.
      let g = ltb-true p.later q.later e in
      let h = ltb-true q.later r.later f in
      lt-ltb p.later r.later (omega arith);
}

-- Opposite entries, and candidates, depend on the entries up to the later one alone.

pub opposite_front : (h g : List Entry) (m n : ℕ) → m < n → n ≤ length h → AreOppositeAt h m n → AreOppositeAt (h ++ g) m n
opposite_front h g m n lt le o = record {
  first = o.first;
  second = o.second;
  is_first = instruction_at-front h g m (omega arith) ∙ o.is_first;
  is_second = instruction_at-front h g n le ∙ o.is_second;
  opposite = o.opposite;
}

pub opposite_back : (h g : List Entry) (m n : ℕ) → m < n → n ≤ length h → AreOppositeAt (h ++ g) m n → AreOppositeAt h m n
opposite_back h g m n lt le o = record {
  first = o.first;
  second = o.second;
  is_first = sym (instruction_at-front h g m (omega arith)) ∙ o.is_first;
  is_second = sym (instruction_at-front h g n le) ∙ o.is_second;
  opposite = o.opposite;
}

pub candidate_front : (h g : List Entry) (ps : List Pair) (n k : ℕ) → n ≤ length h → IsCandidate h ps n k → IsCandidate (h ++ g) ps n k
candidate_front h g ps n k le c = record {
  earlier = c.earlier;
  opposite = opposite_front h g k n c.earlier le c.opposite;
  free = c.free;
  stands = rw (before-front h g n (omega arith)) c.stands;
}

pub candidate_back : (h g : List Entry) (ps : List Pair) (n k : ℕ) → n ≤ length h → IsCandidate (h ++ g) ps n k → IsCandidate h ps n k
candidate_back h g ps n k le c = record {
  earlier = c.earlier;
  opposite = opposite_back h g k n c.earlier le c.opposite;
  free = c.free;
  stands = let e = c.stands in rw (before-front h g n (omega arith)) at e;
}

pub mate_front : (h g : List Entry) (ps : List Pair) (p : Pair) → p.later ≤ length h → IsMate h ps p ↔ IsMate (h ++ g) ps p
mate_front h g ps p le = (
  λ m. record {
    candidate = candidate_front h g ps p.later p.earlier le m.candidate;
    least = λ k lt c. m.least k lt (candidate_back h g ps p.later k le c);
  },
  λ m. record {
    candidate = candidate_back h g ps p.later p.earlier le m.candidate;
    least = λ k lt c. m.least k lt (candidate_front h g ps p.later k le c);
  },
)

-- a candidate's number, and that of the later one, are in the history
pub candidate_known : (h : List Entry) (ps : List Pair) (n k : ℕ) → IsCandidate h ps n k → n ≤ length h
candidate_known h ps n k c = let known = instruction_at-known h n c.opposite.second c.opposite.is_second in known.1

-- the pairs with a number that the history has
abbrev pub IsNumbered : List Entry → Pair → Type 0
IsNumbered h p = p.later ≤ length h

pub decided_pairing : (h : List Entry) (ps : List Pair) → IsPairing h ps → Decided lower (IsNumbered h) (IsMate h) ps
decided_pairing h ps is = record {
  exact = λ p b. (
    λ i. (is.exact p).0 (Contains-from_In ps p i),
    λ m. In-from_Contains ps p ((is.exact p).1 m),
  );
  within = λ p i. let m = (is.exact p).0 (Contains-from_In ps p i) in candidate_known h (pairs_below p.later ps) p.later p.earlier m.candidate;
  order = Ordered-from_AllPairs lower ps (λ i j d a b. lt-ltb _ _ (is.rising i j d a b));
}

pub pairing_decided : (h : List Entry) (ps : List Pair) → Decided lower (IsNumbered h) (IsMate h) ps → IsPairing h ps
pairing_decided h ps d = record {
  exact = λ p. (
    λ c. let i = In-from_Contains ps p c in (d.exact p (d.within p i)).0 i,
    λ m. Contains-from_In ps p ((d.exact p (candidate_known h (pairs_below p.later ps) p.later p.earlier m.candidate)).1 m),
  );
  rising = λ i j x a b. ltb-true _ _ (AllPairs-from_Ordered lower ps d.order i j x a b);
}

-- of two pairs that the same front lets in, one is lower, or they are one
mates_total : (h : List Entry) → IsTotalOn lower (IsMate h)
mates_total h ps p q a b = elim (cases_order p.later q.later) [
  | inl same ↦ inr (inl (
      let P : ℕ → Type 0 = λ n. IsCandidate h ps n p.earlier in
      let Q : ℕ → Type 0 = λ n. IsCandidate h ps n q.earlier in
      elim (cases_order p.earlier q.earlier) [
        | inl e ↦ pair_same p q e same
        | inr o ↦ elim o [
          | inl less ↦ absurd (b.least p.earlier less (subst P same a.candidate))
          | inr more ↦ absurd (a.least q.earlier more (subst Q (sym same) b.candidate))
        ]
      ]))
  | inr o ↦ elim o [
    | inl less ↦ inl (lt-ltb p.later q.later less)
    | inr more ↦ inr (inr (lt-ltb q.later p.later more))
  ]
]

-- two mates of one entry are one
pub mates_one : (h : List Entry) (ps : List Pair) (p q : Pair) → IsMate h ps p → IsMate h ps q → p.later ≡ q.later → p ≡ q
mates_one h ps p q a b same = elim (mates_total h ps p q a b) [
  | inl less ↦ let lt = ltb-true p.later q.later less in absurd (omega arith)
  | inr o ↦ elim o [ inl e ↦ e | inr more ↦ (let lt = ltb-true q.later p.later more in absurd (omega arith)) ]
]

pub one_pairing : (h : List Entry) (ps qs : List Pair) → IsPairing h ps → IsPairing h qs → ps ≡ qs
one_pairing h ps qs p q = one_list lower lower_strict (IsNumbered h) (IsMate h) (mates_total h) ps qs (decided_pairing h ps p) (decided_pairing h qs q)

-- The next entry.

-- all pairs are below the next number
pub all_below : (h : List Entry) (ps : List Pair) (n : ℕ) → IsPairing h ps → n ≡ length h + 1 → pairs_below n ps ≡ ps
all_below h ps n is e =
    let d = decided_pairing h ps is in
    sym (ap (λ z. pairs_below n z) (append-nil ps)) ∙ filter-front (λ p. nat_lt p.later n) ps [] (λ p i. lt-ltb p.later n (let b : p.later ≤ length h = d.within p i in omega arith)) (λ p i. absurd i)

-- an entry that finds no candidate leaves the pairs
pub pairing_alone : (h : List Entry) (e : Entry) (ps : List Pair) → IsPairing h ps
    → ((k : ℕ) → IsCandidate (h ++ e ∷ []) ps (length h + 1) k → ⊥)
    → IsPairing (h ++ e ∷ []) ps
pairing_alone h e ps is none =
    let g = h ++ e ∷ [] in
    let longer : length g ≡ length h + 1 = length-append h (e ∷ []) in
    pairing_decided g ps (grow_out lower lower_strict (IsNumbered h) (IsNumbered g) (IsMate h) (IsMate g) ps (decided_pairing h ps is)
    (λ p b. omega arith)
    (λ front p b. mate_front h (e ∷ []) front p b)
    (λ p b. elim (cases_lt p.later (length h + 1)) [
      | inl lt ↦ inl (omega arith)
      | inr ge ↦ inr (λ m.
          let last : p.later ≡ length h + 1 = omega arith in
          let P : ℕ → Type 0 = λ n. IsCandidate g (pairs_below n ps) n p.earlier in
          let Q : List Pair → Type 0 = λ z. IsCandidate g z (length h + 1) p.earlier in
          none p.earlier (subst Q (all_below h ps (length h + 1) is refl) (subst P last m.candidate)))
    ]))

-- an entry that finds a least candidate is paired with it
pub pairing_mated : (h : List Entry) (e : Entry) (ps : List Pair) (p : Pair) → IsPairing h ps → p.later ≡ length h + 1
    → IsMate (h ++ e ∷ []) ps p
    → IsPairing (h ++ e ∷ []) (ps ++ p ∷ [])
pairing_mated h e ps p is last mate =
    let g = h ++ e ∷ [] in
    let longer : length g ≡ length h + 1 = length-append h (e ∷ []) in
    pairing_decided g (ps ++ p ∷ []) (grow_in lower lower_strict (IsNumbered h) (IsNumbered g) (IsMate h) (IsMate g) ps p (decided_pairing h ps is)
    (λ q b. omega arith)
    (omega arith)
    (λ front q b. mate_front h (e ∷ []) front q b)
    (λ q b. lt-ltb q.later p.later (omega arith))
    mate
    (λ q b. elim (cases_lt q.later (length h + 1)) [
      | inl lt ↦ inl (omega arith)
      | inr ge ↦ inr (elim (cases_eq p.earlier q.earlier) [
        | inl e ↦ inl (pair_same p q e (omega arith))
        | inr differs ↦ inr (λ m.
            let same : p.later ≡ q.later = omega arith in
            let dropped : pairs_below q.later (ps ++ p ∷ []) ≡ ps =
            filter-push_no (λ x. nat_lt x.later q.later) ps p (le-ltb p.later q.later (omega arith)) ∙ all_below h ps q.later is (omega arith) in
            let P : List Pair → Type 0 = λ z. IsMate g z q in
            differs (ap (λ x. x.earlier) (mates_one g ps p q mate (subst P dropped m) same)))
      ])
    ]))
