-- Laws of pairing and settlement.
use Rattle.std.proofs.Common.{◌≡◌, ℕ, true, ◌<◌, inl, inr, List, ◌++◌, Contains, refl, sym, ◌∙◌, subst, arith}
use Rattle.std.proofs.lemmas.Bool.{cases_order, lt-ltb}
use Rattle.desk_rules.specs.declared.history.entry.Entry.{Entry}
use Rattle.desk_rules.specs.declared.history.pair.Pair.{Pair}
use Rattle.desk_rules.specs.declared.history.pair.Settled.{Settled}
use Rattle.desk_rules.specs.History.{Instructed}
use Rattle.desk_rules.specs.Opposite.{AreOpposite}
use Rattle.desk_rules.specs.Pairing.{pairs_below, IsPairing, IsSide}
use Rattle.desk_rules.specs.Settlement.{IsSettlement, settled_before, precedes}
use Rattle.desk_rules.proofs.Decided.{In-from_Contains, Contains-from_In, filter-In}
use Rattle.desk_rules.proofs.PairingLemmas.{lower, one_pairing as one_pairing_of}
use Rattle.desk_rules.proofs.SettlementLemmas.{ordered_pairs, one_number, one_settlement as one_settlement_of, settled_same, precedes_run, precedes_pass}
use Rattle.desk_rules.proofs.Existence.{books_exist, books_front}

pub opposite_back : (a b : Instructed) → AreOpposite a b → AreOpposite b a
opposite_back a b o = record {
  sides = λ e. o.sides (sym e);
  payment = sym o.payment;
  isin = sym o.isin;
  quantity = sym o.quantity;
  kind = sym o.kind;
  day = sym o.day;
  cash = sym o.cash;
  names = o.is_named;
  is_named = o.names;
}

pub never_own : (a : Instructed) → AreOpposite a a → ⊥
never_own a o = o.sides refl

pub pairing_exists : (h : List Entry) → (ps : List Pair) × IsPairing h ps
pairing_exists h = let all = books_exist h in (all.0, all.2.pairing)

-- two pairs with one side are not of different numbers
no_shared_side : (h : List Entry) (ps : List Pair) (p q : Pair) (k : ℕ) → IsPairing h ps → Contains ps p → Contains ps q → p.later < q.later → IsSide p k → IsSide q k → ⊥
no_shared_side h ps p q k is a b lt i j =
    let first = (is.exact p).0 a in
    let second = (is.exact q).0 b in
    let earlier : p.earlier < p.later = first.candidate.earlier in
    let below : Contains (pairs_below q.later ps) p = Contains-from_In (pairs_below q.later ps) p (filter-In (λ x. lower x q) ps p (In-from_Contains ps p a) (lt-ltb p.later q.later lt)) in
    let free = second.candidate.free p below in
    elim i [
      | inl e ↦ elim j [ inl f ↦ free.0 (e ∙ sym f) | inr f ↦ omega arith ]
      | inr e ↦ elim j [ inl f ↦ free.1 (e ∙ sym f) | inr f ↦ omega arith ]
    ]

pub one_pair_of : (h : List Entry) (ps : List Pair) (p q : Pair) (k : ℕ) → IsPairing h ps → Contains ps p → Contains ps q → IsSide p k → IsSide q k → p ≡ q
one_pair_of h ps p q k is a b i j = elim (cases_order p.later q.later) [
  | inl same ↦ one_number ps (ordered_pairs h ps is) p q (In-from_Contains ps p a) (In-from_Contains ps q b) same
  | inr o ↦ elim o [
    | inl less ↦ absurd (no_shared_side h ps p q k is a b less i j)
    | inr more ↦ absurd (no_shared_side h ps q p k is b a more j i)
  ]
]

pub settlement_exists : (h : List Entry) (ps : List Pair) → IsPairing h ps → (settled : List Settled) × IsSettlement h ps settled
settlement_exists h ps is =
    let all = books_exist h in
    let P : List Pair → Type 0 = λ z. IsSettlement h z all.1 in
    (all.1, subst P (one_pairing_of h all.0 ps all.2.pairing is) all.2.settlement)

pub settlement_unique : (h : List Entry) (ps : List Pair) (ss ts : List Settled) → IsPairing h ps → IsSettlement h ps ss → IsSettlement h ps ts → ss ≡ ts
settlement_unique h ps ss ts is s t = one_settlement_of h ps ss ts (ordered_pairs h ps is) s t

pub pairs_front : (front rest : List Entry) (ps qs : List Pair) → IsPairing front ps → IsPairing (front ++ rest) qs → (more : List Pair) × (qs ≡ ps ++ more)
pairs_front front rest ps qs is longer =
    let ss = settlement_exists front ps is in
    let ts = settlement_exists (front ++ rest) qs longer in
    let all = books_front front rest ps qs ss.0 ts.0 (record { pairing = is; settlement = ss.1 }) (record { pairing = longer; settlement = ts.1 }) in
    (all.0, all.2)

pub settled_front : (front rest : List Entry) (ps qs : List Pair) (ss ts : List Settled) → IsPairing front ps → IsPairing (front ++ rest) qs → IsSettlement front ps ss → IsSettlement (front ++ rest) qs ts → (more : List Settled) × (ts ≡ ss ++ more)
settled_front front rest ps qs ss ts is longer s t =
    let all = books_front front rest ps qs ss ts (record { pairing = is; settlement = s }) (record { pairing = longer; settlement = t }) in
    (all.1, all.3)

-- a pair that is settled isn't settled later
not_again : (h : List Entry) (ps : List Pair) (settled : List Settled) (s t : Settled) → IsSettlement h ps settled → Contains settled s → Contains settled t → precedes h s t ≡ true → s.pair ≡ t.pair → ⊥
not_again h ps settled s t is a b first same =
    let later = (is.exact t).0 b in
    let there = Contains-from_In (settled_before h t settled) s (filter-In (λ x. precedes h x t) settled s (In-from_Contains settled s a) first) in
    later.unsettled s there same

pub settled_once : (h : List Entry) (ps : List Pair) (settled : List Settled) (s t : Settled) → IsSettlement h ps settled → Contains settled s → Contains settled t → s.pair ≡ t.pair → s ≡ t
settled_once h ps settled s t is a b same = elim (cases_order s.run t.run) [
  | inl run ↦ elim (cases_order s.pass t.pass) [
    | inl pass ↦ settled_same s t run pass same
    | inr o ↦ elim o [
      | inl less ↦ absurd (not_again h ps settled s t is a b (precedes_pass h s t run less) same)
      | inr more ↦ absurd (not_again h ps settled t s is b a (precedes_pass h t s (sym run) more) (sym same))
    ]
  ]
  | inr o ↦ elim o [
    | inl less ↦ absurd (not_again h ps settled s t is a b (precedes_run h s t less) same)
    | inr more ↦ absurd (not_again h ps settled t s is b a (precedes_run h t s more) (sym same))
  ]
]
