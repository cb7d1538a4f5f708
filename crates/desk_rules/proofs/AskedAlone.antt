-- Pairing and settlement depend on cancellations by what they call off alone.
use Rattle.std.proofs.Common.{◌++◌, ◌≡◌, ℕ, zero, suc, ◌+◌, ◌-◌, ◌<◌, inl, inr, true, ◌&&◌, ◌||◌, ◌==◌, nat_lt, List, [], ◌∷◌, map, sum_by, take, slice_get, Contains, get_or, Option, Some, None, refl, sym, ◌∙◌, ap, subst, if◌then◌else◌, ◌≤◌, ◌≢◌, drop, length-take, arith, false}
use Rattle.std.specs.Prelude.{not, option_map, option_and_then}
use Rattle.std.specs.List.{list_any}
use Rattle.std.proofs.lemmas.Bool.{both_ways, and_from, lt-ltb, or_right, eq-eqb, cases_eq, cases_lt, false_from_ne_true, and_parts, or_left}
use Rattle.std.proofs.lemmas.List.{take-map, take-append-drop}
use Rattle.std.proofs.lemmas.List.Sums.{sum_by-cons}
use Rattle.std.proofs.lemmas.Option.{slice_get-map}
use Rattle.desk_msg.specs.declared.instruction.CancelOrder.{CancelOrder}
use Rattle.desk_rules.specs.declared.history.entry.Entry.{Entry}
use Rattle.desk_rules.specs.declared.history.entry.Entry.TheVariants.{Participant, Account, Security, Issue, Redeem, PayIn, PayOut, Instruct, Cancel, Run}
use Rattle.desk_rules.specs.declared.history.pair.Pair.{Pair}
use Rattle.desk_rules.specs.declared.history.pair.Settled.{Settled}
use Rattle.desk_rules.specs.History.{entry_at, before, instructed, instruction_at, run_day, run_rule}
use Rattle.desk_rules.specs.Opposite.{AreOppositeAt}
use Rattle.desk_rules.specs.Cancelled.{is_cancelled_pair, is_cancel_requested}
use Rattle.desk_rules.specs.Pairing.{pairs_below, pair_of, has_side, IsFree, IsCandidate, IsMate, IsPairing, IsSide}
use Rattle.desk_rules.specs.Balances.{is_delivered_by, delivery_of, receipt_of, issued_by, redeemed_by, paid_in_by, paid_out_by, movement_on, payment_of, quantity_on, amount_of}
use Rattle.desk_rules.specs.Covered.{can_deliver, can_pay, has_securities, has_cash, is_covered}
use Rattle.desk_rules.specs.Settlement.{instructed_day, day_of, is_sooner, precedes, settled_before, is_by, is_due, allows_more, pass_begins, Settles, IsSettlement}
use Rattle.desk_rules.specs.Books.{Books, AreBooks}
use Rattle.desk_rules.specs.Standing.{is_called_off}
use Rattle.desk_rules.specs.Laws.{but_cancellation, AreSameButCancellations, CallOffTheSame}
use Rattle.desk_rules.proofs.HistoryLemmas.{before-before, instruction_at-known}
use Rattle.desk_rules.proofs.FinalStates.{requested_true, requested-front, cancelled_pair-front}
use Rattle.desk_rules.proofs.Decided.{In-from_Contains, Contains-from_In, In-filter, filter-In, filter-same}
use Rattle.desk_rules.proofs.BalanceLemmas.{sum_same}
use Rattle.desk_rules.proofs.PairingLemmas.{one_pairing}
use Rattle.desk_rules.proofs.PairingLaws.{one_pair_of, settlement_unique}
use Rattle.desk_rules.proofs.SettlementLemmas.{due_facts}
use Rattle.desk_rules.proofs.SideLemmas.{any-In}
use Rattle.desk_rules.proofs.StandsAccepted.{HasNone, pair_or_none}
use Rattle.desk_rules.proofs.NothingLeft.{same_deliver, same_pay}

-- What says nothing of a cancellation is a function of the entry without it.

abbrev or_of : {Y : Type 0} → Y → (Entry → Y) → Option Entry → Y
or_of d f None = d
or_of d f (Some e) = f e

said : {Y : Type 0} (d : Y) (f : Entry → Y) → ((sender : List ℕ) (order : CancelOrder) → f (Cancel sender order) ≡ d) → (e : Entry) → f e ≡ or_of d f (but_cancellation e)
said d f silent (Participant reference bic) = refl
said d f silent (Account reference bic account) = refl
said d f silent (Security reference isin kind) = refl
said d f silent (Issue movement) = refl
said d f silent (Redeem movement) = refl
said d f silent (PayIn payment) = refl
said d f silent (PayOut payment) = refl
said d f silent (Instruct sender instruction) = refl
said d f silent (Cancel sender order) = silent sender order
said d f silent (Run reference day rule) = refl

or_none : {Y : Type 0} → (Entry → Option Y) → Option (Option Entry) → Option Y
or_none f None = None
or_none f (Some e) = or_of None f e

said_at : {Y : Type 0} (f : Entry → Option Y) → ((sender : List ℕ) (order : CancelOrder) → f (Cancel sender order) ≡ None) → (o : Option Entry) → option_and_then f o ≡ or_none f (option_map but_cancellation o)
unfolding or_none
said_at f silent None = refl
said_at f silent (Some e) = said None f silent e

said_in : (f : Entry → ℕ) → ((sender : List ℕ) (order : CancelOrder) → f (Cancel sender order) ≡ 0) → (h : List Entry) → sum_by f h ≡ sum_by (or_of 0 f) (map but_cancellation h)
said_in f silent [] = refl
said_in f silent (e ∷ h) =
    sum_by-cons f e h
    ∙ ap (λ n. n + sum_by f h) (said 0 f silent e)
    ∙ ap (λ n. or_of 0 f (but_cancellation e) + n) (said_in f silent h)
    ∙ sym (sum_by-cons (or_of 0 f) (but_cancellation e) (map but_cancellation h))

module _ (g h : List Entry) (alike : AreSameButCancellations g h) where
  entry_alike : (n : ℕ) → option_map but_cancellation (entry_at g n) ≡ option_map but_cancellation (entry_at h n)
  entry_alike zero = refl
  entry_alike (suc n) = sym (slice_get-map but_cancellation g n) ∙ ap (λ z. slice_get z n) alike ∙ slice_get-map but_cancellation h n

  said_alike : {Y : Type 0} (f : Entry → Option Y) → ((sender : List ℕ) (order : CancelOrder) → f (Cancel sender order) ≡ None) → (n : ℕ) → option_and_then f (entry_at g n) ≡ option_and_then f (entry_at h n)
  said_alike f silent n = said_at f silent (entry_at g n) ∙ ap (or_none f) (entry_alike n) ∙ sym (said_at f silent (entry_at h n))

  instruction_alike : (n : ℕ) → instruction_at g n ≡ instruction_at h n
  instruction_alike n = said_alike instructed (λ sender order. refl) n

  sum_alike : (f : Entry → ℕ) → ((sender : List ℕ) (order : CancelOrder) → f (Cancel sender order) ≡ 0) → sum_by f g ≡ sum_by f h
  sum_alike f silent = said_in f silent g ∙ ap (sum_by (or_of 0 f)) alike ∙ sym (said_in f silent h)

  delivery_alike : (p : Pair) → delivery_of g p ≡ delivery_of h p
  delivery_alike p =
      ap (λ o. instruction_at g (if is_delivered_by o then p.earlier else p.later)) (instruction_alike p.earlier)
      ∙ instruction_alike (if is_delivered_by (instruction_at h p.earlier) then p.earlier else p.later)

  receipt_alike : (p : Pair) → receipt_of g p ≡ receipt_of h p
  receipt_alike p =
      ap (λ o. instruction_at g (if is_delivered_by o then p.later else p.earlier)) (instruction_alike p.earlier)
      ∙ instruction_alike (if is_delivered_by (instruction_at h p.earlier) then p.later else p.earlier)

  covered_alike : (settled : List Settled) (p : Pair) → is_covered g settled p ≡ is_covered h settled p
  covered_alike settled p =
      let securities : has_securities g settled p ≡ has_securities h settled p =
      ap (can_deliver g settled) (delivery_alike p)
      ∙ same_deliver g h settled (delivery_of h p)
      (λ a i. ap (λ n. n + sum_by (λ (s : Settled). quantity_on a i (delivery_of g s.pair)) settled) (sum_alike (redeemed_by (movement_on a i)) (λ sender order. refl))
      ∙ ap (λ n. sum_by (redeemed_by (movement_on a i)) h + n) (sum_same _ _ settled (λ s j. ap (quantity_on a i) (delivery_alike s.pair))))
      (λ a i. ap (λ n. n + sum_by (λ (s : Settled). quantity_on a i (receipt_of g s.pair)) settled) (sum_alike (issued_by (movement_on a i)) (λ sender order. refl))
      ∙ ap (λ n. sum_by (issued_by (movement_on a i)) h + n) (sum_same _ _ settled (λ s j. ap (quantity_on a i) (receipt_alike s.pair)))) in
      let cash : has_cash g settled p ≡ has_cash h settled p =
      ap (can_pay g settled) (receipt_alike p)
      ∙ same_pay g h settled (receipt_of h p)
      (λ b c. ap (λ n. n + sum_by (λ (s : Settled). amount_of b c (receipt_of g s.pair)) settled) (sum_alike (paid_out_by (payment_of b c)) (λ sender order. refl))
      ∙ ap (λ n. sum_by (paid_out_by (payment_of b c)) h + n) (sum_same _ _ settled (λ s j. ap (amount_of b c) (receipt_alike s.pair))))
      (λ b c. ap (λ n. n + sum_by (λ (s : Settled). amount_of b c (delivery_of g s.pair)) settled) (sum_alike (paid_in_by (payment_of b c)) (λ sender order. refl))
      ∙ ap (λ n. sum_by (paid_in_by (payment_of b c)) h + n) (sum_same _ _ settled (λ s j. ap (amount_of b c) (delivery_alike s.pair)))) in
      ap (λ b. b && has_cash g settled p) securities ∙ ap (λ b. has_securities h settled p && b) cash

  day_alike : (p : Pair) → day_of g p ≡ day_of h p
  day_alike p = ap instructed_day (instruction_alike p.later)

  sooner_alike : (p q : Pair) → is_sooner g p q ≡ is_sooner h p q
  sooner_alike p q =
      ap (λ d. nat_lt d (day_of g q) || (d == day_of g q && nat_lt p.later q.later)) (day_alike p)
      ∙ ap (λ d. nat_lt (day_of h p) d || (day_of h p == d && nat_lt p.later q.later)) (day_alike q)

  precedes_alike : (s t : Settled) → precedes g s t ≡ precedes h s t
  precedes_alike s t = ap (λ v. nat_lt s.run t.run || (s.run == t.run && (nat_lt s.pass t.pass || (s.pass == t.pass && v)))) (sooner_alike s.pair t.pair)

  begins_alike : (settled : List Settled) (run pass : ℕ) → pass_begins g settled run pass ≡ pass_begins h settled run pass
  begins_alike settled run pass =
      ap (λ o. pass == 1 || (allows_more o && list_any (λ (t : Settled). t.run == run && t.pass + 1 == pass) settled)) (said_alike run_rule (λ sender order. refl) run)

  opposite_alike : (m n : ℕ) → AreOppositeAt g m n → AreOppositeAt h m n
  opposite_alike m n o = record { first = o.first; second = o.second; is_first = sym (instruction_alike m) ∙ o.is_first; is_second = sym (instruction_alike n) ∙ o.is_second; opposite = o.opposite }

before_alike : (g h : List Entry) (n : ℕ) → AreSameButCancellations g h → AreSameButCancellations (before n g) (before n h)
before_alike g h n alike = sym (take-map but_cancellation (n - 1) g) ∙ ap (take (n - 1)) alike ∙ take-map but_cancellation (n - 1) h

-- the pair of a number that no pair has
pair_of_free : (ps : List Pair) (k : ℕ) → IsFree ps k → pair_of ps k ≡ None
pair_of_free ps k free = elim (pair_or_none ps k) [
  | inl none ↦ none.is
  | inr has ↦
      let apart = free has.pair (Contains-from_In ps has.pair has.member) in
      elim has.side [ inl e ↦ absurd (apart.0 e) | inr e ↦ absurd (apart.1 e) ]
]

module _ (g h : List Entry) (ps : List Pair) (alike : AreSameButCancellations g h) (off : CallOffTheSame ps g h) where
  candidate_alike : (n k : ℕ) → IsCandidate g (pairs_below n ps) n k → IsCandidate h (pairs_below n ps) n k
  candidate_alike n k c =
      let none = pair_of_free (pairs_below n ps) k c.free in
      record {
        earlier = c.earlier;
        opposite = opposite_alike g h alike k n c.opposite;
        free = c.free;
        stands = sym (ap (is_called_off (before n h) k) none) ∙ sym (off.each n k) ∙ ap (is_called_off (before n g) k) none ∙ c.stands;
      }

back : (g h : List Entry) (ps : List Pair) → CallOffTheSame ps g h → CallOffTheSame ps h g
back g h ps off = record { each = λ n k. sym (off.each n k) }

mate_alike : (g h : List Entry) (ps : List Pair) → AreSameButCancellations g h → CallOffTheSame ps g h → (p : Pair) → IsMate g (pairs_below p.later ps) p → IsMate h (pairs_below p.later ps) p
mate_alike g h ps alike off p m = record {
  candidate = candidate_alike g h ps alike off p.later p.earlier m.candidate;
  least = λ k lt c. m.least k lt (candidate_alike h g ps (sym alike) (back g h ps off) p.later k c);
}

pairing_alike : (g h : List Entry) (ps : List Pair) → AreSameButCancellations g h → CallOffTheSame ps g h → IsPairing g ps → IsPairing h ps
pairing_alike g h ps alike off is = record {
  exact = λ p. (
    λ c. mate_alike g h ps alike off p ((is.exact p).0 c),
    λ m. (is.exact p).1 (mate_alike h g ps (sym alike) (back g h ps off) p m),
  );
  rising = is.rising;
}

module _ (g h : List Entry) (ps : List Pair) (alike : AreSameButCancellations g h) (off : CallOffTheSame ps g h) (pairing : IsPairing g ps) where
  -- a pair of the list is that of its later side below each greater number
  own_pair : (run : ℕ) (p : Pair) → Contains ps p → p.later < run → pair_of (pairs_below run ps) p.later ≡ Some p
  own_pair run p c lt =
      let below = filter-In (λ (q : Pair). nat_lt q.later run) ps p (In-from_Contains ps p c) (lt-ltb p.later run lt) in
      elim (pair_or_none (pairs_below run ps) p.later) [
        | inl none ↦ absurd (both_ways _ none.alone (any-In (has_side p.later) (pairs_below run ps) p below (or_right (p.earlier == p.later) (p.later == p.later) (eq-eqb p.later p.later refl))))
        | inr has ↦
            let member = In-filter (λ (q : Pair). nat_lt q.later run) ps has.pair has.member in
            has.is ∙ ap Some (one_pair_of g ps has.pair p p.later pairing (Contains-from_In ps has.pair member.0) c has.side (inr refl))
      ]

  due_alike : (run : ℕ) (p : Pair) → Contains ps p → is_due g run p ≡ true → is_due h run p ≡ true
  due_alike run p c due =
      let f = due_facts g run p due in
      let own = own_pair run p c f.numbered in
      let same : is_cancelled_pair (before run g) p ≡ is_cancelled_pair (before run h) p =
      sym (ap (is_called_off (before run g) p.later) own) ∙ off.each run p.later ∙ ap (is_called_off (before run h) p.later) own in
      let by : is_by (option_and_then run_day (entry_at h run)) (day_of h p) ≡ true =
      sym (ap (λ o. is_by o (day_of h p)) (said_alike g h alike run_day (λ sender order. refl) run)) ∙ sym (ap (is_by (option_and_then run_day (entry_at g run))) (day_alike g h alike p)) ∙ f.by in
      and_from _ _ (and_from _ _ by (lt-ltb p.later run f.numbered)) (sym (ap not same) ∙ f.stands)

  settles_alike : (settled : List Settled) (s : Settled) → Settles g ps settled s → Settles h ps settled s
  settles_alike settled s is = record {
    paired = is.paired;
    due = due_alike s.run s.pair is.paired is.due;
    begun = sym (begins_alike g h alike settled s.run s.pass) ∙ is.begun;
    unsettled = is.unsettled;
    covered = sym (covered_alike (before s.run g) (before s.run h) (before_alike g h s.run alike) settled s.pair) ∙ is.covered;
  }

  before_is : (s : Settled) (settled : List Settled) → settled_before g s settled ≡ settled_before h s settled
  before_is s settled = filter-same (λ (t : Settled). precedes g t s) (λ (t : Settled). precedes h t s) settled (λ t i. precedes_alike g h alike t s)

settlement_alike : (g h : List Entry) (ps : List Pair) (ss : List Settled) → AreSameButCancellations g h → CallOffTheSame ps g h → IsPairing g ps → IsSettlement g ps ss → IsSettlement h ps ss
settlement_alike g h ps ss alike off pairing is = record {
  exact = λ s. (
    λ c. let same = before_is g h ps alike off pairing s ss in subst (λ z. Settles h ps z s) same (settles_alike g h ps alike off pairing (settled_before g s ss) s ((is.exact s).0 c)),
    λ c.
        let other = pairing_alike g h ps alike off pairing in
        let same = before_is h g ps (sym alike) (back g h ps off) other s ss in
        (is.exact s).1 (subst (λ z. Settles g ps z s) same (settles_alike h g ps (sym alike) (back g h ps off) other (settled_before h s ss) s c)),
  );
  in_order = λ i j d a b. sym (precedes_alike g h alike (get_or ss i d) (get_or ss j d)) ∙ is.in_order i j d a b;
}

pub asked_alone : (x y : Books) → AreBooks x → AreBooks y → AreSameButCancellations x.history y.history → CallOffTheSame x.pairs x.history y.history
    → (x.pairs ≡ y.pairs) × (x.settled ≡ y.settled)
asked_alone x y a b alike off =
    let pairing = pairing_alike x.history y.history x.pairs alike off a.pairing in
    let settlement = settlement_alike x.history y.history x.pairs x.settled alike off a.pairing a.settlement in
    let pairs : x.pairs ≡ y.pairs = one_pairing y.history x.pairs y.pairs pairing b.pairing in
    (pairs, settlement_unique y.history x.pairs x.settled y.settled pairing settlement (subst (λ z. IsSettlement y.history z y.settled) (sym pairs) b.settlement))

-- One side of a pair asks.

narrower : (h g : List Entry) (k : ℕ) → is_cancel_requested (h ++ g) k ≡ false → is_cancel_requested h k ≡ false
narrower h g k none = false_from_ne_true (is_cancel_requested h k) (λ e. both_ways _ none (requested-front h g k e))

-- what is not requested in a history is not requested before any number of it
not_before : (h : List Entry) (n k : ℕ) → is_cancel_requested h k ≡ false → is_cancel_requested (before n h) k ≡ false
not_before h n k none = narrower (before n h) (drop (n - 1) h) k (ap (λ z. is_cancel_requested z k) (take-append-drop (n - 1) h) ∙ none)

-- an instruction is not requested before its own number or by it
not_by_itself : (h : List Entry) (n k : ℕ) → n ≤ k → is_cancel_requested (before n h) k ≡ false
not_by_itself h n k le = false_from_ne_true (is_cancel_requested (before n h) k) (λ e.
    let r = requested_true (before n h) k e in
    let known = instruction_at-known (before n h) k r.instructed r.is in
    absurd (omega (arith, known.0, known.1, length-take (n - 1) h)))

uncancelled_before : (h : List Entry) (n : ℕ) (p : Pair) → is_cancelled_pair h p ≡ false → is_cancelled_pair (before n h) p ≡ false
uncancelled_before h n p none = false_from_ne_true (is_cancelled_pair (before n h) p) (λ e.
    let longer = cancelled_pair-front (before n h) (drop (n - 1) h) p e in
    both_ways _ none (sym (ap (λ z. is_cancelled_pair z p) (take-append-drop (n - 1) h)) ∙ longer))

one_side_false : (h : List Entry) (p : Pair) (k : ℕ) → IsSide p k → is_cancel_requested h k ≡ false → is_cancelled_pair h p ≡ false
one_side_false h p k side none = false_from_ne_true (is_cancelled_pair h p) (λ e.
    let both = and_parts (is_cancel_requested h p.earlier) (is_cancel_requested h p.later) e in
    elim side [
      | inl same ↦ both_ways _ none (sym (ap (is_cancel_requested h) same) ∙ both.0)
      | inr same ↦ both_ways _ none (sym (ap (is_cancel_requested h) same) ∙ both.1)
    ])

module _ (x y : Books) (p : Pair) (k : ℕ) (a : AreBooks x) (inside : Contains x.pairs p) (side : IsSide p k)
    (one : is_cancelled_pair x.history p ≡ false) (nobody : is_cancel_requested y.history k ≡ false)
    (others : (n j : ℕ) → j ≢ k → is_cancel_requested (before n x.history) j ≡ is_cancel_requested (before n y.history) j) where
  -- before the pair is made nobody asks for it
  not_yet : (n : ℕ) → n ≤ p.later → is_cancel_requested (before n x.history) k ≡ false
  not_yet n le = elim side [
    | inr same ↦ ap (is_cancel_requested (before n x.history)) (sym same) ∙ not_by_itself x.history n p.later le
    | inl same ↦
        let mate = (a.pairing.exact p).0 inside in
        ap (λ z. is_cancel_requested z k) (sym (before-before x.history n p.later le))
        ∙ not_before (before p.later x.history) n k (ap (is_cancel_requested (before p.later x.history)) (sym same) ∙ mate.candidate.stands)
  ]

  alone_alike : (n j : ℕ) → HasNone (pairs_below n x.pairs) j → is_cancel_requested (before n x.history) j ≡ is_cancel_requested (before n y.history) j
  alone_alike n j none = elim (cases_eq j k) [
    | inr apart ↦ others n j apart
    | inl same ↦ elim (cases_lt p.later n) [
      | inl lt ↦
          let below = filter-In (λ (q : Pair). nat_lt q.later n) x.pairs p (In-from_Contains x.pairs p inside) (lt-ltb p.later n lt) in
          let found : has_side j p ≡ true = elim side [
            | inl e ↦ or_left (p.earlier == j) (p.later == j) (eq-eqb p.earlier j (e ∙ sym same))
            | inr e ↦ or_right (p.earlier == j) (p.later == j) (eq-eqb p.later j (e ∙ sym same))
          ] in
          absurd (both_ways _ none.alone (any-In (has_side j) (pairs_below n x.pairs) p below found))
      | inr ge ↦
          ap (is_cancel_requested (before n x.history)) same ∙ not_yet n ge
          ∙ sym (ap (is_cancel_requested (before n y.history)) same ∙ not_before y.history n k nobody)
    ]
  ]

  pair_alike : (n : ℕ) (q : Pair) → Contains x.pairs q → is_cancelled_pair (before n x.history) q ≡ is_cancelled_pair (before n y.history) q
  pair_alike n q member = elim (cases_eq q.earlier k) [
    | inl e ↦ of_it q member (inl e)
    | inr d ↦ elim (cases_eq q.later k) [
      | inl e ↦ of_it q member (inr e)
      | inr f ↦ ap (λ b. b && is_cancel_requested (before n x.history) q.later) (others n q.earlier d) ∙ ap (λ b. is_cancel_requested (before n y.history) q.earlier && b) (others n q.later f)
    ]
  ]
    where
      of_it : (r : Pair) → Contains x.pairs r → IsSide r k → is_cancelled_pair (before n x.history) r ≡ is_cancelled_pair (before n y.history) r
      of_it r i s =
          let same : r ≡ p = one_pair_of x.history x.pairs r p k a.pairing i inside s side in
          ap (is_cancelled_pair (before n x.history)) same
          ∙ uncancelled_before x.history n p one
          ∙ sym (one_side_false (before n y.history) r k s (not_before y.history n k nobody))

  calls_alike : CallOffTheSame x.pairs x.history y.history
  calls_alike = record {
    each = λ n j. elim (pair_or_none (pairs_below n x.pairs) j) [
      | inl none ↦ ap (is_called_off (before n x.history) j) none.is ∙ alone_alike n j none ∙ sym (ap (is_called_off (before n y.history) j) none.is)
      | inr has ↦
          let member = In-filter (λ (q : Pair). nat_lt q.later n) x.pairs has.pair has.member in
          ap (is_called_off (before n x.history) j) has.is ∙ pair_alike n has.pair (Contains-from_In x.pairs has.pair member.0) ∙ sym (ap (is_called_off (before n y.history) j) has.is)
    ];
  }

pub one_side : (x y : Books) (p : Pair) (k : ℕ) → AreBooks x → AreBooks y → AreSameButCancellations x.history y.history
    → Contains x.pairs p → IsSide p k → is_cancelled_pair x.history p ≡ false → is_cancel_requested y.history k ≡ false
    → ((n j : ℕ) → j ≢ k → is_cancel_requested (before n x.history) j ≡ is_cancel_requested (before n y.history) j)
    → (x.pairs ≡ y.pairs) × (x.settled ≡ y.settled)
one_side x y p k a b alike inside side one nobody others = asked_alone x y a b alike (calls_alike x y p k a inside side one nobody others)
