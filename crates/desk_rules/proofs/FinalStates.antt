-- What is cancelled stays so and is not paired or settled later; what is settled stays so.
use Rattle.std.proofs.Common.{◌≡◌, ℕ, ◌+◌, ◌-◌, ◌<◌, ◌≤◌, ◌↔◌, ◌⊎◌, inl, inr, Bool, true, false, ◌==◌, if◌then◌else◌, List, [], ◌∷◌, ◌++◌, length, take, drop, Contains, Option, Some, None, refl, sym, ◌∙◌, ap, subst, arith}
use Rattle.std.specs.Prelude.{not}
use Rattle.std.specs.List.{list_any}
use Rattle.std.proofs.Math.Seq.{take-append-add}
use Rattle.std.proofs.lemmas.Bool.{cases_Bool, both_ways, false_from_ne_true, and_parts, and_from, or_left, not-true, not_from_false}
use Rattle.std.proofs.lemmas.List.{drop-append-le}
use Rattle.std.proofs.lemmas.List.Folds.{list_any-append}
use Rattle.desk_rules.specs.declared.history.entry.Entry.{Entry}
use Rattle.desk_rules.specs.declared.history.pair.Pair.{Pair}
use Rattle.desk_rules.specs.declared.history.pair.Settled.{Settled}
use Rattle.desk_rules.specs.declared.history.standing.State.{State}
use Rattle.desk_rules.specs.declared.history.standing.State.TheVariants as states
use Rattle.desk_rules.specs.History.{Instructed, before, instruction_at}
use Rattle.desk_rules.specs.Cancelled.{requests_cancel, is_cancel_requested, is_cancel_requested_by, is_cancelled_pair}
use Rattle.desk_rules.specs.Pairing.{IsPairing, has_side, pair_of, other_side, mate_of}
use Rattle.desk_rules.specs.Settlement.{IsSettlement}
use Rattle.desk_rules.specs.Books.{Books, AreBooks, is_settled}
use Rattle.desk_rules.specs.Standing.{is_called_off, is_cancelled, open_state, instruction_state, state_of}
use Rattle.desk_rules.proofs.Decided.{In, In-cases, In-left, In-from_Contains, Contains-from_In}
use Rattle.desk_rules.proofs.HistoryLemmas.{instruction_at-known, instruction_at-front}
use Rattle.desk_rules.proofs.PairingLaws.{one_pair_of, pairs_front, settled_front}
use Rattle.desk_rules.proofs.SettlementLemmas.{due_facts}
use Rattle.desk_rules.proofs.SideLemmas.{any-In, In-any, side_from_test}
use Rattle.desk_rules.proofs.StandsAccepted.{HasPair, HasNone, pair_or_none}
use Rattle.desk_rules.proofs.FreshParts.{fresh_pairs, fresh_settled}
use Rattle.desk_rules.proofs.SentFronts.{books_from, same_books}

-- the entries below a number past a front are the front and more
pub before-past : (h g : List Entry) (n : ℕ) → length h < n → before n (h ++ g) ≡ h ++ take (n - 1 - length h) g
before-past h g n lt =
    let e : n - 1 ≡ length h + (n - 1 - length h) = omega arith in
    ap (λ k. take k (h ++ g)) e ∙ take-append-add h g (n - 1 - length h)

-- What was requested stays so.

pub record IsRequested (h : List Entry) (k : ℕ) : Type 0 where
  pub instructed : Instructed
  pub is : instruction_at h k ≡ Some instructed
  pub any : list_any (λ entry. requests_cancel entry instructed) (drop k h) ≡ true

pub requested_true : (h : List Entry) (k : ℕ) → is_cancel_requested h k ≡ true → IsRequested h k
requested_true h k e = by (instruction_at h k) refl e
  where
    by : (o : Option Instructed) → instruction_at h k ≡ o → is_cancel_requested_by (drop k h) o ≡ true → IsRequested h k
    by None is t = absurd (cc)
    by (Some i) is t = record { instructed = i; is = is; any = t }

pub requested_from : (h : List Entry) (k : ℕ) → IsRequested h k → is_cancel_requested h k ≡ true
requested_from h k r = ap (is_cancel_requested_by (drop k h)) r.is ∙ r.any

pub requested-front : (h g : List Entry) (k : ℕ) → is_cancel_requested h k ≡ true → is_cancel_requested (h ++ g) k ≡ true
requested-front h g k e =
    let r = requested_true h k e in
    let known = instruction_at-known h k r.instructed r.is in
    let test : Entry → Bool = λ entry. requests_cancel entry r.instructed in
    requested_from (h ++ g) k (record {
      instructed = r.instructed;
      is = instruction_at-front h g k known.1 ∙ r.is;
      any = ap (list_any test) (drop-append-le k h g known.1) ∙ list_any-append test (drop k h) g ∙ or_left (list_any test (drop k h)) (list_any test g) r.any;
    })

pub cancelled_pair-front : (h g : List Entry) (p : Pair) → is_cancelled_pair h p ≡ true → is_cancelled_pair (h ++ g) p ≡ true
cancelled_pair-front h g p e =
    let both = and_parts (is_cancel_requested h p.earlier) (is_cancel_requested h p.later) e in
    and_from (is_cancel_requested (h ++ g) p.earlier) (is_cancel_requested (h ++ g) p.later) (requested-front h g p.earlier both.0) (requested-front h g p.later both.1)

-- the pair of a number stays the same

if_true : {X : Type 0} (test : Bool) (x y : X) → test ≡ true → (if test then x else y) ≡ x
if_true test x y e = rw e refl

if_false : {X : Type 0} (test : Bool) (x y : X) → test ≡ false → (if test then x else y) ≡ y
if_false test x y e = rw e refl

pair_of-front : (ps more : List Pair) (n : ℕ) (p : Pair) → pair_of ps n ≡ Some p → pair_of (ps ++ more) n ≡ Some p
pair_of-front [] more n p e = absurd (cc)
pair_of-front (q ∷ ps) more n p e = elim (cases_Bool (q.earlier == n)) [
  | inl t ↦ if_true (q.earlier == n) (Some q) _ t ∙ sym (if_true (q.earlier == n) (Some q) _ t) ∙ e
  | inr f ↦ elim (cases_Bool (q.later == n)) [
    | inl t ↦
        let this : (list : List Pair) → pair_of (q ∷ list) n ≡ Some q = λ list. if_false (q.earlier == n) (Some q) _ f ∙ if_true (q.later == n) (Some q) (pair_of list n) t in
        this (ps ++ more) ∙ sym (this ps) ∙ e
    | inr g ↦
        let rest : (list : List Pair) → pair_of (q ∷ list) n ≡ pair_of list n = λ list. if_false (q.earlier == n) (Some q) _ f ∙ if_false (q.later == n) (Some q) (pair_of list n) g in
        rest (ps ++ more) ∙ pair_of-front ps more n p (sym (rest ps) ∙ e)
  ]
]

module _ (h g : List Entry) (ps more : List Pair) (ss late : List Settled) where
  abbrev front : Books
  front = record { history = h; pairs = ps; settled = ss }

  abbrev whole : Books
  whole = record { history = h ++ g; pairs = ps ++ more; settled = ss ++ late }

  settled_still : (n : ℕ) → is_settled front n ≡ true → is_settled whole n ≡ true
  settled_still n e = list_any-append (λ (s : Settled). has_side n s.pair) ss late ∙ or_left _ (list_any (λ (s : Settled). has_side n s.pair) late) e

  module _ (are : AreBooks front) (longer : AreBooks whole) where
    -- a settled pair with a side is a pair with it
    settled_pair : (n : ℕ) → is_settled whole n ≡ true → (s : Settled) × In (ss ++ late) s × (has_side n s.pair ≡ true) × Contains (ps ++ more) s.pair
    settled_pair n e =
        let found = In-any (λ (s : Settled). has_side n s.pair) (ss ++ late) e in
        (found.0, found.1, found.2, ((longer.settlement.exact found.0).0 (Contains-from_In (ss ++ late) found.0 found.1)).paired)

    -- in no pair, and requested
    alone_still : (n : ℕ) → list_any (has_side n) ps ≡ false → is_cancel_requested h n ≡ true → list_any (has_side n) (ps ++ more) ≡ false
    alone_still n alone e = false_from_ne_true (list_any (has_side n) (ps ++ more)) (λ paired.
        let found = In-any (has_side n) (ps ++ more) paired in
        elim (In-cases ps more found.0 found.1) [
          | inl i ↦ both_ways _ alone (any-In (has_side n) ps found.0 i found.2)
          | inr i ↦
              let q = found.0 in
              let above = fresh_pairs h g ps more are.pairing longer.pairing q i in
              let r = requested_true h n e in
              let known = instruction_at-known h n r.instructed r.is in
              let within : n ≤ length h = known.1 in
              elim (side_from_test n q found.2) [
                | inr later ↦ omega arith
                | inl earlier ↦
                    let mate = (longer.pairing.exact q).0 (Contains-from_In (ps ++ more) q found.1) in
                    let then_ : is_cancel_requested (before q.later (h ++ g)) q.earlier ≡ true =
                    ap (λ z. is_cancel_requested z q.earlier) (before-past h g q.later above)
                    ∙ ap (is_cancel_requested (h ++ take (q.later - 1 - length h) g)) earlier
                    ∙ requested-front h (take (q.later - 1 - length h) g) n e in
                    both_ways _ mate.candidate.stands then_
              ]
        ])

    called_alone : (n : ℕ) → HasNone ps n → is_cancel_requested h n ≡ true → is_cancelled whole n ≡ true
    called_alone n none e =
        let alone = alone_still n none.alone e in
        let none_later : pair_of (ps ++ more) n ≡ None = elim (pair_or_none (ps ++ more) n) [ inl z ↦ z.is | inr z ↦ absurd (both_ways _ alone z.paired) ] in
        let open_ : is_settled whole n ≡ false = false_from_ne_true (is_settled whole n) (λ settled.
        let found = settled_pair n settled in
        both_ways _ alone (any-In (has_side n) (ps ++ more) found.0.pair (In-from_Contains (ps ++ more) found.0.pair found.3) found.2)) in
        and_from (not (is_settled whole n)) _ (not_from_false (is_settled whole n) open_) (ap (is_called_off (h ++ g) n) none_later ∙ requested-front h g n e)

    called_pair : (n : ℕ) (has : HasPair ps n) → is_settled front n ≡ false → is_cancelled_pair h has.pair ≡ true → is_cancelled whole n ≡ true
    called_pair n has unsettled e =
        let p = has.pair in
        let open_ : is_settled whole n ≡ false = false_from_ne_true (is_settled whole n) (λ settled.
        let found = settled_pair n settled in
        let s = found.0 in
        elim (In-cases ss late s found.1) [
          | inl i ↦ both_ways _ unsettled (any-In (λ (t : Settled). has_side n t.pair) ss s i found.2)
          | inr i ↦
              let above = fresh_settled h g ps more ss late are.pairing longer.pairing are.settlement longer.settlement s i in
              let settles = (longer.settlement.exact s).0 (Contains-from_In (ss ++ late) s found.1) in
              let same : s.pair ≡ p = one_pair_of (h ++ g) (ps ++ more) s.pair p n longer.pairing settles.paired (Contains-from_In (ps ++ more) p (In-left ps more p has.member)) (side_from_test n s.pair found.2) has.side in
              let facts = due_facts (h ++ g) s.run s.pair settles.due in
              let cancelled : is_cancelled_pair (before s.run (h ++ g)) s.pair ≡ true =
              ap (is_cancelled_pair (before s.run (h ++ g))) same
              ∙ ap (λ z. is_cancelled_pair z p) (before-past h g s.run above)
              ∙ cancelled_pair-front h (take (s.run - 1 - length h) g) p e in
              both_ways _ (not-true (is_cancelled_pair (before s.run (h ++ g)) s.pair) facts.stands) cancelled
        ]) in
        and_from (not (is_settled whole n)) _ (not_from_false (is_settled whole n) open_)
        (ap (is_called_off (h ++ g) n) (pair_of-front ps more n p has.is) ∙ cancelled_pair-front h g p e)

    pub cancelled_stays : (n : ℕ) → is_cancelled front n ≡ true → (is_cancelled whole n ≡ true) × (mate_of (ps ++ more) n ≡ mate_of ps n)
    cancelled_stays n e =
        let parts = and_parts (not (is_settled front n)) (is_called_off h n (pair_of ps n)) e in
        let unsettled = not-true (is_settled front n) parts.0 in
        elim (pair_or_none ps n) [
          | inl none ↦
              let requested : is_cancel_requested h n ≡ true = sym (ap (is_called_off h n) none.is) ∙ parts.1 in
              let alone = alone_still n none.alone requested in
              let none_later : pair_of (ps ++ more) n ≡ None = elim (pair_or_none (ps ++ more) n) [ inl z ↦ z.is | inr z ↦ absurd (both_ways _ alone z.paired) ] in
              (called_alone n none requested, ap (other_side n) (none_later ∙ sym none.is))
          | inr has ↦
              let cancelled : is_cancelled_pair h has.pair ≡ true = sym (ap (is_called_off h n) has.is) ∙ parts.1 in
              (called_pair n has unsettled cancelled, ap (other_side n) (pair_of-front ps more n has.pair has.is ∙ sym has.is))
        ]

    pub settled_stays : (n : ℕ) → is_settled front n ≡ true → (is_settled whole n ≡ true) × (mate_of (ps ++ more) n ≡ mate_of ps n)
    settled_stays n e =
        let found = In-any (λ (s : Settled). has_side n s.pair) ss e in
        let paired = ((are.settlement.exact found.0).0 (Contains-from_In ss found.0 found.1)).paired in (
          settled_still n e,
          elim (pair_or_none ps n) [
            | inl none ↦ absurd (both_ways _ none.alone (any-In (has_side n) ps found.0.pair (In-from_Contains ps found.0.pair paired) found.2))
            | inr has ↦ ap (other_side n) (pair_of-front ps more n has.pair has.is ∙ sym has.is)
          ],
        )

-- The state of an instruction says the same.

if_either : (test : Bool) (x y z : State) → (if test then x else y) ≡ z → ((test ≡ true) × (x ≡ z)) ⊎ ((test ≡ false) × (y ≡ z))
if_either true x y z e = inl (refl, e)
if_either false x y z e = inr (refl, e)

open_cancelled : (books : Books) (o : Option Pair) → open_state books o ≡ states.Cancelled → ⊥
open_cancelled books None e = cc
open_cancelled books (Some p) e = cc

open_settled : (books : Books) (o : Option Pair) → open_state books o ≡ states.Settled → ⊥
open_settled books None e = cc
open_settled books (Some p) e = cc

instruction_cancelled : (books : Books) (n : ℕ) (o : Option Instructed) → instruction_state books n o ≡ states.Cancelled → is_cancelled books n ≡ true
instruction_cancelled books n None e = absurd (cc)
instruction_cancelled books n (Some i) e = elim (if_either (is_settled books n) _ _ _ e) [
  | inl is ↦ let never : states.Settled ≡ states.Cancelled = is.1 in absurd (cc)
  | inr is ↦ elim (if_either (is_called_off books.history n (pair_of books.pairs n)) _ _ _ is.1) [
    | inl off ↦ and_from (not (is_settled books n)) _ (not_from_false (is_settled books n) is.0) off.0
    | inr on ↦ absurd (open_cancelled books (pair_of books.pairs n) on.1)
  ]
]

-- a settled instruction is one
record IsSettledOne (books : Books) (n : ℕ) : Type 0 where
  instructed : Instructed
  is : instruction_at books.history n ≡ Some instructed
  settled : is_settled books n ≡ true

instruction_settled : (books : Books) (n : ℕ) (o : Option Instructed) → instruction_at books.history n ≡ o → instruction_state books n o ≡ states.Settled → IsSettledOne books n
instruction_settled books n None at e = absurd (cc)
instruction_settled books n (Some i) at e = elim (if_either (is_settled books n) _ _ _ e) [
  | inl is ↦ record { instructed = i; is = at; settled = is.0 }
  | inr is ↦ elim (if_either (is_called_off books.history n (pair_of books.pairs n)) _ _ _ is.1) [
    | inl off ↦ let never : states.Cancelled ≡ states.Settled = off.1 in absurd (cc)
    | inr on ↦ absurd (open_settled books (pair_of books.pairs n) on.1)
  ]
]

settled_one : (books : Books) (n : ℕ) → IsSettledOne books n → state_of books n ≡ states.Settled
settled_one books n one = ap (instruction_state books n) one.is ∙ if_true (is_settled books n) states.Settled _ one.settled

-- what is called off is an instruction
called_one : (books : Books) (n : ℕ) → is_called_off books.history n (pair_of books.pairs n) ≡ true → (i : Instructed) × (instruction_at books.history n ≡ Some i)
called_one books n e = elim (pair_or_none books.pairs n) [
  | inl none ↦ (let r = requested_true books.history n (sym (ap (is_called_off books.history n) none.is) ∙ e) in (r.instructed, r.is))
  | inr has ↦
      let p = has.pair in
      let both = and_parts (is_cancel_requested books.history p.earlier) (is_cancel_requested books.history p.later) (sym (ap (is_called_off books.history n) has.is) ∙ e) in
      elim has.side [
        | inl same ↦ (let r = requested_true books.history p.earlier both.0 in (r.instructed, sym (ap (instruction_at books.history) same) ∙ r.is))
        | inr same ↦ (let r = requested_true books.history p.later both.1 in (r.instructed, sym (ap (instruction_at books.history) same) ∙ r.is))
      ]
]

pub cancelled_state : (books : Books) (n : ℕ) → is_cancelled books n ≡ true ↔ (state_of books n ≡ states.Cancelled)
cancelled_state books n = (
  λ e.
      let parts = and_parts (not (is_settled books n)) (is_called_off books.history n (pair_of books.pairs n)) e in
      let one = called_one books n parts.1 in
      ap (instruction_state books n) one.1
      ∙ if_false (is_settled books n) states.Settled _ (not-true (is_settled books n) parts.0)
      ∙ if_true (is_called_off books.history n (pair_of books.pairs n)) states.Cancelled _ parts.1,
  λ e. instruction_cancelled books n (instruction_at books.history n) e,
)

-- The same of the books of any longer history.

record Grown (front books : Books) : Type 0 where
  more : List Pair
  late : List Settled
  rest : List Entry
  is : books ≡ books_from (front.history ++ rest) (front.pairs ++ more) (front.settled ++ late)

grown : (front books : Books) (rest : List Entry) → AreBooks front → AreBooks books → books.history ≡ front.history ++ rest → Grown front books
unfolding books_from
grown front books rest are longer e =
    let pairing = subst (λ z. IsPairing z books.pairs) e longer.pairing in
    let settlement = subst (λ z. IsSettlement z books.pairs books.settled) e longer.settlement in
    let more = pairs_front front.history rest front.pairs books.pairs are.pairing pairing in
    let late = settled_front front.history rest front.pairs books.pairs front.settled books.settled are.pairing pairing are.settlement settlement in
    record {
      more = more.0;
      late = late.0;
      rest = rest;
      is = same_books books.history (front.history ++ rest) books.pairs (front.pairs ++ more.0) books.settled (front.settled ++ late.0) e more.1 late.1;
    }

pub cancelled_for_good : (front books : Books) (rest : List Entry) → AreBooks front → AreBooks books → books.history ≡ front.history ++ rest
    → (n : ℕ) → state_of front n ≡ states.Cancelled → (state_of books n ≡ states.Cancelled) × (mate_of books.pairs n ≡ mate_of front.pairs n)
unfolding books_from
cancelled_for_good front books rest are longer e n state =
    let g = grown front books rest are longer e in
    let P : Books → Type 0 = λ b. (is_cancelled b n ≡ true) × (mate_of b.pairs n ≡ mate_of front.pairs n) in
    let stays = subst P (sym g.is) (cancelled_stays front.history g.rest front.pairs g.more front.settled g.late are (subst AreBooks g.is longer) n ((cancelled_state front n).1 state)) in
    ((cancelled_state books n).0 stays.0, stays.1)

pub settled_for_good : (front books : Books) (rest : List Entry) → AreBooks front → AreBooks books → books.history ≡ front.history ++ rest
    → (n : ℕ) → state_of front n ≡ states.Settled → (state_of books n ≡ states.Settled) × (mate_of books.pairs n ≡ mate_of front.pairs n)
unfolding books_from
settled_for_good front books rest are longer e n state =
    let g = grown front books rest are longer e in
    let one = instruction_settled front n (instruction_at front.history n) refl state in
    let known = instruction_at-known front.history n one.instructed one.is in
    let P : Books → Type 0 = λ b. (is_settled b n ≡ true) × (mate_of b.pairs n ≡ mate_of front.pairs n) in
    let stays = subst P (sym g.is) (settled_stays front.history g.rest front.pairs g.more front.settled g.late are (subst AreBooks g.is longer) n one.settled) in
    let at : instruction_at books.history n ≡ Some one.instructed = ap (λ h. instruction_at h n) e ∙ instruction_at-front front.history rest n known.1 ∙ one.is in
    (settled_one books n (record { instructed = one.instructed; is = at; settled = stays.0 }), stays.1)
