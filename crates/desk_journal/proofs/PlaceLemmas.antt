-- Where the confirmations stand among all that was sent.
use Rattle.std.proofs.Common.{◌≡◌, ◌≢◌, ℕ, zero, suc, ◌+◌, ◌-◌, ◌<◌, ◌≤◌, inl, inr, Bool, true, false, ◌&&◌, cond, if◌then◌else◌, List, [], ◌∷◌, length, map, sum_by, refl, sym, ◌∙◌, ap, subst, arith, Contains, Option, Some, None}
use Rattle.std.specs.Prelude.{◌==◌, nat_lt, is_some, option_map, count_by, slice_get, slice_set}
use Rattle.std.specs.List.{range_with_len, flat_map, find}
use Rattle.std.proofs.lemmas.Bool.{cases_Bool, cases_lt, both_ways, eqb-true, eq-eqb, ltb-true, lt-ltb, or_left, or_right, false_from_ne_true}
use Rattle.std.proofs.lemmas.List.Concat.{flat_map-cons}
use Rattle.std.proofs.lemmas.List.Sums.{sum_by-cons, sum_by-append}
use Rattle.desk_rules.specs.declared.history.entry.Entry.{Entry}
use Rattle.desk_rules.specs.declared.history.entry.Instructed.{Instructed}
use Rattle.desk_rules.specs.declared.history.pair.Pair.{Pair}
use Rattle.desk_rules.specs.declared.history.pair.Settled.{Settled}
use Rattle.desk_rules.specs.declared.history.standing.State.TheVariants as states
use Rattle.desk_rules.specs.declared.answers.reply.Notice.{Notice}
use Rattle.desk_rules.specs.History.{instruction_at}
use Rattle.desk_rules.specs.Balances.{is_delivered_by, quantity_if}
use Rattle.desk_rules.specs.Pairing.{IsSide, has_side, pair_of}
use Rattle.desk_rules.specs.Sent.{told_of_pair, told_of_settled, told_by, notices_of, told, told_to, sent_from, sent_of}
use Rattle.desk_rules.specs.Books.{Books, AreBooks, is_settled}
use Rattle.desk_rules.specs.Standing.{is_called_off, open_state, instruction_state, state_of}
use Rattle.desk_rules.specs.Questions.{confirms_it, confirmation_of}
use Rattle.desk_rules.proofs.Decided.{In, In-cases, In-from_Contains, Contains-from_In}
use Rattle.desk_rules.proofs.SideLemmas.{any-In, In-any, side_from_test}
use Rattle.desk_rules.proofs.PairingLaws.{one_pair_of, settled_once}
use Rattle.desk_rules.proofs.HistoryLemmas.{instruction_at-known, slice_get-known}
use Rattle.desk_rules.proofs.SaidConfirmations.{confirming}
use Rattle.desk_rules.proofs.Conservation.{if_true, if_false}
use Rattle.desk_rules.proofs.LegsConfirmed.{confirmed_once}
use Rattle.desk_rules.proofs.SettledConfirmed.{settled_is_confirmed}
use Rattle.desk_rules.proofs.SentNumbers.{Every, IsKnown, all_known, sent_numbered}
use Rattle.desk_journal.specs.Runs.{settled_in}
use Rattle.desk_journal.specs.Sending.{blank, known_upto}

-- The first element that passes a test.

pub record FoundIn {X : Type 0} (p : X → Bool) (xs : List X) : Type 0 where
  pub first : X
  pub member : In xs first
  pub passes : p first ≡ true
  pub is : find p xs ≡ Some first

pub found_in : {X : Type 0} (p : X → Bool) (xs : List X) (x : X) → In xs x → p x ≡ true → FoundIn p xs
found_in p [] x i e = absurd i
found_in {X} p (y ∷ ys) x i e = elim (cases_Bool (p y)) [
  | inl here ↦ record { first = y; member = inl refl; passes = here; is = rw here refl }
  | inr other ↦ elim i [
    | inl same ↦ absurd (both_ways (p y) other (ap p same ∙ e))
    | inr j ↦ let rest = found_in p ys x j e in record { first = rest.first; member = inr rest.member; passes = rest.passes; is = rw other rest.is }
  ]
]

module _ (books : Books) (are : AreBooks books) (m : ℕ) where
  side_test : (p : Pair) → IsSide p m → has_side m p ≡ true
  side_test p (inl e) = or_left (p.earlier == m) (p.later == m) (eq-eqb p.earlier m e)
  side_test p (inr e) = or_right (p.earlier == m) (p.later == m) (eq-eqb p.later m e)

  paired : (s : Settled) → Contains books.settled s → Contains books.pairs s.pair
  paired s c = let settles = (are.settlement.exact s).0 c in settles.paired

  -- one settlement at most has an instruction as a side
  one_settled : (s t : Settled) → Contains books.settled s → Contains books.settled t → IsSide s.pair m → IsSide t.pair m → s ≡ t
  one_settled s t a b i j =
      settled_once books.history books.pairs books.settled s t are.settlement a b
      (one_pair_of books.history books.pairs s.pair t.pair m are.pairing (paired s a) (paired t b) i j)

  settled_with_side : (s : Settled) → Contains books.settled s → IsSide s.pair m → is_settled books m ≡ true
  settled_with_side s c side = any-In (λ (t : Settled). has_side m t.pair) books.settled s (In-from_Contains books.settled s c) (side_test s.pair side)

  pub settled_in_is : (s : Settled) → Contains books.settled s → IsSide s.pair m → settled_in books m ≡ Some s.run
  settled_in_is s c side =
      let found = found_in (λ (t : Settled). has_side m t.pair) books.settled s (In-from_Contains books.settled s c) (side_test s.pair side) in
      let same = one_settled found.first s (Contains-from_In books.settled found.first found.member) c (side_from_test m found.first.pair found.passes) side in
      ap (option_map (λ (t : Settled). t.run)) found.is ∙ ap (λ (t : Settled). Some t.run) same

  -- a side of a pair is an instruction
  side_instructs : (p : Pair) → Contains books.pairs p → IsSide p m → (i : Instructed) × (instruction_at books.history m ≡ Some i)
  side_instructs p c side =
      let mate = (are.pairing.exact p).0 c in
      let o = mate.candidate.opposite in
      elim side [
        | inl e ↦ (o.first, ap (instruction_at books.history) (sym e) ∙ o.is_first)
        | inr e ↦ (o.second, ap (instruction_at books.history) (sym e) ∙ o.is_second)
      ]

  -- The state of an instruction, and whether it is settled.

  settled_state : (i : Instructed) → instruction_at books.history m ≡ Some i → is_settled books m ≡ true → state_of books m ≡ states.Settled
  settled_state i at e =
      ap (instruction_state books m) at
      ∙ ap (λ b. if b then states.Settled else (if is_called_off books.history m (pair_of books.pairs m) then states.Cancelled else open_state books (pair_of books.pairs m))) e

  never_open : (o : Option Pair) → open_state books o ≡ states.Settled → ⊥
  never_open None e = absurd (cc)
  never_open (Some p) e = absurd (cc)

  never_settled : (gone : Bool) (o : Option Pair) → (if gone then states.Cancelled else open_state books o) ≡ states.Settled → ⊥
  never_settled true o e = absurd (cc)
  never_settled false o e = never_open o e

  state_settled : (o : Option Instructed) → instruction_at books.history m ≡ o → instruction_state books m o ≡ states.Settled → is_settled books m ≡ true
  state_settled None at e = absurd (cc)
  state_settled (Some i) at e = elim (cases_Bool (is_settled books m)) [
    | inl settled ↦ settled
    | inr not_settled ↦
        let gone = is_called_off books.history m (pair_of books.pairs m) in
        let state : instruction_state books m (Some i) ≡ (if gone then states.Cancelled else open_state books (pair_of books.pairs m)) =
        ap (λ b. if b then states.Settled else (if gone then states.Cancelled else open_state books (pair_of books.pairs m))) not_settled in
        absurd (never_settled gone (pair_of books.pairs m) (sym state ∙ e))
  ]

  pub settled_one : state_of books m ≡ states.Settled → (s : Settled) × Contains books.settled s × IsSide s.pair m × ((i : Instructed) × (instruction_at books.history m ≡ Some i))
  settled_one e =
      let found = In-any (λ (s : Settled). has_side m s.pair) books.settled (state_settled (instruction_at books.history m) refl e) in
      let member = Contains-from_In books.settled found.0 found.1 in
      let side = side_from_test m found.0.pair found.2 in
      (found.0, member, side, side_instructs found.0.pair (paired found.0 member) side)

  pub unsettled_state : (i : Instructed) → instruction_at books.history m ≡ Some i → (state_of books m ≡ states.Settled → ⊥) → is_settled books m ≡ false
  unsettled_state i at other = false_from_ne_true (is_settled books m) (λ e. other (settled_state i at e))

  pub unsettled_other : instruction_at books.history m ≡ None → is_settled books m ≡ false
  unsettled_other none = false_from_ne_true (is_settled books m) (λ e.
      let found = In-any (λ (s : Settled). has_side m s.pair) books.settled e in
      let instructs = side_instructs found.0.pair (paired found.0 (Contains-from_In books.settled found.0 found.1)) (side_from_test m found.0.pair found.2) in
      let clash : Some instructs.0 ≡ None = sym instructs.1 ∙ none in
      absurd (cc))

-- Notices, as their instructions become known.

map_same : {X Y : Type 0} (f g : X → Y) (xs : List X) → ((x : X) → In xs x → f x ≡ g x) → map f xs ≡ map g xs
map_same f g [] each = refl
map_same f g (x ∷ xs) each = rw (each x (inl refl), map_same f g xs (λ y i. each y (inr i))) refl

-- the notice of a run about an instruction
abbrev of_run : ℕ → ℕ → Notice
of_run run about = record { about = about; run = Some run }

-- a notice about a known instruction is whole, and one about an unknown one blank
is_whole : (n run about : ℕ) → about ≤ n → known_upto n (of_run run about) ≡ of_run run about
is_whole n run about le =
    let above : nat_lt n about ≡ false = false_from_ne_true (nat_lt n about) (λ e. let lt = ltb-true n about e in absurd (omega (arith, lt))) in
    ap (λ b. if b then blank (of_run run about) else of_run run about) above

is_blank : (n run about : ℕ) → n < about → known_upto n (of_run run about) ≡ blank (of_run run about)
is_blank n run about lt = ap (λ b. if b then blank (of_run run about) else of_run run about) (lt-ltb n about lt)

none_known_of : (about : ℕ) (run : Option ℕ) → known_upto 0 (record { about = about; run = run }) ≡ blank (record { about = about; run = run })
none_known_of about None = refl
none_known_of zero (Some run) = is_whole 0 run zero (omega arith)
none_known_of (suc about) (Some run) = is_blank 0 run (suc about) (omega arith)

pub none_known : (books : Books) → map (known_upto 0) (notices_of books) ≡ map blank (notices_of books)
none_known books = map_same (known_upto 0) blank (notices_of books) (λ n i. none_known_of n.about n.run)

every_in : {X : Type 0} (P : X → Type 0) (xs : List X) (x : X) → Every P xs → In xs x → P x
every_in P [] x all i = absurd i
every_in P (y ∷ ys) x all (inl e) = subst P e all.0
every_in P (y ∷ ys) x all (inr i) = every_in P ys x all.1 i

all_known_of : (n about : ℕ) (run : Option ℕ) → about ≤ n → known_upto n (record { about = about; run = run }) ≡ record { about = about; run = run }
all_known_of n about None le = refl
all_known_of n about (Some run) le = is_whole n run about le

-- knowing one instruction more changes only notices of runs about it
one_more : (n about run : ℕ) → about ≢ n + 1 → known_upto (n + 1) (of_run run about) ≡ known_upto n (of_run run about)
one_more n about run apart = elim (cases_Bool (nat_lt (n + 1) about)) [
  | inl e ↦ let lt = ltb-true (n + 1) about e in is_blank (n + 1) run about lt ∙ sym (is_blank n run about (omega (arith, lt)))
  | inr e ↦
      let ge : about ≤ n + 1 = elim (cases_lt (n + 1) about) [ inl lt ↦ absurd (both_ways _ e (lt-ltb (n + 1) about lt)) | inr le ↦ le ] in
      is_whole (n + 1) run about ge ∙ sym (is_whole n run about (omega (arith, ge, apart)))
]

-- Notices of settlements.

from_flat : {X Y : Type 0} (f : X → List Y) (xs : List X) (y : Y) → In (flat_map f xs) y → (x : X) × In xs x × In (f x) y
from_flat f [] y i = absurd i
from_flat f (z ∷ xs) y i = elim (In-cases (f z) (flat_map f xs) y (subst (λ ys. In ys y) (flat_map-cons f z xs) i)) [
  | inl here ↦ (z, inl refl, here)
  | inr there ↦ let rest = from_flat f xs y there in (rest.0, inr rest.1, rest.2)
]

out_of_if : {X : Type 0} (test : Bool) (xs : List X) (x : X) → In (if test then xs else []) x → (test ≡ true) × In xs x
out_of_if true xs x i = (refl, i)
out_of_if false xs x i = absurd i

some_run : (a b : ℕ) → Some a ≡ Some b → a ≡ b
some_run a b e = cc

-- the settlement that a notice of a run tells of
record TellsOf (books : Books) (about run : ℕ) : Type 0 where
  settled : Settled
  member : Contains books.settled settled
  by_run : settled.run ≡ run
  side : IsSide settled.pair about

module _ (books : Books) where
  one_side : (test : Bool) (p : Pair) (n : ℕ) → (if test then p.earlier else p.later) ≡ n → IsSide p n
  one_side true p n e = inl e
  one_side false p n e = inr e

  other_side : (test : Bool) (p : Pair) (n : ℕ) → (if test then p.later else p.earlier) ≡ n → IsSide p n
  other_side true p n e = inr e
  other_side false p n e = inl e

  tells_settled : (k run : ℕ) (t : Settled) (n : Notice) → In books.settled t → In (told_of_settled books.history k t) n → n.run ≡ Some run → TellsOf books n.about run
  tells_settled k run t n i j is =
      let both = out_of_if (t.run == k) _ n j in
      let at : t.run ≡ k = eqb-true t.run k both.0 in
      let delivered = is_delivered_by (instruction_at books.history t.pair.earlier) in
      let member = Contains-from_In books.settled t i in
      elim both.1 [
        | inl e ↦
            let same : k ≡ run = some_run k run (ap (λ (z : Notice). z.run) e ∙ is) in
            record { settled = t; member = member; by_run = at ∙ same; side = one_side delivered t.pair n.about (ap (λ (z : Notice). z.about) e) }
        | inr rest ↦ elim rest [
          | inl e ↦
              let same : k ≡ run = some_run k run (ap (λ (z : Notice). z.run) e ∙ is) in
              record { settled = t; member = member; by_run = at ∙ same; side = other_side delivered t.pair n.about (ap (λ (z : Notice). z.about) e) }
          | inr none ↦ absurd none
        ]
      ]

  tells_pair : (k run : ℕ) (p : Pair) (n : Notice) → In (told_of_pair k p) n → n.run ≡ Some run → ⊥
  tells_pair k run p n j is = elim (out_of_if (p.later == k) _ n j).1 [
    | inl e ↦ absurd (let clash : None ≡ Some run = ap (λ (z : Notice). z.run) e ∙ is in cc)
    | inr none ↦ absurd none
  ]

  tells_of : (n : Notice) (run : ℕ) → In (notices_of books) n → n.run ≡ Some run → TellsOf books n.about run
  tells_of n run i is =
      let at = from_flat (told_by books) (range_with_len 1 (length books.history)) n i in
      elim (In-cases (flat_map (told_of_pair at.0) books.pairs) (flat_map (told_of_settled books.history at.0) books.settled) n at.2) [
        | inl by_pair ↦ let p = from_flat (told_of_pair at.0) books.pairs n by_pair in absurd (tells_pair at.0 run p.0 n p.2 is)
        | inr by_settled ↦ let t = from_flat (told_of_settled books.history at.0) books.settled n by_settled in tells_settled at.0 run t.0 n t.1 t.2 is
      ]

module _ (books : Books) (are : AreBooks books) where
  pub all_known_upto : map (known_upto (length books.history)) (notices_of books) ≡ notices_of books
  all_known_upto = kept (notices_of books) (λ n i.
      let known = every_in (IsKnown books.history) (notices_of books) n (all_known books are) i in
      let within = (instruction_at-known books.history n.about known.0 known.1).1 in
      all_known_of (length books.history) n.about n.run within)
    where
      kept : (ns : List Notice) → ((n : Notice) → In ns n → known_upto (length books.history) n ≡ n) → map (known_upto (length books.history)) ns ≡ ns
      kept [] each = refl
      kept (n ∷ ns) each = rw (each n (inl refl), kept ns (λ x i. each x (inr i))) refl

  pub nothing_more : (n : ℕ) → is_settled books (n + 1) ≡ false → map (known_upto (n + 1)) (notices_of books) ≡ map (known_upto n) (notices_of books)
  nothing_more n unsettled = map_same (known_upto (n + 1)) (known_upto n) (notices_of books) (λ x i. each x.about x.run i)
    where
      each : (about : ℕ) (run : Option ℕ) → In (notices_of books) (record { about = about; run = run }) → known_upto (n + 1) (record { about = about; run = run }) ≡ known_upto n (record { about = about; run = run })
      each about None i = refl
      each about (Some run) i = one_more n about run (λ same.
          let of = tells_of books (of_run run about) run i refl in
          both_ways (is_settled books (n + 1)) unsettled (settled_with_side books are (n + 1) of.settled of.member (subst (IsSide of.settled.pair) same of.side)))

-- Elements by their places.

-- the place of what a search finds
record PlaceOf {X : Type 0} (p : X → Bool) (xs : List X) (x : X) : Type 0 where
  place : ℕ
  at : slice_get xs place ≡ Some x
  passes : p x ≡ true

some_same : {X : Type 0} (a b : X) → Some a ≡ Some b → a ≡ b
some_same a b e = cc

place_of : {X : Type 0} (p : X → Bool) (xs : List X) (x : X) → find p xs ≡ Some x → PlaceOf p xs x
place_of p [] x e = absurd (cc)
place_of {X} p (y ∷ ys) x e = elim (cases_Bool (p y)) [
  | inl here ↦
      let found : find p (y ∷ ys) ≡ Some y = rw here refl in
      let same = some_same y x (sym found ∙ e) in
      record { place = zero; at = ap Some same; passes = ap p (sym same) ∙ here }
  | inr other ↦
      let passed : find p (y ∷ ys) ≡ find p ys = rw other refl in
      let rest = place_of p ys x (sym passed ∙ e) in
      record { place = suc rest.place; at = rest.at; passes = rest.passes }
]

in_place : {X : Type 0} (xs : List X) (n : ℕ) (x : X) → slice_get xs n ≡ Some x → In xs x
in_place [] n x e = absurd (cc)
in_place (y ∷ ys) zero x e = inl (some_same y x e)
in_place (y ∷ ys) (suc n) x e = inr (in_place ys n x e)

-- how many elements pass
abbrev passing : {X : Type 0} → (X → Bool) → List X → ℕ
passing test xs = sum_by (λ x. quantity_if (test x) 1) xs

passing_yes : {X : Type 0} (test : X → Bool) (x : X) (xs : List X) → test x ≡ true → passing test (x ∷ xs) ≡ 1 + passing test xs
passing_yes test x xs e = let here = if_true (test x) 1 e in sum_by-cons (λ y. quantity_if (test y) 1) x xs ∙ omega (arith, here)

passing_no : {X : Type 0} (test : X → Bool) (x : X) (xs : List X) → test x ≡ false → passing test (x ∷ xs) ≡ passing test xs
passing_no test x xs e = let here = if_false (test x) 1 e in sum_by-cons (λ y. quantity_if (test y) 1) x xs ∙ omega (arith, here)

some_pass : {X : Type 0} (test : X → Bool) (xs : List X) (x : X) → In xs x → test x ≡ true → 1 ≤ passing test xs
some_pass test [] x i e = absurd i
some_pass test (y ∷ ys) x i e = elim (cases_Bool (test y)) [
  | inl here ↦ let c = passing_yes test y ys here in omega (arith, c)
  | inr other ↦ let c = passing_no test y ys other in elim i [
    | inl same ↦ absurd (both_ways (test y) other (ap test same ∙ e))
    | inr j ↦ let rest = some_pass test ys x j e in omega (arith, c, rest)
  ]
]

none_pass : {X : Type 0} (test : X → Bool) (xs : List X) (x : X) → passing test xs ≡ 0 → In xs x → test x ≡ false
none_pass test xs x none i = false_from_ne_true (test x) (λ e. let some = some_pass test xs x i e in absurd (omega (arith, some, none)))

-- where one element passes, two maps that differ only there give lists that differ only there
one_place : {X Y : Type 0} (test : X → Bool) (f g : X → Y) (xs : List X) (n : ℕ) (x : X) → ((y : X) → test y ≡ false → f y ≡ g y) → slice_get xs n ≡ Some x → test x ≡ true → passing test xs ≡ 1
    → map f xs ≡ slice_set (map g xs) n (f x)
one_place test f g [] n x same at e one = absurd (cc)
one_place test f g (y ∷ ys) zero x same at e one =
    let here = some_same y x at in
    let c = passing_yes test y ys (ap test here ∙ e) in
    rw (here, map_same f g ys (λ z i. same z (none_pass test ys z (omega (arith, c, one)) i))) refl
one_place test f g (y ∷ ys) (suc n) x same at e one = elim (cases_Bool (test y)) [
  | inl two ↦ absurd (let c = passing_yes test y ys two in let some = some_pass test ys x (in_place ys n x at) e in omega (arith, c, some, one))
  | inr other ↦ let c = passing_no test y ys other in rw (same y other, one_place test f g ys n x same at e (sym c ∙ one)) refl
]

-- The place of a confirmation.

-- the message of a place confirms an instruction: it tells of its settlement, and is the one that is found; and the
-- notices differ there alone, once the instruction is known
pub record ConfirmedAt (books : Books) (m : ℕ) (s : Settled) (i : Instructed) : Type 0 where
  pub place : ℕ
  pub is_notice : slice_get (notices_of books) place ≡ Some (record { about = m; run = Some s.run })
  pub message : confirmation_of books m ≡ Some (told books.history (place + 1) m (Some s.run) i)
  pub within : place < length (sent_of books)
  pub more : map (known_upto m) (notices_of books) ≡ slice_set (map (known_upto (m - 1)) (notices_of books)) place (record { about = m; run = Some s.run })

-- a notice of a run about an instruction
abbrev tells : ℕ → Notice → Bool
tells m n = is_some n.run && n.about == m

count_told : (h : List Entry) (m k about : ℕ) (run : Option ℕ) (i : Instructed) → count_by (confirms_it m) (told h k about run i ∷ []) ≡ quantity_if (is_some run && about == m) 1
count_told h m k about None i = sum_by-cons (λ z. cond (confirms_it m z) 1 0) (told h k about None i) []
count_told h m k about (Some run) i =
    let message = told h k about (Some run) i in
    let here : cond (confirms_it m message) 1 0 ≡ quantity_if (about == m) 1 = ap (λ b. quantity_if (b && about == m) 1) (confirming i.instruction.mt) in
    let one = sum_by-cons (λ z. cond (confirms_it m z) 1 0) message [] in
    one ∙ omega (arith, here)

-- as many messages confirm an instruction as notices tell of it
count_sent : (h : List Entry) (m k : ℕ) (ns : List Notice) → Every (IsKnown h) ns → count_by (confirms_it m) (sent_from h k ns) ≡ passing (tells m) ns
count_sent h m k [] all = refl
count_sent h m k (n ∷ ns) all =
    let here = ap (λ o. count_by (confirms_it m) (told_to h k n o)) all.0.1 ∙ count_told h m k n.about n.run all.0.0 in
    let rest = count_sent h m (k + 1) ns all.1 in
    let parts = sum_by-append (λ z. cond (confirms_it m z) 1 0) (told_to h k n (instruction_at h n.about)) (sent_from h (k + 1) ns) in
    let c = sum_by-cons (λ z. quantity_if (tells m z) 1) n ns in
    parts ∙ omega (arith, here, rest, c)

-- what confirms an instruction was told by a notice of a run
run_of : (h : List Entry) (m k about : ℕ) (run : Option ℕ) (i : Instructed) → confirms_it m (told h k about run i) ≡ true → (r : ℕ) × (run ≡ Some r) × (about ≡ m)
run_of h m k about None i e = absurd (cc)
run_of h m k about (Some r) i e = (r, refl, eqb-true about m (sym (ap (λ b. b && about == m) (confirming i.instruction.mt)) ∙ e))

-- without a run about it, a notice is the same before and after it is known
same_before : (m about : ℕ) (run : Option ℕ) → 0 < m → (is_some run && about == m) ≡ false → known_upto m (record { about = about; run = run }) ≡ known_upto (m - 1) (record { about = about; run = run })
same_before m about None some e = refl
same_before zero about (Some run) some e = absurd (omega arith)
same_before (suc m) about (Some run) some e =
    let after : suc m ≡ m + 1 = omega arith in
    let before : m ≡ suc m - 1 = omega arith in
    ap (λ n. known_upto n (of_run run about)) after
    ∙ one_more m about run (λ same. both_ways (about == suc m) e (eq-eqb about (suc m) (same ∙ sym after)))
    ∙ ap (λ n. known_upto n (of_run run about)) before

module _ (books : Books) (are : AreBooks books) (m : ℕ) (s : Settled) (i : Instructed) where
  -- each notice of a run about this instruction is of the run that settled it
  one_run : (n : Notice) (r : ℕ) → In (notices_of books) n → n.about ≡ m → n.run ≡ Some r → Contains books.settled s → IsSide s.pair m → r ≡ s.run
  one_run n r j about is member side =
      let of = tells_of books n r j is in
      sym of.by_run ∙ ap (λ (t : Settled). t.run) (one_settled books are m of.settled s of.member member (subst (IsSide of.settled.pair) about of.side) side)

  abbrev noted : ℕ → Option ℕ → Notice
  noted about run = record { about = about; run = run }

  same_notice : (n : Notice) → n.about ≡ m → n.run ≡ Some s.run → n ≡ of_run s.run m
  same_notice n about run = ap (λ a. noted a n.run) about ∙ ap (noted m) run

  same_told : (k : ℕ) (n : Notice) (x : Instructed) → n.about ≡ m → n.run ≡ Some s.run → x ≡ i → told books.history k n.about n.run x ≡ told books.history k m (Some s.run) i
  same_told k n x about run is = rw (about, run, is) refl

  pub confirmed_at : Contains books.settled s → IsSide s.pair m → instruction_at books.history m ≡ Some i → ConfirmedAt books m s i
  confirmed_at member side known =
      let found = settled_is_confirmed books s m i are member side known in
      let at = place_of (confirms_it m) (sent_of books) (told books.history found.0 m (Some s.run) i) found.1 in
      let is = sent_numbered books are at.place (told books.history found.0 m (Some s.run) i) at.at in
      let of = run_of books.history m (at.place + 1) is.notice.about is.notice.run is.instructed (ap (confirms_it m) (sym is.is) ∙ at.passes) in
      let run : is.notice.run ≡ Some s.run = of.1 ∙ ap Some (one_run is.notice of.0 (in_place (notices_of books) at.place is.notice is.is_notice) of.2 of.1 member side) in
      let who : is.instructed ≡ i = some_same is.instructed i (sym is.instructs ∙ ap (instruction_at books.history) of.2 ∙ known) in
      let place : slice_get (notices_of books) at.place ≡ Some (of_run s.run m) = is.is_notice ∙ ap Some (same_notice is.notice of.2 run) in
      let once : count_by (confirms_it m) (sent_of books) ≡ 1 = confirmed_once books are m ∙ ap (λ b. if b then 1 else 0) (settled_with_side books are m s member side) in
      let tells_it : tells m (of_run s.run m) ≡ true = eq-eqb m m refl in
      let some = (instruction_at-known books.history m i known).0 in
      record {
        place = at.place;
        is_notice = place;
        message = found.1 ∙ ap Some (is.is ∙ same_told (at.place + 1) is.notice is.instructed of.2 run who);
        within = slice_get-known (sent_of books) at.place (told books.history found.0 m (Some s.run) i) at.at;
        more =
            one_place (tells m) (known_upto m) (known_upto (m - 1)) (notices_of books) at.place (of_run s.run m) (λ n e. same_before m n.about n.run some e) place tells_it (sym (count_sent books.history m 1 (notices_of books) (all_known books are)) ∙ once)
            ∙ ap (slice_set (map (known_upto (m - 1)) (notices_of books)) at.place) (is_whole m s.run m (omega arith));
      }
