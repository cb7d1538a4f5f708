-- Each notice is one message, so the messages are numbered in their order; and how many there are.
use Rattle.std.proofs.Common.{◌≡◌, ℕ, zero, suc, ◌+◌, ◌*◌, ◌<◌, ◌≤◌, inl, inr, Bool, true, false, if◌then◌else◌, List, [], ◌∷◌, ◌++◌, length, sum_by, refl, sym, ◌∙◌, ap, arith, Contains, Some}
use Rattle.std.specs.Prelude.{◌==◌, slice_get}
use Rattle.std.specs.List.{range_with_len, flat_map, list_any}
use Rattle.std.proofs.lemmas.Bool.{eqb-true, ltb-true}
use Rattle.std.proofs.lemmas.List.Sums.{sum_by-cons, sum_by-append}
use Rattle.desk_rules.specs.declared.history.entry.Entry.{Entry}
use Rattle.desk_rules.specs.declared.history.pair.Pair.{Pair}
use Rattle.desk_rules.specs.declared.history.pair.Settled.{Settled}
use Rattle.desk_rules.specs.declared.answers.reply.Sent.{Sent}
use Rattle.desk_rules.specs.declared.limits.TheConstants.{MOST_ENTRIES, MOST_SENT}
use Rattle.desk_rules.specs.History.{Instructed, instruction_at}
use Rattle.desk_rules.specs.Balances.{quantity_if}
use Rattle.desk_rules.specs.Sent.{Notice, told_of_pair, told_of_settled, told_by, notices_of, told, told_to, sent_from, sent_of}
use Rattle.desk_rules.specs.Laws.{TellsNotice}
use Rattle.desk_rules.specs.Books.{Books, AreBooks}
use Rattle.desk_rules.proofs.Decided.{In, In-from_Contains, Contains-from_In, Ordered-from_AllPairs}
use Rattle.desk_rules.proofs.BalanceLemmas.{sum_same}
use Rattle.desk_rules.proofs.Conservation.{sum_add, sum_swap}
use Rattle.desk_rules.proofs.ConfirmedSums.{found_at, legs_of, sum_flat, sum_if}
use Rattle.desk_rules.proofs.LegsConfirmed.{count_one}
use Rattle.desk_rules.proofs.PairingLaws.{one_pair_of, settled_once}
use Rattle.desk_rules.proofs.PairingLemmas.{decided_pairing, lower}
use Rattle.desk_rules.proofs.SettlementLemmas.{due_facts, due_known, ordered_pairs, precedes_strict}
use Rattle.desk_rules.specs.Settlement.{precedes}

-- What holds of each member, by recursion.

abbrev pub Every : {X : Type 0} → (X → Type 0) → List X → Type 0
Every P [] = Unit {0}
Every P (x ∷ xs) = P x × Every P xs

pub every_joined : {X : Type 0} (P : X → Type 0) (xs ys : List X) → Every P xs → Every P ys → Every P (xs ++ ys)
every_joined P [] ys a b = b
every_joined P (x ∷ xs) ys a b = (a.0, every_joined P xs ys a.1 b)

pub every_flat : {X Y : Type 0} (P : Y → Type 0) (f : X → List Y) (xs : List X) → ((x : X) → In xs x → Every P (f x)) → Every P (flat_map f xs)
every_flat P f [] each = tt
every_flat P f (x ∷ xs) each = every_joined P (f x) (flat_map f xs) (each x (inl refl)) (every_flat P f xs (λ y i. each y (inr i)))

pub every_if : {X : Type 0} (P : X → Type 0) (test : Bool) (xs : List X) → Every P xs → Every P (if test then xs else [])
every_if P true xs all = all
every_if P false xs all = tt

-- a notice is about an instruction
abbrev pub IsKnown : List Entry → Notice → Type 0
IsKnown h n = (i : Instructed) × (instruction_at h n.about ≡ Some i)

-- Of notices about instructions each gives one message, and the first the number k.

told_known : (h : List Entry) (k : ℕ) (n : Notice) (is : IsKnown h n) → told_to h k n (instruction_at h n.about) ≡ told h k n.about n.run is.0 ∷ []
told_known h k n is = ap (told_to h k n) is.1

pub sent_length : (h : List Entry) (k : ℕ) (ns : List Notice) → Every (IsKnown h) ns → length (sent_from h k ns) ≡ length ns
sent_length h k [] all = refl
sent_length h k (n ∷ ns) all = ap (λ z. length (z ++ sent_from h (k + 1) ns)) (told_known h k n all.0) ∙ ap suc (sent_length h (k + 1) ns all.1)

-- the notice of a place, and its message
record IsAt (h : List Entry) (k : ℕ) (ns : List Notice) (j : ℕ) (message : Sent) : Type 0 where
  notice : Notice
  is_notice : slice_get ns j ≡ Some notice
  instructed : Instructed
  instructs : instruction_at h notice.about ≡ Some instructed
  is : message ≡ told h (k + j) notice.about notice.run instructed

sent_at : (h : List Entry) (k : ℕ) (ns : List Notice) (j : ℕ) (message : Sent) → Every (IsKnown h) ns → slice_get (sent_from h k ns) j ≡ Some message → IsAt h k ns j message
sent_at h k [] j message all is = absurd (cc)
sent_at h k (n ∷ ns) zero message all is =
    let this = told h k n.about n.run all.0.0 in
    let first : slice_get (sent_from h k (n ∷ ns)) zero ≡ Some this = ap (λ z. slice_get (z ++ sent_from h (k + 1) ns) zero) (told_known h k n all.0) in
    let both : Some this ≡ Some message = sym first ∙ is in
    let same : this ≡ message = cc in
    let number : k ≡ k + zero = omega arith in
    record { notice = n; is_notice = refl; instructed = all.0.0; instructs = all.0.1; is = sym same ∙ ap (λ m. told h m n.about n.run all.0.0) number }
sent_at h k (n ∷ ns) (suc j) message all is =
    let rest : slice_get (sent_from h k (n ∷ ns)) (suc j) ≡ slice_get (sent_from h (k + 1) ns) j = ap (λ z. slice_get (z ++ sent_from h (k + 1) ns) (suc j)) (told_known h k n all.0) in
    let number : k + 1 + j ≡ k + suc j = omega arith in
    let later = sent_at h (k + 1) ns j message all.1 (sym rest ∙ is) in
    record {
      notice = later.notice;
      is_notice = later.is_notice;
      instructed = later.instructed;
      instructs = later.instructs;
      is = later.is ∙ ap (λ m. told h m later.notice.about later.notice.run later.instructed) number;
    }

ones : {X : Type 0} (xs : List X) → sum_by (λ x. 1) xs ≡ length xs
ones [] = refl
ones (x ∷ xs) = let rest = ones xs in let c = sum_by-cons (λ y. 1) x xs in omega (arith, rest, c)

twos : {X : Type 0} (xs : List X) → sum_by (λ x. 2) xs ≡ 2 * length xs
twos [] = refl
twos (x ∷ xs) = let rest = twos xs in sum_by-cons (λ y. 2) x xs ∙ omega (arith, rest)

at_most : {X : Type 0} (f : X → ℕ) (xs : List X) → ((x : X) → f x ≤ 1) → sum_by f xs ≤ length xs
at_most f [] each = omega arith
at_most f (x ∷ xs) each = let c = sum_by-cons f x xs in let here = each x in let rest = at_most f xs each in omega (arith, c, here, rest)

one_at_most : (test : Bool) → quantity_if test 1 ≤ 1
one_at_most true = omega arith
one_at_most false = omega arith

range_length : (a n : ℕ) → length (range_with_len a n) ≡ n
range_length a zero = refl
range_length a (suc n) = ap suc (range_length (a + 1) n)

-- what has a number of a range each, and no two the same, is no more than the range
numbered_few : {X : Type 0} (number : X → ℕ) (lt : X → X → Bool) (xs : List X) (n : ℕ) → ((x : X) → In xs x → (1 ≤ number x) × (number x < 1 + n))
    → ((m : ℕ) → sum_by (λ x. quantity_if (number x == m) 1) xs ≤ 1) → length xs ≤ n
numbered_few number lt xs n ranged once =
    let range = range_with_len 1 n in
    let each = sum_same (λ x. sum_by (λ m. quantity_if (number x == m) 1) range) (λ x. 1) xs (λ x i. let r = ranged x i in found_at (number x) 1 1 n r.0 r.1) in
    let swapped = sum_swap (λ m x. quantity_if (number x == m) 1) range xs in
    let most = at_most (λ m. sum_by (λ x. quantity_if (number x == m) 1) xs) range once in
    let all = ones xs in
    let size = range_length 1 n in
    omega (arith, each, swapped, most, all, size)

module _ (books : Books) (are : AreBooks books) where
  pair_known : (p : Pair) → In books.pairs p → (1 ≤ p.later) × (p.later < 1 + length books.history)
  pair_known p i =
      let later = (decided_pairing books.history books.pairs are.pairing).within p i in
      let mate = (are.pairing.exact p).0 (Contains-from_In books.pairs p i) in
      let earlier = mate.candidate.earlier in
      (omega (arith, earlier), omega (arith, later))

  pub settled_pair : (s : Settled) → In books.settled s → Contains books.pairs s.pair
  settled_pair s i = let m = (are.settlement.exact s).0 (Contains-from_In books.settled s i) in m.paired

  settled_known : (s : Settled) → In books.settled s → (1 ≤ s.run) × (s.run < 1 + length books.history)
  settled_known s i =
      let settles = (are.settlement.exact s).0 (Contains-from_In books.settled s i) in
      let due = due_facts books.history s.run s.pair settles.due in
      let numbered = due.numbered in
      let below = due_known books.history s.run s.pair settles.due in
      (omega (arith, numbered), omega (arith, below))

  -- each notice is about an instruction
  pub all_known : Every (IsKnown books.history) (notices_of books)
  all_known = every_flat (IsKnown books.history) (told_by books) (range_with_len 1 (length books.history)) (λ n i.
      every_joined (IsKnown books.history) (flat_map (told_of_pair n) books.pairs) (flat_map (told_of_settled books.history n) books.settled)
      (every_flat (IsKnown books.history) (told_of_pair n) books.pairs (λ p j.
      let mate = (are.pairing.exact p).0 (Contains-from_In books.pairs p j) in
      let opposite = mate.candidate.opposite in
      every_if (IsKnown books.history) (p.later == n) _ ((opposite.first, opposite.is_first), tt)))
      (every_flat (IsKnown books.history) (told_of_settled books.history n) books.settled (λ s j.
      let mate = (are.pairing.exact s.pair).0 (settled_pair s j) in
      let legs = legs_of books.history s.pair mate.candidate.opposite in
      every_if (IsKnown books.history) (s.run == n) _ ((legs.delivery, legs.delivered), ((legs.receipt, legs.received), tt)))))

  pub sent_numbered : (n : ℕ) (message : Sent) → slice_get (sent_of books) n ≡ Some message → TellsNotice books n message
  sent_numbered n message is =
      let number : 1 + n ≡ n + 1 = omega arith in
      let at = sent_at books.history 1 (notices_of books) n message all_known is in
      record {
        notice = at.notice;
        is_notice = at.is_notice;
        instructed = at.instructed;
        instructs = at.instructs;
        is = at.is ∙ ap (λ m. told books.history m at.notice.about at.notice.run at.instructed) number;
      }

  -- one notice of each pair, and two of each settlement

  pair_notices : (n : ℕ) (p : Pair) → sum_by (λ x. 1) (told_of_pair n p) ≡ quantity_if (p.later == n) 1
  pair_notices n p = sum_if (λ x. 1) (p.later == n) _

  settled_notices : (n : ℕ) (s : Settled) → sum_by (λ x. 1) (told_of_settled books.history n s) ≡ quantity_if (s.run == n) 2
  settled_notices n s = sum_if (λ x. 1) (s.run == n) _

  notices_by : (n : ℕ) → sum_by (λ x. 1) (told_by books n) ≡ sum_by (λ p. quantity_if (p.later == n) 1) books.pairs + sum_by (λ s. quantity_if (s.run == n) 2) books.settled
  notices_by n =
      let parts = sum_by-append (λ x. 1) (flat_map (told_of_pair n) books.pairs) (flat_map (told_of_settled books.history n) books.settled) in
      let pairs = sum_flat (λ x. 1) (told_of_pair n) books.pairs ∙ sum_same (λ p. sum_by (λ x. 1) (told_of_pair n p)) (λ p. quantity_if (p.later == n) 1) books.pairs (λ p i. pair_notices n p) in
      let settled = sum_flat (λ x. 1) (told_of_settled books.history n) books.settled ∙ sum_same (λ s. sum_by (λ x. 1) (told_of_settled books.history n s)) (λ s. quantity_if (s.run == n) 2) books.settled (λ s i. settled_notices n s) in
      omega (arith, parts, pairs, settled)

  pub sent_counted : length (sent_of books) ≡ length books.pairs + 2 * length books.settled
  sent_counted =
      let range = range_with_len 1 (length books.history) in
      let by_pairs : ℕ → ℕ = λ n. sum_by (λ (p : Pair). quantity_if (p.later == n) 1) books.pairs in
      let by_settled : ℕ → ℕ = λ n. sum_by (λ (s : Settled). quantity_if (s.run == n) 2) books.settled in
      let sizes = sent_length books.history 1 (notices_of books) all_known in
      let counted = ones (notices_of books) in
      let flat = sum_flat (λ x. 1) (told_by books) range in
      let each = sum_same (λ n. sum_by (λ x. 1) (told_by books n)) (λ n. by_pairs n + by_settled n) range (λ n i. notices_by n) in
      let apart = sum_add by_pairs by_settled range in
      let pairs = sum_swap (λ n (p : Pair). quantity_if (p.later == n) 1) range books.pairs
      ∙ sum_same (λ p. sum_by (λ n. quantity_if (p.later == n) 1) range) (λ p. 1) books.pairs (λ p i. let r = pair_known p i in found_at p.later 1 1 (length books.history) r.0 r.1)
      ∙ ones books.pairs in
      let settled = sum_swap (λ n (s : Settled). quantity_if (s.run == n) 2) range books.settled
      ∙ sum_same (λ s. sum_by (λ n. quantity_if (s.run == n) 2) range) (λ s. 2) books.settled (λ s i. let r = settled_known s i in found_at s.run 2 1 (length books.history) r.0 r.1)
      ∙ twos books.settled in
      omega (arith, sizes, counted, flat, each, apart, pairs, settled)

  -- no number is that of two pairs, nor of two settled ones

  same_pair : (n : ℕ) (p q : Pair) → In books.pairs p → In books.pairs q → (p.later == n) ≡ true → (q.later == n) ≡ true → p ≡ q
  same_pair n p q i j a b = one_pair_of books.history books.pairs p q n are.pairing (Contains-from_In books.pairs p i) (Contains-from_In books.pairs q j) (inr (eqb-true p.later n a)) (inr (eqb-true q.later n b))

  same_settled : (n : ℕ) (s t : Settled) → In books.settled s → In books.settled t → (s.pair.later == n) ≡ true → (t.pair.later == n) ≡ true → s ≡ t
  same_settled n s t i j a b =
      settled_once books.history books.pairs books.settled s t are.settlement (Contains-from_In books.settled s i) (Contains-from_In books.settled t j)
      (same_pair n s.pair t.pair (In-from_Contains books.pairs s.pair (settled_pair s i)) (In-from_Contains books.pairs t.pair (settled_pair t j)) a b)

  lower_never : (p : Pair) → lower p p ≡ true → ⊥
  lower_never p e = let lt = ltb-true p.later p.later e in absurd (omega (arith, lt))

  pairs_few : length books.pairs ≤ length books.history
  pairs_few = numbered_few (λ (p : Pair). p.later) lower books.pairs (length books.history) pair_known (λ m.
      let one = count_one (λ (p : Pair). p.later == m) lower books.pairs lower_never (ordered_pairs books.history books.pairs are.pairing) (same_pair m) in
      let most = one_at_most (list_any (λ (p : Pair). p.later == m) books.pairs) in
      omega (arith, one, most))

  settled_few : length books.settled ≤ length books.history
  settled_few = numbered_few (λ (s : Settled). s.pair.later) (precedes books.history) books.settled (length books.history)
      (λ s i. pair_known s.pair (In-from_Contains books.pairs s.pair (settled_pair s i)))
      (λ m.
      let one = count_one (λ (s : Settled). s.pair.later == m) (precedes books.history) books.settled (precedes_strict books.history).never (Ordered-from_AllPairs (precedes books.history) books.settled are.settlement.in_order) (same_settled m) in
      let most = one_at_most (list_any (λ (s : Settled). s.pair.later == m) books.settled) in
      omega (arith, one, most))

  pub sent_few : length books.history ≤ MOST_ENTRIES → length (sent_of books) < MOST_SENT
  sent_few within = let all = sent_counted in let pairs = pairs_few in let settled = settled_few in omega (arith, within, all, pairs, settled)
