-- The confirmations that a history sends add up to what its settlements moved.
use Rattle.std.proofs.Common.{◌≡◌, ◌≢◌, ℕ, zero, suc, ◌+◌, ◌<◌, ◌≤◌, inl, inr, Bool, true, false, cond, if◌then◌else◌, List, [], ◌∷◌, length, sum_by, refl, sym, ◌∙◌, ap, arith, Option, Some, None}
use Rattle.std.specs.Prelude.{◌==◌}
use Rattle.std.specs.List.{range_with_len, flat_map}
use Rattle.std.proofs.lemmas.Bool.{cases_Bool, cases_eq, eqb-true, eq-eqb}
use Rattle.std.proofs.lemmas.List.Sums.{sum_by-cons, sum_by-append}
use Rattle.std.proofs.lemmas.List.Concat.{flat_map-cons}
use Rattle.desk_msg.specs.MessageType.{is_delivery}
use Rattle.desk_rules.specs.declared.history.entry.Entry.{Entry}
use Rattle.desk_rules.specs.declared.history.pair.Pair.{Pair}
use Rattle.desk_rules.specs.declared.history.pair.Settled.{Settled}
use Rattle.desk_rules.specs.History.{Instructed, entry_at, instruction_at}
use Rattle.desk_rules.specs.Opposite.{AreOpposite, AreOppositeAt}
use Rattle.desk_rules.specs.Balances.{is_delivered_by, deliverer_of, receiver_of, delivery_of, receipt_of, quantity_if}
use Rattle.desk_rules.specs.Sent.{Notice, told_of_pair, told_of_settled, told_by, notices_of, date_in}
use Rattle.desk_rules.specs.Books.{Books}
use Rattle.desk_rules.specs.Confirmations.{Confirmation, confirmation_by}
use Rattle.desk_rules.proofs.Decided.{In}
use Rattle.desk_rules.proofs.PairingLaws.{opposite_back}
use Rattle.desk_rules.proofs.BalanceLemmas.{sum_same}
use Rattle.desk_rules.proofs.Conservation.{sum_zero, sum_swap, if_true, if_false}
use Rattle.desk_rules.proofs.SaidConfirmations.{confirmations_to, confirmations_of}

pub sum_flat : {X Y : Type 0} (g : Y → ℕ) (f : X → List Y) (xs : List X) → sum_by g (flat_map f xs) ≡ sum_by (λ x. sum_by g (f x)) xs
sum_flat g f [] = refl
sum_flat g f (x ∷ xs) =
    ap (sum_by g) (flat_map-cons f x xs)
    ∙ sum_by-append g (f x) (flat_map f xs)
    ∙ ap (λ n. sum_by g (f x) + n) (sum_flat g f xs)
    ∙ sym (sum_by-cons (λ y. sum_by g (f y)) x xs)

-- a value at one number of a range is found once in all of it
none_at : (r v a n : ℕ) → r < a → sum_by (λ k. quantity_if (r == k) v) (range_with_len a n) ≡ 0
none_at r v a zero before = refl
none_at r v a (suc n) before =
    let c = sum_by-cons (λ k. quantity_if (r == k) v) a (range_with_len (a + 1) n) in
    let here = if_false (r == a) v (elim (cases_Bool (r == a)) [ inl e ↦ let same = eqb-true r a e in absurd (omega arith) | inr e ↦ e ]) in
    let rest = none_at r v (a + 1) n (omega arith) in
    c ∙ omega (arith, here, rest)

pub found_at : (r v a n : ℕ) → a ≤ r → r < a + n → sum_by (λ k. quantity_if (r == k) v) (range_with_len a n) ≡ v
found_at r v a zero from below = absurd (omega arith)
found_at r v a (suc n) from below =
    let c = sum_by-cons (λ k. quantity_if (r == k) v) a (range_with_len (a + 1) n) in
    elim (cases_eq r a) [
      | inl e ↦
          let here : quantity_if (r == a) v ≡ v = if_true (r == a) v (eq-eqb r a e) in
          let rest = none_at r v (a + 1) n (omega arith) in
          c ∙ omega (arith, here, rest)
      | inr e ↦
          let here : quantity_if (r == a) v ≡ 0 = if_false (r == a) v (elim (cases_Bool (r == a)) [ inl t ↦ absurd (e (eqb-true r a t)) | inr f ↦ f ]) in
          let rest = found_at r v (a + 1) n (omega arith) (omega arith) in
          c ∙ omega (arith, here, rest)
    ]

-- a sum over a list that stands only where a test holds
pub sum_if : {X : Type 0} (g : X → ℕ) (test : Bool) (xs : List X) → sum_by g (if test then xs else []) ≡ quantity_if test (sum_by g xs)
sum_if g true xs = refl
sum_if g false xs = refl

-- the delivery and the receipt of a pair, by their types
pub record HasLegs (h : List Entry) (p : Pair) : Type 0 where
  pub delivery : Instructed
  pub receipt : Instructed
  pub delivered : delivery_of h p ≡ Some delivery
  pub received : receipt_of h p ≡ Some receipt
  pub delivers : is_delivery delivery.instruction.mt ≡ true
  pub receives : is_delivery receipt.instruction.mt ≡ false
  pub opposite : AreOpposite delivery receipt

other_leg : (a b : Bool) → a ≢ b → a ≡ true → b ≡ false
other_leg a true apart e = absurd (apart e)
other_leg a false apart e = refl

this_leg : (a b : Bool) → a ≢ b → a ≡ false → b ≡ true
this_leg a true apart e = refl
this_leg a false apart e = absurd (apart e)

pub legs_of : (h : List Entry) (p : Pair) → AreOppositeAt h p.earlier p.later → HasLegs h p
legs_of h p o =
    let test : is_delivered_by (instruction_at h p.earlier) ≡ is_delivery o.first.instruction.mt = ap is_delivered_by o.is_first in
    elim (cases_Bool (is_delivery o.first.instruction.mt)) [
      | inl e ↦ record {
        delivery = o.first;
        receipt = o.second;
        delivered = ap (λ b. instruction_at h (cond b p.earlier p.later)) (test ∙ e) ∙ o.is_first;
        received = ap (λ b. instruction_at h (cond b p.later p.earlier)) (test ∙ e) ∙ o.is_second;
        delivers = e;
        receives = other_leg (is_delivery o.first.instruction.mt) (is_delivery o.second.instruction.mt) o.opposite.sides e;
        opposite = o.opposite;
      }
      | inr e ↦ record {
        delivery = o.second;
        receipt = o.first;
        delivered = ap (λ b. instruction_at h (cond b p.earlier p.later)) (test ∙ e) ∙ o.is_second;
        received = ap (λ b. instruction_at h (cond b p.later p.earlier)) (test ∙ e) ∙ o.is_first;
        delivers = this_leg (is_delivery o.first.instruction.mt) (is_delivery o.second.instruction.mt) o.opposite.sides e;
        receives = e;
        opposite = opposite_back o.first o.second o.opposite;
      }
    ]

-- A measure of notices that says nothing of pairing is, over all notices, its sum over the settlements.
module _ (books : Books) (value : Notice → ℕ) (silent : (about : ℕ) → value (record { about = about; run = None }) ≡ 0) where
  -- its value at the two notices of a settlement
  abbrev pub value_of_settled : Settled → ℕ
  value_of_settled s =
      value (record { about = deliverer_of books.history s.pair; run = Some s.run }) + value (record { about = receiver_of books.history s.pair; run = Some s.run })

  pair_value : (n : ℕ) (p : Pair) → sum_by value (told_of_pair n p) ≡ 0
  pair_value n p =
      let told : Notice = record { about = p.earlier; run = None } in
      let none : value told ≡ 0 = silent p.earlier in
      let one = sum_by-cons value told [] in
      sum_if value (p.later == n) (told ∷ []) ∙ nothing (p.later == n) (sum_by value (told ∷ [])) (one ∙ omega (arith, none))
    where
      nothing : (test : Bool) (m : ℕ) → m ≡ 0 → quantity_if test m ≡ 0
      nothing true m e = e
      nothing false m e = refl

  abbrev notices_at : Settled → ℕ → List Notice
  notices_at s run = record { about = deliverer_of books.history s.pair; run = Some run } ∷ record { about = receiver_of books.history s.pair; run = Some run } ∷ []

  value_at : (s : Settled) → sum_by value (notices_at s s.run) ≡ value_of_settled s
  value_at s =
      let gone : Notice = record { about = deliverer_of books.history s.pair; run = Some s.run } in
      let come : Notice = record { about = receiver_of books.history s.pair; run = Some s.run } in
      let first = sum_by-cons value gone (come ∷ []) in
      let second = sum_by-cons value come [] in
      omega (arith, first, second)

  settled_value : (n : ℕ) (s : Settled) → sum_by value (told_of_settled books.history n s) ≡ quantity_if (s.run == n) (value_of_settled s)
  settled_value n s = sum_if value (s.run == n) (notices_at s n) ∙ at_run (s.run == n) (eqb-true s.run n)
    where
      at_run : (test : Bool) → (test ≡ true → s.run ≡ n) → quantity_if test (sum_by value (notices_at s n)) ≡ quantity_if test (value_of_settled s)
      at_run true same = ap (λ run. sum_by value (notices_at s run)) (sym (same refl)) ∙ value_at s
      at_run false same = refl

  told_value : (n : ℕ) → sum_by value (told_by books n) ≡ sum_by (λ s. quantity_if (s.run == n) (value_of_settled s)) books.settled
  told_value n =
      let parts = sum_by-append value (flat_map (told_of_pair n) books.pairs) (flat_map (told_of_settled books.history n) books.settled) in
      let pairs = sum_flat value (told_of_pair n) books.pairs ∙ sum_zero (λ p. sum_by value (told_of_pair n p)) books.pairs (λ p i. pair_value n p) in
      let settled = sum_flat value (told_of_settled books.history n) books.settled ∙ sum_same (λ s. sum_by value (told_of_settled books.history n s)) (λ s. quantity_if (s.run == n) (value_of_settled s)) books.settled (λ s i. settled_value n s) in
      parts ∙ omega (arith, pairs, settled)

  pub all_told : ((s : Settled) → In books.settled s → (1 ≤ s.run) × (s.run < 1 + length books.history)) → sum_by value (notices_of books) ≡ sum_by value_of_settled books.settled
  all_told ranged =
      let range = range_with_len 1 (length books.history) in
      sum_flat value (told_by books) range
      ∙ sum_same (λ n. sum_by value (told_by books n)) (λ n. sum_by (λ s. quantity_if (s.run == n) (value_of_settled s)) books.settled) range (λ n i. told_value n)
      ∙ sum_swap (λ n s. quantity_if (s.run == n) (value_of_settled s)) range books.settled
      ∙ sum_same (λ s. sum_by (λ n. quantity_if (s.run == n) (value_of_settled s)) range) value_of_settled books.settled (λ s i. let r = ranged s i in found_at s.run (value_of_settled s) 1 (length books.history) r.0 r.1)

-- A measure of confirmations that does not look at the day, and what it is of an instruction.
module _ (books : Books) (f : Confirmation → ℕ) (g : Instructed → ℕ) (same : (i : Instructed) (day : List ℕ) → f (confirmation_by i day) ≡ g i) where
  abbrev pub of_leg : Option Instructed → ℕ
  of_leg None = 0
  of_leg (Some i) = g i

  abbrev value : Notice → ℕ
  value n = sum_by f (confirmations_to books.history n.run (instruction_at books.history n.about))

  sum_confirmations : (ns : List Notice) → sum_by f (confirmations_of books.history ns) ≡ sum_by value ns
  sum_confirmations [] = refl
  sum_confirmations (n ∷ ns) =
      sum_by-append f (confirmations_to books.history n.run (instruction_at books.history n.about)) (confirmations_of books.history ns)
      ∙ ap (λ m. value n + m) (sum_confirmations ns)
      ∙ sym (sum_by-cons value n ns)

  leg_value : (run : ℕ) (o : Option Instructed) → sum_by f (confirmations_to books.history (Some run) o) ≡ of_leg o
  leg_value run None = refl
  leg_value run (Some i) =
      let confirmation = confirmation_by i (date_in (entry_at books.history run)) in
      let one = sum_by-cons f confirmation [] in
      let is = same i (date_in (entry_at books.history run)) in
      one ∙ omega (arith, is)

  abbrev pub legs_value : Settled → ℕ
  legs_value s = of_leg (delivery_of books.history s.pair) + of_leg (receipt_of books.history s.pair)

  -- all that is said is what the settlements moved
  pub all_said : ((s : Settled) → In books.settled s → (1 ≤ s.run) × (s.run < 1 + length books.history)) → sum_by f (confirmations_of books.history (notices_of books)) ≡ sum_by legs_value books.settled
  all_said ranged =
      sum_confirmations (notices_of books)
      ∙ all_told books value (λ about. refl) ranged
      ∙ sum_same (value_of_settled books value (λ about. refl)) legs_value books.settled (λ s i.
      let delivered = leg_value s.run (delivery_of books.history s.pair) in
      let received = leg_value s.run (receipt_of books.history s.pair) in
      omega (arith, delivered, received))
