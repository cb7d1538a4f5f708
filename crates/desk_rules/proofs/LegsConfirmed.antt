-- The confirmations that are sent come in twos, of each settlement once.
use Rattle.std.proofs.Common.{◌≡◌, ℕ, ◌+◌, ◌<◌, ◌≤◌, ◌⊎◌, inl, inr, Bool, true, false, ◌&&◌, cond, if◌then◌else◌, List, [], ◌∷◌, ◌++◌, length, sum_by, append_assoc, append-nil, refl, sym, ◌∙◌, ap, subst, arith, Contains, Option, Some, None}
use Rattle.std.specs.Prelude.{◌==◌, ◌||◌, nat_le, MatchBool, count_by}
use Rattle.std.specs.List.{range_with_len, flat_map, list_any}
use Rattle.std.proofs.lemmas.Bool.{both_ways, cases_Bool, eqb-true, eq-eqb, or_cases}
use Rattle.std.proofs.lemmas.List.Concat.{flat_map-cons}
use Rattle.std.proofs.lemmas.List.Sums.{sum_by-cons, sum_by-append}
use Rattle.desk_codes.specs.Day.{IsDay}
use Rattle.desk_msg.specs.declared.mt.Mt.{Mt}
use Rattle.desk_msg.specs.declared.mt.Mt.TheVariants.{Mt540, Mt541, Mt542, Mt543, Mt544, Mt545, Mt546, Mt547}
use Rattle.desk_msg.specs.MessageType.{is_delivery, is_against_payment, number_of_type}
use Rattle.desk_msg.specs.ConfirmationText.{confirming_type}
use Rattle.desk_msg.specs.Confirms.{paid_by}
use Rattle.desk_msg.proofs.ConfirmationLaws.{confirms}
use Rattle.desk_rules.specs.declared.history.entry.Entry.{Entry}
use Rattle.desk_rules.specs.declared.history.pair.Pair.{Pair}
use Rattle.desk_rules.specs.declared.history.pair.Settled.{Settled}
use Rattle.desk_rules.specs.declared.answers.reply.Sent.{Sent}
use Rattle.desk_rules.specs.History.{Instructed, entry_at, instruction_at}
use Rattle.desk_rules.specs.Balances.{is_delivered_by, deliverer_of, receiver_of, quantity_if}
use Rattle.desk_rules.specs.Pairing.{IsSide, has_side}
use Rattle.desk_rules.specs.Settlement.{precedes}
use Rattle.desk_rules.specs.Sent.{Notice, told_of_pair, told_of_settled, told_by, notices_of, date_in, told, told_to, sent_from, sent_of}
use Rattle.desk_rules.specs.Books.{Books, AreBooks, is_settled}
use Rattle.desk_rules.specs.Questions.{confirms_it}
use Rattle.desk_rules.specs.Confirmations.{SaysConfirmation, confirmation_by, is_confirmation}
use Rattle.desk_rules.specs.WellFormed.{AreWellFormed}
use Rattle.desk_rules.specs.BothLegs.{AreOfOne, ConfirmBothLegs, ComeInTwos, ConfirmsSettled, NeighboursAreOfOne, StandTogether, confirms_delivery, confirms_receipt}
use Rattle.desk_rules.proofs.Decided.{In, Contains-from_In, Ordered, Ordered-from_AllPairs}
use Rattle.desk_rules.proofs.SideLemmas.{any-In}
use Rattle.desk_rules.proofs.BalanceLemmas.{sum_same}
use Rattle.desk_rules.proofs.Conservation.{sum_zero, if_true, if_false}
use Rattle.desk_rules.proofs.SettlementLemmas.{precedes_strict, due_facts, due_known}
use Rattle.desk_rules.proofs.PairingLaws.{one_pair_of, settled_once}
use Rattle.desk_rules.proofs.WellFormedLemmas.{readable_at}
use Rattle.desk_rules.proofs.SaidConfirmations.{confirming}
use Rattle.desk_rules.proofs.SettledConfirmed.{in_range}
use Rattle.desk_rules.proofs.ConfirmedSums.{legs_of, all_told, value_of_settled}
use Rattle.desk_rules.proofs.ConfirmedChanges.{IsKnown, known}

-- Messages in twos.

skipped : (message : Sent) (messages : List Sent) → is_confirmation message ≡ false → ComeInTwos messages → ComeInTwos (message ∷ messages)
skipped message [] e rest = e
skipped message (second ∷ messages) e rest =
    let P : Bool → Type 0 = λ b. MatchBool b (ConfirmBothLegs message second × ComeInTwos messages) (ComeInTwos (second ∷ messages)) in
    subst P (sym e) rest

two_more : (first second : Sent) (messages : List Sent) → is_confirmation first ≡ true → ConfirmBothLegs first second → ComeInTwos messages → ComeInTwos (first ∷ second ∷ messages)
two_more first second messages e legs rest =
    let P : Bool → Type 0 = λ b. MatchBool b (ConfirmBothLegs first second × ComeInTwos messages) (ComeInTwos (second ∷ messages)) in
    subst P (sym e) (legs, rest)

-- Neighbours.

-- any two neighbours that confirm a delivery and a receipt are those of one settlement, from the first message on
abbrev AreOfOneEach : Books → List Sent → Type 0
AreOfOneEach books [] = Unit {0}
AreOfOneEach books (message ∷ []) = Unit {0}
AreOfOneEach books (first ∷ second ∷ messages) = (confirms_delivery first ≡ true → confirms_receipt second ≡ true → AreOfOne books first second) × AreOfOneEach books (second ∷ messages)

-- before what confirms no delivery nothing is said
one_more : (books : Books) (message : Sent) (messages : List Sent) → confirms_delivery message ≡ false → AreOfOneEach books messages → AreOfOneEach books (message ∷ messages)
one_more books message [] other rest = tt
one_more books message (second ∷ messages) other rest = ((λ delivery receipt. absurd (both_ways (confirms_delivery message) other delivery)), rest)

each_neighbours : (books : Books) (front rest : List Sent) (first second : Sent) → AreOfOneEach books (front ++ first ∷ second ∷ rest) → confirms_delivery first ≡ true → confirms_receipt second ≡ true → AreOfOne books first second
each_neighbours books [] rest first second each = each.0
each_neighbours books (a ∷ []) rest first second each = each_neighbours books [] rest first second each.1
each_neighbours books (a ∷ b ∷ front) rest first second each = each_neighbours books (b ∷ front) rest first second each.1

-- what confirms a receipt confirms no delivery
receipt_alone : (mt : Mt) → is_delivery mt ≡ false → (nat_le 546 (number_of_type (confirming_type mt)) && nat_le (number_of_type (confirming_type mt)) 547) ≡ false
receipt_alone Mt540 receives = refl
receipt_alone Mt541 receives = refl
receipt_alone Mt542 receives = absurd (cc)
receipt_alone Mt543 receives = absurd (cc)
receipt_alone Mt544 receives = refl
receipt_alone Mt545 receives = refl
receipt_alone Mt546 receives = absurd (cc)
receipt_alone Mt547 receives = absurd (cc)

-- the number of the type that confirms a type
abbrev confirming_number : Bool → Bool → ℕ
confirming_number true true = 547
confirming_number true false = 546
confirming_number false true = 545
confirming_number false false = 544

number_confirming : (mt : Mt) → number_of_type (confirming_type mt) ≡ confirming_number (is_delivery mt) (is_against_payment mt)
number_confirming Mt540 = refl
number_confirming Mt541 = refl
number_confirming Mt542 = refl
number_confirming Mt543 = refl
number_confirming Mt544 = refl
number_confirming Mt545 = refl
number_confirming Mt546 = refl
number_confirming Mt547 = refl

two_numbers : (m n : ℕ) (against : Bool) → m ≡ confirming_number true against → n ≡ confirming_number false against → ((m ≡ 546) × (n ≡ 544)) ⊎ ((m ≡ 547) × (n ≡ 545))
two_numbers m n true a b = inr (a, b)
two_numbers m n false a b = inl (a, b)

types_of_legs : (delivery receipt : Mt) → is_delivery delivery ≡ true → is_delivery receipt ≡ false → is_against_payment delivery ≡ is_against_payment receipt
    → ((number_of_type (confirming_type delivery) ≡ 546) × (number_of_type (confirming_type receipt) ≡ 544)) ⊎ ((number_of_type (confirming_type delivery) ≡ 547) × (number_of_type (confirming_type receipt) ≡ 545))
types_of_legs delivery receipt delivers receives same =
    two_numbers (number_of_type (confirming_type delivery)) (number_of_type (confirming_type receipt)) (is_against_payment delivery)
    (number_confirming delivery ∙ ap (λ b. confirming_number b (is_against_payment delivery)) delivers)
    (number_confirming receipt ∙ ap (λ b. confirming_number b (is_against_payment receipt)) receives ∙ ap (confirming_number false) (sym same))

-- Members of lists of lists, and where they stand.

record StandsAt {X : Type 0} (xs : List X) (part : List X) : Type 0 where
  before : List X
  after : List X
  is : xs ≡ before ++ (part ++ after)

flat_at : {X Y : Type 0} (f : X → List Y) (xs : List X) (x : X) → In xs x → StandsAt (flat_map f xs) (f x)
flat_at f [] x i = absurd i
flat_at f (y ∷ xs) x (inl e) = record { before = []; after = flat_map f xs; is = flat_map-cons f y xs ∙ ap (λ z. f z ++ flat_map f xs) e }
flat_at f (y ∷ xs) x (inr i) =
    let rest = flat_at f xs x i in
    record { before = f y ++ rest.before; after = rest.after; is = flat_map-cons f y xs ∙ ap (λ z. f y ++ z) rest.is ∙ sym (append_assoc (f y) rest.before (f x ++ rest.after)) }

within : {X : Type 0} (xs part inner : List X) → StandsAt xs part → StandsAt part inner → StandsAt xs inner
within xs part inner a b = record {
  before = a.before ++ b.before;
  after = b.after ++ a.after;
  is = a.is ∙ ap (λ z. a.before ++ (z ++ a.after)) b.is ∙ (simp append_assoc);
}

on_right : {X : Type 0} (front rest part : List X) → StandsAt rest part → StandsAt (front ++ rest) part
on_right front rest part a = record { before = front ++ a.before; after = a.after; is = ap (λ z. front ++ z) a.is ∙ sym (append_assoc front a.before (part ++ a.after)) }

pub sent_split : (h : List Entry) (k : ℕ) (front rest : List Notice) → sent_from h k (front ++ rest) ≡ sent_from h k front ++ sent_from h (k + length front) rest
sent_split h k [] rest = ap (λ j. sent_from h j rest) (let e : k ≡ k + 0 = omega arith in e)
sent_split h k (n ∷ front) rest =
    let e : k + 1 + length front ≡ k + length (n ∷ front) = omega arith in
    ap (λ z. told_to h k n (instruction_at h n.about) ++ z) (sent_split h (k + 1) front rest ∙ ap (λ j. sent_from h (k + 1) front ++ sent_from h j rest) e)
    ∙ sym (append_assoc (told_to h k n (instruction_at h n.about)) (sent_from h (k + 1) front) (sent_from h (k + length (n ∷ front)) rest))

module _ (books : Books) (are : AreBooks books) (formed : AreWellFormed books.history) where
  -- The two messages of a settlement.

  abbrev gone : Settled → Notice
  gone s = record { about = deliverer_of books.history s.pair; run = Some s.run }

  abbrev come : Settled → Notice
  come s = record { about = receiver_of books.history s.pair; run = Some s.run }

  abbrev first_of : ℕ → Settled → Instructed → Sent
  first_of k s i = told books.history k (deliverer_of books.history s.pair) (Some s.run) i

  abbrev second_of : ℕ → Settled → Instructed → Sent
  second_of k s i = told books.history (k + 1) (receiver_of books.history s.pair) (Some s.run) i

  says : (k about run : ℕ) (i : Instructed) → instruction_at books.history about ≡ Some i → IsDay (date_in (entry_at books.history run)) → SaysConfirmation (told books.history k about (Some run) i) (confirmation_by i (date_in (entry_at books.history run)))
  says k about run i at day =
      let read = readable_at books.history about i formed at in
      let c = confirms k i.instruction (date_in (entry_at books.history run)) read.0 read.1 day in
      record { fields = c.0; type = refl; addressee = refl; block = c.1; says = c.2 }

  confirm_both : (k : ℕ) (s : Settled) (is : IsKnown books are formed s) → ConfirmBothLegs (first_of k s is.legs.delivery) (second_of k s is.legs.receipt)
  confirm_both k s is = record {
    delivery = confirmation_by is.legs.delivery (date_in (entry_at books.history s.run));
    receipt = confirmation_by is.legs.receipt (date_in (entry_at books.history s.run));
    says_delivery = says k (deliverer_of books.history s.pair) s.run is.legs.delivery is.legs.delivered is.day;
    says_receipt = says (k + 1) (receiver_of books.history s.pair) s.run is.legs.receipt is.legs.received is.day;
    types = types_of_legs is.legs.delivery.instruction.mt is.legs.receipt.instruction.mt is.legs.delivers is.legs.receives is.legs.opposite.payment;
    day = refl;
    isin = is.legs.opposite.isin;
    kind = is.legs.opposite.kind;
    quantity = is.legs.opposite.quantity;
    cash = ap paid_by is.legs.opposite.cash;
  }

  -- the messages of its notices
  sent_both : (k : ℕ) (s : Settled) (is : IsKnown books are formed s) (later : List Notice)
      → sent_from books.history k (gone s ∷ come s ∷ later) ≡ first_of k s is.legs.delivery ∷ second_of k s is.legs.receipt ∷ sent_from books.history (k + 1 + 1) later
  sent_both k s is later =
      ap (λ o. told_to books.history k (gone s) o ++ (told_to books.history (k + 1) (come s) (instruction_at books.history (receiver_of books.history s.pair)) ++ sent_from books.history (k + 1 + 1) later)) is.legs.delivered
      ∙ ap (λ o. first_of k s is.legs.delivery ∷ (told_to books.history (k + 1) (come s) o ++ sent_from books.history (k + 1 + 1) later)) is.legs.received

  -- the two of a settlement, as they are sent
  confirms_first : (k : ℕ) (s : Settled) (is : IsKnown books are formed s) → ConfirmsSettled books.history s.run (deliverer_of books.history s.pair) (first_of k s is.legs.delivery)
  confirms_first k s is = record {
    instruction = is.legs.delivery;
    instructs = is.legs.delivered;
    about = refl;
    says = says k (deliverer_of books.history s.pair) s.run is.legs.delivery is.legs.delivered is.day;
  }

  confirms_second : (k : ℕ) (s : Settled) (is : IsKnown books are formed s) → ConfirmsSettled books.history s.run (receiver_of books.history s.pair) (second_of k s is.legs.receipt)
  confirms_second k s is = record {
    instruction = is.legs.receipt;
    instructs = is.legs.received;
    about = refl;
    says = says (k + 1) (receiver_of books.history s.pair) s.run is.legs.receipt is.legs.received is.day;
  }

  -- What holds of the messages of all notices.

  -- where it holds of messages, it holds with those of these notices before them
  abbrev Keep : (List Sent → Type 0) → List Notice → Type 0
  Keep Q ns = (k : ℕ) (later : List Notice) → ((j : ℕ) → Q (sent_from books.history j later)) → Q (sent_from books.history k (ns ++ later))

  module _ (Q : List Sent → Type 0) where
    none_keep : Keep Q []
    none_keep k later rest = rest k

    keep_joined : (a b : List Notice) → Keep Q a → Keep Q b → Keep Q (a ++ b)
    keep_joined a b x y k later rest =
        let P : List Notice → Type 0 = λ ns. Q (sent_from books.history k ns) in
        subst P (sym (append_assoc a b later)) (x k (b ++ later) (λ j. y j later rest))

    keep_flat : {X : Type 0} (f : X → List Notice) (xs : List X) → ((x : X) → In xs x → Keep Q (f x)) → Keep Q (flat_map f xs)
    keep_flat f [] each = none_keep
    keep_flat f (x ∷ xs) each =
        let P : List Notice → Type 0 = λ ns. Keep Q ns in
        subst P (sym (flat_map-cons f x xs)) (keep_joined (f x) (flat_map f xs) (each x (inl refl)) (keep_flat f xs (λ y i. each y (inr i))))

    keep_if : (test : Bool) (ns : List Notice) → (test ≡ true → Keep Q ns) → Keep Q (if test then ns else [])
    keep_if true ns keep = keep refl
    keep_if false ns keep = none_keep

    module _ (keep_advice : (p : Pair) → Keep Q (record { about = p.earlier; run = None } ∷ [])) (keep_both : (s : Settled) → In books.settled s → Keep Q (gone s ∷ come s ∷ [])) where
      keep_settled : (n : ℕ) (s : Settled) → In books.settled s → Keep Q (told_of_settled books.history n s)
      keep_settled n s member = keep_if (s.run == n) _ (λ e. at_run n (eqb-true s.run n e))
        where
          at_run : (m : ℕ) → s.run ≡ m → Keep Q (record { about = deliverer_of books.history s.pair; run = Some m } ∷ record { about = receiver_of books.history s.pair; run = Some m } ∷ [])
          at_run m e = let P : ℕ → Type 0 = λ r. Keep Q (record { about = deliverer_of books.history s.pair; run = Some r } ∷ record { about = receiver_of books.history s.pair; run = Some r } ∷ []) in subst P e (keep_both s member)

      keep_all : Keep Q (notices_of books)
      keep_all = keep_flat (told_by books) (range_with_len 1 (length books.history)) (λ n i. keep_joined (flat_map (told_of_pair n) books.pairs) (flat_map (told_of_settled books.history n) books.settled)
          (keep_flat (told_of_pair n) books.pairs (λ p j. keep_if (p.later == n) _ (λ e. keep_advice p)))
          (keep_flat (told_of_settled books.history n) books.settled (λ s j. keep_settled n s j)))

      holds_of_all : Q [] → Q (sent_of books)
      holds_of_all none =
          let P : List Notice → Type 0 = λ ns. Q (sent_from books.history 1 ns) in
          subst P (append-nil (notices_of books)) (keep_all 1 [] (λ j. none))

  -- All messages come in twos.

  twos_after_advice : (p : Pair) → Keep ComeInTwos (record { about = p.earlier; run = None } ∷ [])
  twos_after_advice p k later rest = with_one (instruction_at books.history p.earlier)
    where
      with_one : (o : Option Instructed) → ComeInTwos (told_to books.history k (record { about = p.earlier; run = None }) o ++ sent_from books.history (k + 1) later)
      with_one None = rest (k + 1)
      with_one (Some i) = skipped (told books.history k p.earlier None i) (sent_from books.history (k + 1) later) refl (rest (k + 1))

  twos_after_both : (s : Settled) → In books.settled s → Keep ComeInTwos (gone s ∷ come s ∷ [])
  twos_after_both s member k later rest =
      let is = known books are formed s member in
      subst ComeInTwos (sym (sent_both k s is later)) (two_more (first_of k s is.legs.delivery) (second_of k s is.legs.receipt) (sent_from books.history (k + 1 + 1) later) (confirming is.legs.delivery.instruction.mt) (confirm_both k s is) (rest (k + 1 + 1)))

  pub in_twos : ComeInTwos (sent_of books)
  in_twos = holds_of_all ComeInTwos twos_after_advice twos_after_both tt

  -- Neighbours are of one settlement.

  one_after_advice : (p : Pair) → Keep (AreOfOneEach books) (record { about = p.earlier; run = None } ∷ [])
  one_after_advice p k later rest = with_one (instruction_at books.history p.earlier)
    where
      with_one : (o : Option Instructed) → AreOfOneEach books (told_to books.history k (record { about = p.earlier; run = None }) o ++ sent_from books.history (k + 1) later)
      with_one None = rest (k + 1)
      with_one (Some i) = one_more books (told books.history k p.earlier None i) (sent_from books.history (k + 1) later) refl (rest (k + 1))

  one_after_both : (s : Settled) → In books.settled s → Keep (AreOfOneEach books) (gone s ∷ come s ∷ [])
  one_after_both s member k later rest =
      let is = known books are formed s member in
      let second = second_of k s is.legs.receipt in
      let of_one : AreOfOne books (first_of k s is.legs.delivery) second = record { settled = s; stands = Contains-from_In books.settled s member; delivery = confirms_first k s is; receipt = confirms_second k s is } in
      let Q : List Sent → Type 0 = λ messages. AreOfOneEach books messages in
      subst Q (sym (sent_both k s is later))
      ((λ delivery receipt. of_one), one_more books second (sent_from books.history (k + 1 + 1) later) (receipt_alone is.legs.receipt.instruction.mt is.legs.receives) (rest (k + 1 + 1)))

  pub neighbours_are_of_one : NeighboursAreOfOne books (sent_of books)
  neighbours_are_of_one front rest first second is =
      let Q : List Sent → Type 0 = λ messages. AreOfOneEach books messages in
      each_neighbours books front rest first second (subst Q is (holds_of_all Q one_after_advice one_after_both tt))

  -- The two of a settlement stand next to each other.

  notices_at : (s : Settled) → In books.settled s → StandsAt (notices_of books) (gone s ∷ come s ∷ [])
  notices_at s member =
      let is = known books are formed s member in
      let from = is.from in
      let below = is.below in
      let both : told_of_settled books.history s.run s ≡ gone s ∷ come s ∷ [] = ap (λ b. if b then gone s ∷ come s ∷ [] else []) (eq-eqb s.run s.run refl) in
      let of_run = on_right (flat_map (told_of_pair s.run) books.pairs) (flat_map (told_of_settled books.history s.run) books.settled) (told_of_settled books.history s.run s) (flat_at (told_of_settled books.history s.run) books.settled s member) in
      subst (StandsAt (notices_of books)) both
      (within (notices_of books) (told_by books s.run) (told_of_settled books.history s.run s)
      (flat_at (told_by books) (range_with_len 1 (length books.history)) s.run (in_range 1 (length books.history) s.run from below)) of_run)

  pub stand_together : (s : Settled) → In books.settled s → StandTogether books.history s (sent_of books)
  stand_together s member =
      let is = known books are formed s member in
      let at = notices_at s member in
      let k : ℕ = 1 + length at.before in
      record {
        front = sent_from books.history 1 at.before;
        first = first_of k s is.legs.delivery;
        second = second_of k s is.legs.receipt;
        rest = sent_from books.history (k + 1 + 1) at.after;
        stand =
            ap (sent_from books.history 1) at.is
            ∙ sent_split books.history 1 at.before (gone s ∷ come s ∷ at.after)
            ∙ ap (λ z. sent_from books.history 1 at.before ++ z) (sent_both k s is at.after);
        legs = confirm_both k s is;
        delivery = confirms_first k s is;
        receipt = confirms_second k s is;
      }

-- Each settled instruction has one confirmation, and no other has one.

-- where one member at most passes, as many pass as there is one
pub count_one : {X : Type 0} (test : X → Bool) (lt : X → X → Bool) (xs : List X) → ((x : X) → lt x x ≡ true → ⊥) → Ordered lt xs → ((x y : X) → In xs x → In xs y → test x ≡ true → test y ≡ true → x ≡ y)
    → sum_by (λ x. quantity_if (test x) 1) xs ≡ quantity_if (list_any test xs) 1
count_one test lt [] never order one = refl
count_one {X} test lt (x ∷ xs) never order one =
    let c = sum_by-cons (λ y. quantity_if (test y) 1) x xs in
    elim (cases_Bool (test x)) [
      | inl e ↦
          let none : sum_by (λ y. quantity_if (test y) 1) xs ≡ 0 = sum_zero (λ y. quantity_if (test y) 1) xs (λ y i. if_false (test y) 1 (elim (cases_Bool (test y)) [
            | inl f ↦ absurd (let P : X → Type 0 = λ z. lt x z ≡ true in never x (subst P (sym (one x y (inl refl) (inr i) e f)) (order.0 y i)))
            | inr f ↦ f
          ])) in
          let here = if_true (test x) 1 e in
          let some : quantity_if (list_any test (x ∷ xs)) 1 ≡ 1 = if_true (list_any test (x ∷ xs)) 1 (any-In test (x ∷ xs) x (inl refl) e) in
          c ∙ omega (arith, none, here, some)
      | inr e ↦
          let here = if_false (test x) 1 e in
          let rest = count_one test lt xs never order.1 (λ y z i j. one y z (inr i) (inr j)) in
          let same : quantity_if (list_any test (x ∷ xs)) 1 ≡ quantity_if (list_any test xs) 1 = ap (λ b. quantity_if (b || list_any test xs) 1) e in
          c ∙ omega (arith, here, rest, same)
    ]

-- one of two tests at most holds
one_of_two : (a b : Bool) → (a ≡ true → b ≡ true → ⊥) → quantity_if a 1 + quantity_if b 1 ≡ quantity_if (a || b) 1
one_of_two true true apart = absurd (apart refl refl)
one_of_two true false apart = refl
one_of_two false true apart = refl
one_of_two false false apart = refl

is_side : (n : ℕ) (p : Pair) → has_side n p ≡ true → IsSide p n
is_side n p e = elim (or_cases (p.earlier == n) (p.later == n) e) [ inl a ↦ inl (eqb-true p.earlier n a) | inr b ↦ inr (eqb-true p.later n b) ]

module _ (books : Books) (are : AreBooks books) (n : ℕ) where
  -- whether a notice gives a confirmation of n
  abbrev counted : Option ℕ → Option Instructed → Bool → ℕ
  counted None o about = 0
  counted (Some run) None about = 0
  counted (Some run) (Some i) about = quantity_if about 1

  abbrev value : Notice → ℕ
  value m = counted m.run (instruction_at books.history m.about) (m.about == n)

  count_told : (k about : ℕ) (run : Option ℕ) (o : Option Instructed) → count_by (confirms_it n) (told_to books.history k (record { about = about; run = run }) o) ≡ counted run o (about == n)
  count_told k about None None = refl
  count_told k about None (Some i) = sum_by-cons (λ m. cond (confirms_it n m) 1 0) (told books.history k about None i) []
  count_told k about (Some run) None = refl
  count_told k about (Some run) (Some i) =
      let message : Sent = told books.history k about (Some run) i in
      let here : cond (confirms_it n message) 1 0 ≡ quantity_if (about == n) 1 = ap (λ b. quantity_if (b && about == n) 1) (confirming i.instruction.mt) in
      let one = sum_by-cons (λ m. cond (confirms_it n m) 1 0) message [] in
      one ∙ omega (arith, here)

  count_sent : (k : ℕ) (ns : List Notice) → count_by (confirms_it n) (sent_from books.history k ns) ≡ sum_by value ns
  count_sent k [] = refl
  count_sent k (m ∷ ns) =
      let rest = count_sent (k + 1) ns in
      let here = count_told k m.about m.run (instruction_at books.history m.about) in
      sum_by-append (λ x. cond (confirms_it n x) 1 0) (told_to books.history k m (instruction_at books.history m.about)) (sent_from books.history (k + 1) ns)
      ∙ (omega (arith, here, rest, sum_by-cons value m ns))

  pair_in : (s : Settled) → In books.settled s → Contains books.pairs s.pair
  pair_in s i = ((are.settlement.exact s).0 (Contains-from_In books.settled s i)).paired

  ranged : (s : Settled) → In books.settled s → (1 ≤ s.run) × (s.run < 1 + length books.history)
  ranged s i =
      let settles = (are.settlement.exact s).0 (Contains-from_In books.settled s i) in
      let due = due_facts books.history s.run s.pair settles.due in
      let numbered = due.numbered in
      let below = due_known books.history s.run s.pair settles.due in
      (omega (arith, numbered), omega (arith, below))

  settled_value : (s : Settled) → In books.settled s → value_of_settled books value (λ about. refl) s ≡ quantity_if (has_side n s.pair) 1
  settled_value s i =
      let mate = (are.pairing.exact s.pair).0 (pair_in s i) in
      let legs = legs_of books.history s.pair mate.candidate.opposite in
      let earlier = mate.candidate.earlier in
      let gone = ap (λ o. counted (Some s.run) o (deliverer_of books.history s.pair == n)) legs.delivered in
      let come = ap (λ o. counted (Some s.run) o (receiver_of books.history s.pair == n)) legs.received in
      let apart : (s.pair.earlier == n) ≡ true → (s.pair.later == n) ≡ true → ⊥ = λ a b. (let e = eqb-true s.pair.earlier n a in let f = eqb-true s.pair.later n b in omega (arith, e, f, earlier)) in
      let one = one_of_two (s.pair.earlier == n) (s.pair.later == n) apart in
      let both = by_side (is_delivered_by (instruction_at books.history s.pair.earlier)) (s.pair.earlier) (s.pair.later) in
      omega (arith, gone, come, both, one)
    where
      by_side : (test : Bool) (a b : ℕ) → quantity_if ((if test then a else b) == n) 1 + quantity_if ((if test then b else a) == n) 1 ≡ quantity_if (a == n) 1 + quantity_if (b == n) 1
      by_side true a b = refl
      by_side false a b = omega arith

  same_settled : (s t : Settled) → In books.settled s → In books.settled t → has_side n s.pair ≡ true → has_side n t.pair ≡ true → s ≡ t
  same_settled s t i j a b =
      settled_once books.history books.pairs books.settled s t are.settlement (Contains-from_In books.settled s i) (Contains-from_In books.settled t j)
      (one_pair_of books.history books.pairs s.pair t.pair n are.pairing (pair_in s i) (pair_in t j) (is_side n s.pair a) (is_side n t.pair b))

  pub confirmed_once : count_by (confirms_it n) (sent_of books) ≡ (if is_settled books n then 1 else 0)
  confirmed_once =
      count_sent 1 (notices_of books)
      ∙ all_told books value (λ about. refl) ranged
      ∙ sum_same (value_of_settled books value (λ about. refl)) (λ s. quantity_if (has_side n s.pair) 1) books.settled settled_value
      ∙ count_one (λ s. has_side n s.pair) (precedes books.history) books.settled (precedes_strict books.history).never (Ordered-from_AllPairs (precedes books.history) books.settled are.settlement.in_order) same_settled
