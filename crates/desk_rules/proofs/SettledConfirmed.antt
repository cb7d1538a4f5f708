-- A settled instruction has one confirmation among all that was sent.
use Rattle.std.proofs.Common.{◌≡◌, ◌≢◌, ℕ, suc, zero, ◌+◌, ◌<◌, ◌≤◌, ◌⊎◌, inl, inr, Bool, true, false, ◌&&◌, cond, if◌then◌else◌, List, [], ◌∷◌, ◌++◌, length, refl, sym, ◌∙◌, ap, subst, arith, Contains, Option, Some, None}
use Rattle.std.specs.Prelude.{◌==◌}
use Rattle.std.specs.List.{range_with_len, flat_map, find}
use Rattle.std.proofs.lemmas.Bool.{cases_Bool, eqb-true, eq-eqb}
use Rattle.std.proofs.lemmas.List.Concat.{flat_map-cons}
use Rattle.desk_rules.specs.declared.history.pair.Pair.{Pair}
use Rattle.desk_rules.specs.declared.history.pair.Settled.{Settled}
use Rattle.desk_rules.specs.declared.answers.reply.Sent.{Sent}
use Rattle.desk_rules.specs.History.{Instructed, entry_at, instruction_at, run_day}
use Rattle.desk_rules.specs.Balances.{is_delivered_by, deliverer_of, receiver_of}
use Rattle.desk_rules.specs.Pairing.{IsSide}
use Rattle.desk_rules.specs.Settlement.{day_of}
use Rattle.desk_rules.specs.Sent.{Notice, told_of_pair, told_of_settled, told_by, notices_of, told, told_to, sent_from}
use Rattle.desk_rules.specs.Books.{Books, AreBooks}
use Rattle.desk_rules.specs.Questions.{confirms_it, confirmation_of}
use Rattle.desk_rules.proofs.Decided.{In, In-left, In-right, In-cases, In-from_Contains, Contains-from_In}
use Rattle.desk_rules.proofs.PairingLaws.{one_pair_of, settled_once}
use Rattle.desk_rules.proofs.HistoryLemmas.{entry_at-known}
use Rattle.desk_rules.proofs.SettlementLemmas.{due_facts, by_some}
use Rattle.desk_rules.proofs.SaidConfirmations.{confirming}

-- Members of lists of lists.

into_flat : {X Y : Type 0} (f : X → List Y) (xs : List X) (x : X) (y : Y) → In xs x → In (f x) y → In (flat_map f xs) y
into_flat f [] x y i j = absurd i
into_flat f (z ∷ xs) x y (inl e) j = subst (λ ys. In ys y) (sym (flat_map-cons f z xs)) (In-left (f z) (flat_map f xs) y (subst (λ w. In (f w) y) (sym e) j))
into_flat f (z ∷ xs) x y (inr i) j = subst (λ ys. In ys y) (sym (flat_map-cons f z xs)) (In-right (f z) (flat_map f xs) y (into_flat f xs x y i j))

from_flat : {X Y : Type 0} (f : X → List Y) (xs : List X) (y : Y) → In (flat_map f xs) y → (x : X) × In xs x × In (f x) y
from_flat f [] y i = absurd i
from_flat f (z ∷ xs) y i = elim (In-cases (f z) (flat_map f xs) y (subst (λ ys. In ys y) (flat_map-cons f z xs) i)) [
  | inl here ↦ (z, inl refl, here)
  | inr there ↦ let rest = from_flat f xs y there in (rest.0, inr rest.1, rest.2)
]

pub in_range : (a n k : ℕ) → a ≤ k → k < a + n → In (range_with_len a n) k
in_range a zero k from below = absurd (omega arith)
in_range a (suc n) k from below = elim (cases_Bool (a == k)) [
  | inl e ↦ inl (eqb-true a k e)
  | inr e ↦ inr (in_range (a + 1) n k (let apart : a ≢ k = λ same. (let clash : true ≡ false = sym (eq-eqb a k same) ∙ e in cc) in omega (arith, apart)) (omega arith))
]

in_if : {X : Type 0} (test : Bool) (xs : List X) (x : X) → test ≡ true → In xs x → In (if test then xs else []) x
in_if true xs x e i = i
in_if false xs x e i = absurd (cc)

out_of_if : {X : Type 0} (test : Bool) (xs : List X) (x : X) → In (if test then xs else []) x → (test ≡ true) × In xs x
out_of_if true xs x i = (refl, i)
out_of_if false xs x i = absurd i

some_run : (a b : ℕ) → Some a ≡ Some b → a ≡ b
some_run a b e = cc

either_side : (test : Bool) (p : Pair) (n : ℕ) → (if test then p.earlier else p.later) ≡ n → IsSide p n
either_side true p n e = inl e
either_side false p n e = inr e

module _ (books : Books) (are : AreBooks books) (s : Settled) (n : ℕ) (member : In books.settled s) (side : IsSide s.pair n) where
  abbrev confirms_side : Notice
  confirms_side = record { about = n; run = Some s.run }

  -- the notice is among those of the settlement
  among_both : (test : Bool) → is_delivered_by (instruction_at books.history s.pair.earlier) ≡ test → In (told_of_settled books.history s.run s) confirms_side
  among_both test is = in_if (s.run == s.run) _ confirms_side (eq-eqb s.run s.run refl) (by_side test is side)
    where
      made : (about : ℕ) → about ≡ n → record { about = about; run = Some s.run } ≡ confirms_side
      made about e = ap (λ m. notice_of m) e
        where
          notice_of : ℕ → Notice
          notice_of m = record { about = m; run = Some s.run }

      by_side : (t : Bool) → is_delivered_by (instruction_at books.history s.pair.earlier) ≡ t → IsSide s.pair n
          → In (record { about = deliverer_of books.history s.pair; run = Some s.run } ∷ record { about = receiver_of books.history s.pair; run = Some s.run } ∷ []) confirms_side
      by_side true e (inl f) = inl (made (deliverer_of books.history s.pair) (ap (λ b. cond b s.pair.earlier s.pair.later) e ∙ f))
      by_side true e (inr f) = inr (inl (made (receiver_of books.history s.pair) (ap (λ b. cond b s.pair.later s.pair.earlier) e ∙ f)))
      by_side false e (inl f) = inr (inl (made (receiver_of books.history s.pair) (ap (λ b. cond b s.pair.later s.pair.earlier) e ∙ f)))
      by_side false e (inr f) = inl (made (deliverer_of books.history s.pair) (ap (λ b. cond b s.pair.earlier s.pair.later) e ∙ f))

  among_all : In (notices_of books) confirms_side
  among_all =
      let settles = (are.settlement.exact s).0 (Contains-from_In books.settled s member) in
      let due = due_facts books.history s.run s.pair settles.due in
      let run = by_some run_day (entry_at books.history s.run) (day_of books.history s.pair) due.by in
      let known = entry_at-known books.history s.run run.0 run.1 in
      let from = known.0 in
      let below = known.1 in
      into_flat (told_by books) (range_with_len 1 (length books.history)) s.run confirms_side (in_range 1 (length books.history) s.run (omega (arith, from)) (omega (arith, below)))
      (In-right (flat_map (told_of_pair s.run) books.pairs) (flat_map (told_of_settled books.history s.run) books.settled) confirms_side
      (into_flat (told_of_settled books.history s.run) books.settled s confirms_side member (among_both (is_delivered_by (instruction_at books.history s.pair.earlier)) refl)))

  -- a settlement with this side is that one
  same_settled : (t : Settled) → In books.settled t → IsSide t.pair n → t.run ≡ s.run
  same_settled t i other =
      let paired : (u : Settled) → In books.settled u → Contains books.pairs u.pair = λ u j. ((are.settlement.exact u).0 (Contains-from_In books.settled u j)).paired in
      let pair = one_pair_of books.history books.pairs t.pair s.pair n are.pairing (paired t i) (paired s member) other side in
      ap (λ (u : Settled). u.run) (settled_once books.history books.pairs books.settled t s are.settlement (Contains-from_In books.settled t i) (Contains-from_In books.settled s member) pair)

  by_settled : (k : ℕ) (t : Settled) (m : Notice) (r : ℕ) → In books.settled t → In (told_of_settled books.history k t) m → m.about ≡ n → m.run ≡ Some r → r ≡ s.run
  by_settled k t m r i j about is =
      let both = out_of_if (t.run == k) _ m j in
      let at : t.run ≡ k = eqb-true t.run k both.0 in
      let delivered = is_delivered_by (instruction_at books.history t.pair.earlier) in
      elim both.1 [
        | inl e ↦
            let run : r ≡ k = some_run r k (sym is ∙ sym (ap (λ (z : Notice). z.run) e)) in
            run ∙ sym at ∙ same_settled t i (either_side delivered t.pair n (ap (λ (z : Notice). z.about) e ∙ about))
        | inr rest ↦ elim rest [
          | inl e ↦
              let run : r ≡ k = some_run r k (sym is ∙ sym (ap (λ (z : Notice). z.run) e)) in
              run ∙ sym at ∙ same_settled t i (other_side delivered t.pair n (ap (λ (z : Notice). z.about) e ∙ about))
          | inr none ↦ absurd none
        ]
      ]
    where
      other_side : (test : Bool) (p : Pair) (m : ℕ) → (if test then p.later else p.earlier) ≡ m → IsSide p m
      other_side true p m e = inr e
      other_side false p m e = inl e

  by_pair : (k : ℕ) (p : Pair) (m : Notice) (r : ℕ) → In (told_of_pair k p) m → m.run ≡ Some r → r ≡ s.run
  by_pair k p m r j is = elim (out_of_if (p.later == k) _ m j).1 [
    | inl e ↦ absurd (let clash : None ≡ Some r = ap (λ (z : Notice). z.run) e ∙ is in cc)
    | inr none ↦ absurd none
  ]

  -- each notice of a settlement of this instruction is of that run
  one_run : (m : Notice) (r : ℕ) → In (notices_of books) m → m.about ≡ n → m.run ≡ Some r → r ≡ s.run
  one_run m r i about is =
      let at = from_flat (told_by books) (range_with_len 1 (length books.history)) m i in
      elim (In-cases (flat_map (told_of_pair at.0) books.pairs) (flat_map (told_of_settled books.history at.0) books.settled) m at.2) [
        | inl paired ↦ let p = from_flat (told_of_pair at.0) books.pairs m paired in by_pair at.0 p.0 m r p.2 is
        | inr settled ↦ let t = from_flat (told_of_settled books.history at.0) books.settled m settled in by_settled at.0 t.0 m r t.1 t.2 about is
      ]

  module _ (i : Instructed) (known : instruction_at books.history n ≡ Some i) where
    abbrev Found : ℕ → List Notice → Type 0
    Found k ns = (j : ℕ) × (find (confirms_it n) (sent_from books.history k ns) ≡ Some (told books.history j n (Some s.run) i))

    passed_over : (message : Sent) (messages : List Sent) → confirms_it n message ≡ false → find (confirms_it n) (message ∷ messages) ≡ find (confirms_it n) messages
    passed_over message messages e = rw e refl

    taken_first : (message : Sent) (messages : List Sent) → confirms_it n message ≡ true → find (confirms_it n) (message ∷ messages) ≡ Some message
    taken_first message messages e = rw e refl

    -- the message of a notice is passed over, or it is the one
    at_notice : (k about : ℕ) (run : Option ℕ) (o : Option Instructed) (ns : List Notice) → instruction_at books.history about ≡ o
        → ((r : ℕ) → about ≡ n → run ≡ Some r → r ≡ s.run)
        → (record { about = about; run = run } ≡ confirms_side) ⊎ Found (k + 1) ns
        → (j : ℕ) × (find (confirms_it n) (told_to books.history k (record { about = about; run = run }) o ++ sent_from books.history (k + 1) ns) ≡ Some (told books.history j n (Some s.run) i))
    at_notice k about run None ns is once (inl e) = absurd (let same : about ≡ n = ap (λ (z : Notice). z.about) e in let clash : None ≡ Some i = sym is ∙ ap (instruction_at books.history) same ∙ known in cc)
    at_notice k about run None ns is once (inr found) = found
    at_notice k about None (Some x) ns is once (inl e) = absurd (let clash : None ≡ Some s.run = ap (λ (z : Notice). z.run) e in cc)
    at_notice k about None (Some x) ns is once (inr found) = (found.0, passed_over (told books.history k about None x) (sent_from books.history (k + 1) ns) refl ∙ found.1)
    at_notice k about (Some r) (Some x) ns is once rest = elim (cases_Bool (about == n)) [
      | inl e ↦
          let same : about ≡ n = eqb-true about n e in
          let run : r ≡ s.run = once r same refl in
          let who : x ≡ i = some_instructed x i (sym is ∙ ap (instruction_at books.history) same ∙ known) in
          let message = told books.history k about (Some r) x in
          let chosen : confirms_it n message ≡ true = ap (λ b. b && about == n) (confirming x.instruction.mt) ∙ e in
          (k, taken_first message (sent_from books.history (k + 1) ns) chosen ∙ ap Some (same_told k about n r s.run x i same run who))
      | inr e ↦
          let message = told books.history k about (Some r) x in
          let left : confirms_it n message ≡ false = ap (λ b. b && about == n) (confirming x.instruction.mt) ∙ e in
          elim rest [
            | inl same ↦ absurd (let at : about ≡ n = ap (λ (z : Notice). z.about) same in let clash : true ≡ false = sym (eq-eqb about n at) ∙ e in cc)
            | inr found ↦ (found.0, passed_over message (sent_from books.history (k + 1) ns) left ∙ found.1)
          ]
    ]
      where
        some_instructed : (a b : Instructed) → Some a ≡ Some b → a ≡ b
        some_instructed a b e = cc

        told_at : ℕ → ℕ → ℕ → Instructed → Sent
        told_at j m r x = told books.history j m (Some r) x

        same_told : (j m l r q : ℕ) (x y : Instructed) → m ≡ l → r ≡ q → x ≡ y → told_at j m r x ≡ told_at j l q y
        same_told j m l r q x y a b c = cc

    find_sent : (k : ℕ) (ns : List Notice) → ((m : Notice) (r : ℕ) → In ns m → m.about ≡ n → m.run ≡ Some r → r ≡ s.run) → In ns confirms_side → Found k ns
    find_sent k [] once among = absurd among
    find_sent k (m ∷ ns) once among =
        at_notice k m.about m.run (instruction_at books.history m.about) ns refl (λ r about is. once m r (inl refl) about is)
        (elim among [ inl e ↦ inl e | inr later ↦ inr (find_sent (k + 1) ns (λ z r j about is. once z r (inr j) about is) later) ])

    pub confirmed : (k : ℕ) × (confirmation_of books n ≡ Some (told books.history k n (Some s.run) i))
    confirmed = find_sent 1 (notices_of books) one_run among_all

pub settled_is_confirmed : (books : Books) (s : Settled) (n : ℕ) (i : Instructed) → AreBooks books → Contains books.settled s → IsSide s.pair n → instruction_at books.history n ≡ Some i
    → (k : ℕ) × (confirmation_of books n ≡ Some (told books.history k n (Some s.run) i))
settled_is_confirmed books s n i are member side known = confirmed books are s n (In-from_Contains books.settled s member) side i known
