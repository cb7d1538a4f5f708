-- The cancellations of an accepted history: each names one instruction, no two the same one, and none one that is
-- cancelled or settled.
use Rattle.std.proofs.Common.{◌≡◌, ℕ, zero, suc, ◌+◌, ◌-◌, ◌<◌, ◌≤◌, ◌↔◌, inl, inr, true, false, ◌&&◌, ◌==◌, List, [], ◌∷◌, ◌++◌, bytes_eq, length, length-take, take, drop, slice_get, Contains, Option, Some, None, refl, sym, ◌∙◌, ap, subst, arith}
use Rattle.std.specs.Prelude.{is_none, option_and_then}
use Rattle.std.proofs.lemmas.Bool.{cases_Bool, cases_order, both_ways, false_from_ne_true, and_parts, and_from, or_left, or_right, not-true, eqb-true, eq-eqb}
use Rattle.std.proofs.lemmas.List.{take-append-drop}
use Rattle.std.proofs.lemmas.Slice.Eq.{bytes_eq-Decides}
use Rattle.desk_msg.specs.declared.instruction.CancelOrder.{CancelOrder}
use Rattle.desk_msg.specs.MessageType.{number_of_type}
use Rattle.desk_rules.specs.declared.history.entry.Entry.{Entry}
use Rattle.desk_rules.specs.declared.history.entry.Entry.TheVariants.{Participant, Account, Security, Issue, Redeem, PayIn, PayOut, Instruct, Cancel, Run}
use Rattle.desk_rules.specs.declared.history.entry.Sender.{Sender}
use Rattle.desk_rules.specs.declared.history.entry.Sender.TheVariants.{Participant as FromParticipant}
use Rattle.desk_rules.specs.declared.history.pair.Pair.{Pair}
use Rattle.desk_rules.specs.declared.history.pair.Settled.{Settled}
use Rattle.desk_rules.specs.History.{Instructed, entry_at, before, instructed, instruction_at, run_day, sender_of, reference_of, same_sender, has_key, number_from, number_of_key}
use Rattle.desk_rules.specs.Cancelled.{requests_cancel, is_cancel_requested, is_cancelled_pair, IsRequestFor}
use Rattle.desk_rules.specs.Pairing.{IsPairing, has_side}
use Rattle.desk_rules.specs.Settlement.{IsSettlement, day_of}
use Rattle.desk_rules.specs.Books.{Books, AreBooks, is_settled}
use Rattle.desk_rules.specs.Verdict.{if_of_type, named_by, holds_of, WasAccepted}
use Rattle.desk_rules.proofs.Decided.{In, In-cases, In-from_Contains}
use Rattle.desk_rules.proofs.HistoryLemmas.{slice_get-known, slice_get-take, entry_at-known, instruction_at-known, instruction_at-before, some_before}
use Rattle.desk_rules.proofs.PairingLaws.{pairs_front, settled_front}
use Rattle.desk_rules.proofs.SettlementLemmas.{due_facts}
use Rattle.desk_rules.proofs.SettlementGrowth.{by_none}
use Rattle.desk_rules.proofs.SideLemmas.{any-In, In-any}
use Rattle.desk_rules.proofs.FreshParts.{fresh_settled}
use Rattle.desk_rules.proofs.Existence.{books_exist}
use Rattle.desk_rules.proofs.Accepted.{passes}
use Rattle.desk_rules.proofs.AcceptedOnce.{is_new, own_key, number_behind}
use Rattle.desk_rules.proofs.FinalStates.{requested_true, requested_from}

-- Elements by their places.

In-drop : {X : Type 0} (xs : List X) (k j : ℕ) (x : X) → slice_get xs j ≡ Some x → k ≤ j → In (drop k xs) x
In-drop [] k j x e le = absurd (cc)
In-drop (y ∷ xs) zero zero x e le = inl (cc)
In-drop (y ∷ xs) (suc k) zero x e le = absurd (omega arith)
In-drop (y ∷ xs) zero (suc j) x e le = inr (In-drop xs zero j x e (omega arith))
In-drop (y ∷ xs) (suc k) (suc j) x e le = In-drop xs k j x e (omega arith)

drop-In : {X : Type 0} (xs : List X) (k : ℕ) (x : X) → In (drop k xs) x → (j : ℕ) × (k ≤ j) × (slice_get xs j ≡ Some x)
drop-In [] zero x i = absurd i
drop-In [] (suc k) x i = absurd i
drop-In (y ∷ xs) zero x (inl e) = (0, omega arith, ap Some e)
drop-In (y ∷ xs) zero x (inr i) = let rest = drop-In xs zero x i in (suc rest.0, omega arith, rest.2)
drop-In (y ∷ xs) (suc k) x i = let rest = drop-In xs k x i in let le : k ≤ rest.0 = rest.1 in (suc rest.0, omega arith, rest.2)

split_at : {X : Type 0} (xs : List X) (j : ℕ) (x : X) → slice_get xs j ≡ Some x → take j xs ++ x ∷ drop (suc j) xs ≡ xs
split_at [] j x e = absurd (cc)
split_at (y ∷ xs) zero x e = let same : y ≡ x = cc in ap (λ z. z ∷ xs) (sym same)
split_at (y ∷ xs) (suc j) x e = ap (λ z. y ∷ z) (split_at xs j x e)

-- the entry at a number, as an element
entry_place : (h : List Entry) (n : ℕ) (e : Entry) → entry_at h n ≡ Some e → (j : ℕ) × (n ≡ suc j) × (slice_get h j ≡ Some e)
entry_place h zero e at = absurd (cc)
entry_place h (suc j) e at = (j, refl, at)

-- What an entry names.

-- what an instruction's entry is keyed by
instruct_key : (e : Entry) (i : Instructed) → instructed e ≡ Some i → (sender_of e ≡ FromParticipant i.sender) × (reference_of e ≡ i.instruction.reference)
instruct_key (Participant reference bic) i is = absurd (cc)
instruct_key (Account reference bic account) i is = absurd (cc)
instruct_key (Security reference isin kind) i is = absurd (cc)
instruct_key (Issue movement) i is = absurd (cc)
instruct_key (Redeem movement) i is = absurd (cc)
instruct_key (PayIn payment) i is = absurd (cc)
instruct_key (PayOut payment) i is = absurd (cc)
instruct_key (Instruct sender instruction) i is =
    let same : record { sender = sender; instruction = instruction } ≡ i = some_same (record { sender = sender; instruction = instruction }) i is in
    (ap (λ (z : Instructed). FromParticipant z.sender) same, ap (λ (z : Instructed). z.instruction.reference) same)
  where
    some_same : (a b : Instructed) → Some a ≡ Some b → a ≡ b
    some_same a b e = cc
instruct_key (Cancel sender order) i is = absurd (cc)
instruct_key (Run reference day rule) i is = absurd (cc)

record Requests (e : Entry) (i : Instructed) : Type 0 where
  sender : List ℕ
  order : CancelOrder
  is : e ≡ Cancel sender order
  same_sender : sender ≡ i.sender
  same_type : number_of_type i.instruction.mt ≡ number_of_type order.mt
  same_reference : order.previous ≡ i.instruction.reference

requests_true : (e : Entry) (i : Instructed) → requests_cancel e i ≡ true → Requests e i
requests_true (Cancel sender order) i t =
    let outer = and_parts (bytes_eq sender i.sender && number_of_type order.mt == number_of_type i.instruction.mt) (bytes_eq order.previous i.instruction.reference) t in
    let inner = and_parts (bytes_eq sender i.sender) (number_of_type order.mt == number_of_type i.instruction.mt) outer.0 in
    let senders = bytes_eq-Decides sender i.sender in
    let references = bytes_eq-Decides order.previous i.instruction.reference in
    record {
      sender = sender;
      order = order;
      is = refl;
      same_sender = senders.0 inner.0;
      same_type = sym (eqb-true (number_of_type order.mt) (number_of_type i.instruction.mt) inner.1);
      same_reference = references.0 outer.1;
    }
requests_true (Participant reference bic) i t = absurd (cc)
requests_true (Account reference bic account) i t = absurd (cc)
requests_true (Security reference isin kind) i t = absurd (cc)
requests_true (Issue movement) i t = absurd (cc)
requests_true (Redeem movement) i t = absurd (cc)
requests_true (PayIn payment) i t = absurd (cc)
requests_true (PayOut payment) i t = absurd (cc)
requests_true (Instruct sender instruction) i t = absurd (cc)
requests_true (Run reference day rule) i t = absurd (cc)

requests_from : (sender : List ℕ) (order : CancelOrder) (i : Instructed) → sender ≡ i.sender → number_of_type i.instruction.mt ≡ number_of_type order.mt → order.previous ≡ i.instruction.reference
    → requests_cancel (Cancel sender order) i ≡ true
requests_from sender order i s t r =
    let senders = bytes_eq-Decides sender i.sender in
    let references = bytes_eq-Decides order.previous i.instruction.reference in
    and_from _ _ (and_from _ _ (senders.1 s) (eq-eqb _ _ (sym t))) (references.1 r)

-- the entry with the number of a key has that key
record HasNumber (h : List Entry) (from : ℕ) (sender : Sender) (reference : List ℕ) (k : ℕ) : Type 0 where
  place : ℕ
  number : k ≡ from + place
  entry : Entry
  at : slice_get h place ≡ Some entry
  key : has_key sender reference entry ≡ true

number_has : (n : ℕ) (sender : Sender) (reference : List ℕ) (h : List Entry) (k : ℕ) → number_from n sender reference h ≡ Some k → HasNumber h n sender reference k
number_has n sender reference [] k e = absurd (cc)
number_has n sender reference (x ∷ h) k e = elim (cases_Bool (has_key sender reference x)) [
  | inl t ↦
      let here : Some n ≡ Some k = sym (let f : number_from n sender reference (x ∷ h) ≡ Some n = rw t refl in f) ∙ e in
      let same : n ≡ k = cc in
      record { place = 0; number = omega arith; entry = x; at = refl; key = t }
  | inr f ↦
      let later = number_has (n + 1) sender reference h k (sym (let g : number_from n sender reference (x ∷ h) ≡ number_from (n + 1) sender reference h = rw f refl in g) ∙ e) in
      let number : k ≡ n + 1 + later.place = later.number in
      record { place = suc later.place; number = omega arith; entry = later.entry; at = later.at; key = later.key }
]

-- the key of an instruction's entry, as a cancellation names it
same_sender_parts : (s : Sender) (bic : List ℕ) → same_sender s (FromParticipant bic) ≡ true → s ≡ FromParticipant bic
same_sender_parts (FromParticipant a) bic e = let d = bytes_eq-Decides a bic in ap FromParticipant (d.0 e)
same_sender_parts s bic e = absurd (cc)

if_type_is : (mt k j : ℕ) (o : Option Instructed) → if_of_type mt j o ≡ Some k → (j ≡ k) × (i : Instructed) × (o ≡ Some i) × (number_of_type i.instruction.mt ≡ mt)
if_type_is mt k j None e = absurd (cc)
if_type_is mt k j (Some i) e = elim (cases_Bool (number_of_type i.instruction.mt == mt)) [
  | inl t ↦ let here : Some j ≡ Some k = sym (let f : if_of_type mt j (Some i) ≡ Some j = rw t refl in f) ∙ e in (cc, i, refl, eqb-true _ _ t)
  | inr f ↦ let never : None ≡ Some k = sym (let g : if_of_type mt j (Some i) ≡ None = rw f refl in g) ∙ e in absurd (cc)
]

-- what a cancellation names, it requests
record Named (h : List Entry) (sender : List ℕ) (order : CancelOrder) (k : ℕ) : Type 0 where
  instructed : Instructed
  is : instruction_at h k ≡ Some instructed
  key : number_of_key h (FromParticipant sender) order.previous ≡ Some k
  requests : requests_cancel (Cancel sender order) instructed ≡ true

named_requests : (h : List Entry) (sender : List ℕ) (order : CancelOrder) (k : ℕ) → named_by h sender order ≡ Some k → Named h sender order k
named_requests h sender order k e =
    let key = some_before (λ j. if_of_type (number_of_type order.mt) j (instruction_at h j)) (number_of_key h (FromParticipant sender) order.previous) k e in
    let typed = if_type_is (number_of_type order.mt) k key.0 (instruction_at h key.0) key.2 in
    let at : instruction_at h k ≡ Some typed.1 = ap (instruction_at h) (sym typed.0) ∙ typed.2 in
    let number : number_of_key h (FromParticipant sender) order.previous ≡ Some k = key.1 ∙ ap Some typed.0 in
    let has = number_has 1 (FromParticipant sender) order.previous h k number in
    let entry : entry_at h k ≡ Some has.entry = let is : k ≡ suc has.place = (let z : k ≡ 1 + has.place = has.number in omega arith) in ap (entry_at h) is ∙ has.at in
    let same : instructed has.entry ≡ Some typed.1 = sym (ap (option_and_then instructed) entry) ∙ at in
    let keyed = instruct_key has.entry typed.1 same in
    let parts = and_parts (same_sender (sender_of has.entry) (FromParticipant sender)) (bytes_eq (reference_of has.entry) order.previous) has.key in
    let who : FromParticipant typed.1.sender ≡ FromParticipant sender = sym keyed.0 ∙ same_sender_parts (sender_of has.entry) sender parts.0 in
    let bics : typed.1.sender ≡ sender = same_bic typed.1.sender sender who in
    let references = bytes_eq-Decides (reference_of has.entry) order.previous in
    record {
      instructed = typed.1;
      is = at;
      key = number;
      requests = requests_from sender order typed.1 (sym bics) typed.3 (sym (references.0 parts.1) ∙ keyed.1);
    }
  where
    same_bic : (a b : List ℕ) → FromParticipant a ≡ FromParticipant b → a ≡ b
    same_bic a b e = cc

-- In an accepted history.

-- the key of an accepted entry is its own
key_behind : (h : List Entry) (j : ℕ) (e : Entry) → slice_get h j ≡ Some e → number_of_key (take j h) (sender_of e) (reference_of e) ≡ None → number_of_key h (sender_of e) (reference_of e) ≡ Some (suc j)
key_behind h j e at none =
    let found = number_behind 1 (sender_of e) (reference_of e) (take j h) e (drop (suc j) h) none (own_key e) in
    let known = slice_get-known h j e at in
    let number : 1 + length (take j h) ≡ suc j = omega (arith, length-take j h) in
    ap (λ z. number_of_key z (sender_of e) (reference_of e)) (sym (split_at h j e at)) ∙ found ∙ ap Some number

-- the books below a number
record BooksBefore (h : List Entry) (n : ℕ) : Type 0 where
  books : Books
  history : books.history ≡ before n h
  are : AreBooks books

books_before : (h : List Entry) (n : ℕ) → BooksBefore h n
books_before h n =
    let all = books_exist (before n h) in
    record { books = record { history = before n h; pairs = all.0; settled = all.1 }; history = refl; are = record { pairing = all.2.pairing; settlement = all.2.settlement } }

module _ (limit : ℕ) (h : List Entry) (was : WasAccepted limit h) where
  known_key : (k : ℕ) (e : Entry) → entry_at h k ≡ Some e → number_of_key h (sender_of e) (reference_of e) ≡ Some k
  known_key k e at =
      let there = books_before h k in
      let new = is_new limit there.books e (was.each k e there.books at there.history there.are) in
      let place = entry_place h k e at in
      let below : before k h ≡ take place.0 h = ap (λ n. take (n - 1) h) place.1 ∙ ap (λ n. take n h) (omega arith) in
      let none : number_of_key (take place.0 h) (sender_of e) (reference_of e) ≡ None = ap (λ z. number_of_key z (sender_of e) (reference_of e)) (sym (there.history ∙ below)) ∙ new.key in
      key_behind h place.0 e place.2 none ∙ ap Some (sym place.1)

  known_instruction_key : (k : ℕ) (i : Instructed) → instruction_at h k ≡ Some i → number_of_key h (FromParticipant i.sender) i.instruction.reference ≡ Some k
  known_instruction_key k i at =
      let found = some_before instructed (entry_at h k) i at in
      let keyed = instruct_key found.0 i found.2 in
      ap (λ s. number_of_key h s i.instruction.reference) (sym keyed.0) ∙ ap (number_of_key h (sender_of found.0)) (sym keyed.1) ∙ known_key k found.0 found.1

  -- what the acceptance of a cancellation says of the instruction that it names
  record Accepted (m : ℕ) (sender : List ℕ) (order : CancelOrder) (k : ℕ) (books : Books) : Type 0 where
    named : named_by (before m h) sender order ≡ Some k
    unsettled : is_settled books k ≡ false
    unrequested : is_cancel_requested (before m h) k ≡ false
    earlier : k < m
    request : IsRequestFor h m k

  accepted_names : (m : ℕ) (sender : List ℕ) (order : CancelOrder) → entry_at h m ≡ Some (Cancel sender order) → (books : Books) → books.history ≡ before m h → AreBooks books
      → (k : ℕ) × Accepted m sender order k books
  accepted_names m sender order at books history are =
      let p = passes limit books (Cancel sender order) (was.each m (Cancel sender order) books at history are) in
      let one = p.checks _ (inl refl) in
      let three = p.checks _ (inr (inr (inl refl))) in
      let four = p.checks _ (inr (inr (inr (inl refl)))) in
      names (named_by books.history sender order) refl one three four
    where
      names : (o : Option ℕ) → named_by books.history sender order ≡ o → is_none (named_by books.history sender order) ≡ false
          → holds_of (is_settled books) (named_by books.history sender order) ≡ false
          → holds_of (is_cancel_requested books.history) (named_by books.history sender order) ≡ false
          → (k : ℕ) × Accepted m sender order k books
      names None is one three four = let never : true ≡ false = sym (ap is_none is) ∙ one in absurd (cc)
      names (Some k) is one three four =
          let named : named_by (before m h) sender order ≡ Some k = ap (λ z. named_by z sender order) (sym history) ∙ is in
          let n = named_requests (before m h) sender order k named in
          let known = instruction_at-known (before m h) k n.instructed n.is in
          let in_history = entry_at-known h m (Cancel sender order) at in
          let some : 0 < m = in_history.0 in
          let within : k ≤ length (before m h) = known.1 in
          let lt : k < m = omega (arith, length-take (m - 1) h) in (
            k,
            record {
              named = named;
              unsettled = sym (ap (holds_of (is_settled books)) is) ∙ three;
              unrequested = ap (λ z. is_cancel_requested z k) (sym history) ∙ sym (ap (holds_of (is_cancel_requested books.history)) is) ∙ four;
              earlier = lt;
              request = record { entry = Cancel sender order; instructed = n.instructed; is_entry = at; is_instructed = sym (instruction_at-before h m k lt) ∙ n.is; requests = n.requests };
            },
          )

  -- an entry requests of one instruction
  one_instruction : (m j k : ℕ) → IsRequestFor h m j → IsRequestFor h m k → j ≡ k
  one_instruction m j k a b =
      let x = requests_true a.entry a.instructed a.requests in
      let y = requests_true b.entry b.instructed b.requests in
      let same : Cancel x.sender x.order ≡ Cancel y.sender y.order = sym x.is ∙ same_entry_of ∙ y.is in
      let senders : a.instructed.sender ≡ b.instructed.sender = sym x.same_sender ∙ cancel_sender x.sender y.sender x.order y.order same ∙ y.same_sender in
      let references : a.instructed.instruction.reference ≡ b.instructed.instruction.reference = sym x.same_reference ∙ ap (λ (o : CancelOrder). o.previous) (cancel_order x.sender y.sender x.order y.order same) ∙ y.same_reference in
      some_number j k (sym (known_instruction_key j a.instructed a.is_instructed) ∙ ap (λ s. number_of_key h (FromParticipant s) a.instructed.instruction.reference) senders ∙ ap (number_of_key h (FromParticipant b.instructed.sender)) references ∙ known_instruction_key k b.instructed b.is_instructed)
    where
      same_entry_of : a.entry ≡ b.entry
      same_entry_of = let e : Some a.entry ≡ Some b.entry = sym a.is_entry ∙ b.is_entry in cc

      cancel_sender : (s t : List ℕ) (o q : CancelOrder) → Cancel s o ≡ Cancel t q → s ≡ t
      cancel_sender s t o q e = cc

      cancel_order : (s t : List ℕ) (o q : CancelOrder) → Cancel s o ≡ Cancel t q → o ≡ q
      cancel_order s t o q e = cc

      some_number : (a b : ℕ) → Some a ≡ Some b → a ≡ b
      some_number a b e = cc

  -- what a request's acceptance says of the instruction that it is for
  request_accepted : (m k : ℕ) → IsRequestFor h m k → (books : Books) → books.history ≡ before m h → AreBooks books
      → (sender : List ℕ) × (order : CancelOrder) × (entry_at h m ≡ Some (Cancel sender order)) × Accepted m sender order k books
  request_accepted m k r books history are =
      let x = requests_true r.entry r.instructed r.requests in
      let at : entry_at h m ≡ Some (Cancel x.sender x.order) = r.is_entry ∙ ap Some x.is in
      let named = accepted_names m x.sender x.order at books history are in
      let P : ℕ → Type 0 = λ j. Accepted m x.sender x.order j books in
      (x.sender, x.order, at, subst P (one_instruction m named.0 k named.1.request r) named.1)

  -- An accepted cancellation requests that of the one instruction that it names.
  pub names_one : (m : ℕ) (sender : List ℕ) (order : CancelOrder) → entry_at h m ≡ Some (Cancel sender order)
      → (k : ℕ) × (k < m) × (named_by (before m h) sender order ≡ Some k) × ((j : ℕ) → IsRequestFor h m j ↔ (j ≡ k))
  names_one m sender order at =
      let there = books_before h m in
      let named = accepted_names m sender order at there.books there.history there.are in (
        named.0,
        named.1.earlier,
        named.1.named,
        λ j. (
          λ r. one_instruction m j named.0 r named.1.request,
          λ e. (let P : ℕ → Type 0 = λ n. IsRequestFor h m n in subst P (sym e) named.1.request),
        ),
      )

  -- a request is behind the instruction that it is for
  request_later : (m k : ℕ) → IsRequestFor h m k → k < m
  request_later m k r = let there = books_before h m in let accepted = request_accepted m k r there.books there.history there.are in accepted.3.earlier

  -- what is requested in front of a number, by an entry
  requested_by : (n m k : ℕ) → IsRequestFor h m k → m < n → is_cancel_requested (before n h) k ≡ true
  requested_by n m k r lt =
      let later = request_later m k r in
      let place = entry_place h m r.entry r.is_entry in
      let at : slice_get (before n h) place.0 ≡ Some r.entry = slice_get-take h (n - 1) place.0 (let is : m ≡ suc place.0 = place.1 in omega arith) ∙ place.2 in
      requested_from (before n h) k (record {
        instructed = r.instructed;
        is = instruction_at-before h n k (omega arith) ∙ r.is_instructed;
        any = any-In (λ entry. requests_cancel entry r.instructed) (drop k (before n h)) r.entry (In-drop (before n h) k place.0 r.entry at (let is : m ≡ suc place.0 = place.1 in omega arith)) r.requests;
      })

  not_before : (m n k : ℕ) → IsRequestFor h m k → IsRequestFor h n k → m < n → ⊥
  not_before m n k a b lt =
      let there = books_before h n in
      let accepted = request_accepted n k b there.books there.history there.are in
      both_ways (is_cancel_requested (before n h) k) accepted.3.unrequested (requested_by n m k a lt)

  -- No two of its cancellations request that of one instruction.
  pub one_request : (m n k : ℕ) → IsRequestFor h m k → IsRequestFor h n k → m ≡ n
  one_request m n k a b = elim (cases_order m n) [
    | inl same ↦ same
    | inr o ↦ elim o [ inl less ↦ absurd (not_before m n k a b less) | inr more ↦ absurd (not_before n m k b a more) ]
  ]

  -- An instruction is requested to be cancelled exactly where some entry requests it.
  pub requested_for : (k : ℕ) → is_cancel_requested h k ≡ true ↔ ((m : ℕ) × IsRequestFor h m k)
  requested_for k = (
    λ e.
        let r = requested_true h k e in
        let found = In-any (λ entry. requests_cancel entry r.instructed) (drop k h) r.any in
        let place = drop-In h k found.0 found.1 in
        (suc place.0, record { entry = found.0; instructed = r.instructed; is_entry = place.2; is_instructed = r.is; requests = found.2 }),
    λ r.
        let later = request_later r.0 k r.1 in
        let place = entry_place h r.0 r.1.entry r.1.is_entry in
        requested_from h k (record {
          instructed = r.1.instructed;
          is = r.1.is_instructed;
          any = any-In (λ entry. requests_cancel entry r.1.instructed) (drop k h) r.1.entry (In-drop h k place.0 r.1.entry place.2 (let is : r.0 ≡ suc place.0 = place.1 in omega arith)) r.1.requests;
        }),
  )

  -- What is settled is never cancelled.

  module _ (ps : List Pair) (ss : List Settled) (pairing : IsPairing h ps) (settlement : IsSettlement h ps ss) (s : Settled) (inside : Contains ss s) where
    -- a settlement stands in the books below each later number
    stands_before : (m : ℕ) → s.run < m → m ≤ length h → (books : Books) → books.history ≡ before m h → AreBooks books → In books.settled s
    stands_before m lt le books history are =
        let g = drop (m - 1) h in
        let whole : h ≡ books.history ++ g = sym (take-append-drop (m - 1) h) ∙ ap (λ z. z ++ g) (sym history) in
        let long_pairing = subst (λ z. IsPairing z ps) whole pairing in
        let long_settlement = subst (λ z. IsSettlement z ps ss) whole settlement in
        let more = pairs_front books.history g books.pairs ps are.pairing long_pairing in
        let late = settled_front books.history g books.pairs ps books.settled ss are.pairing long_pairing are.settlement long_settlement in
        let i : In (books.settled ++ late.0) s = subst (λ z. In z s) late.1 (In-from_Contains ss s inside) in
        elim (In-cases books.settled late.0 s i) [
          | inl old ↦ old
          | inr new ↦
              let above = fresh_settled books.history g books.pairs more.0 books.settled late.0 are.pairing (subst (λ z. IsPairing (books.history ++ g) z) more.1 long_pairing) are.settlement
              (subst (λ z. IsSettlement (books.history ++ g) (books.pairs ++ more.0) z) late.1 (subst (λ z. IsSettlement (books.history ++ g) z ss) more.1 long_settlement)) s new in
              let short : length books.history ≡ length (before m h) = ap length history in
              absurd (omega (arith, above, short, length-take (m - 1) h))
        ]

    -- requests for its sides come before the run
    request_before : (m k : ℕ) → IsRequestFor h m k → has_side k s.pair ≡ true → m < s.run
    request_before m k r side = elim (cases_order m s.run) [
      | inl same ↦ (
          let x = requests_true r.entry r.instructed r.requests in
          let settles = (settlement.exact s).0 inside in
          let facts = due_facts h s.run s.pair settles.due in
          let at : entry_at h s.run ≡ Some (Cancel x.sender x.order) = ap (entry_at h) (sym same) ∙ r.is_entry ∙ ap Some x.is in
          absurd (by_none run_day (entry_at h s.run) (Cancel x.sender x.order) (day_of h s.pair) at refl facts.by))
      | inr o ↦ elim o [
        | inl less ↦ less
        | inr more ↦
            let there = books_before h m in
            let accepted = request_accepted m k r there.books there.history there.are in
            let in_history = entry_at-known h m r.entry r.is_entry in
            let old = stands_before m more in_history.1 there.books there.history there.are in
            absurd (both_ways (is_settled there.books k) accepted.3.unsettled (any-In (λ (t : Settled). has_side k t.pair) there.books.settled s old side))
      ]
    ]

    side_before : (k : ℕ) → is_cancel_requested h k ≡ true → has_side k s.pair ≡ true → is_cancel_requested (before s.run h) k ≡ true
    side_before k e side =
        let r = (requested_for k).0 e in
        requested_by s.run r.0 k r.1 (request_before r.0 k r.1 side)

    pub settled_uncancelled : is_cancelled_pair h s.pair ≡ false
    settled_uncancelled = false_from_ne_true (is_cancelled_pair h s.pair) (λ e.
        let both = and_parts (is_cancel_requested h s.pair.earlier) (is_cancel_requested h s.pair.later) e in
        let settles = (settlement.exact s).0 inside in
        let facts = due_facts h s.run s.pair settles.due in
        let earlier = side_before s.pair.earlier both.0 (or_left _ _ (eq-eqb s.pair.earlier s.pair.earlier refl)) in
        let later = side_before s.pair.later both.1 (or_right _ _ (eq-eqb s.pair.later s.pair.later refl)) in
        both_ways (is_cancelled_pair (before s.run h) s.pair) (not-true (is_cancelled_pair (before s.run h) s.pair) facts.stands) (and_from _ _ earlier later))
