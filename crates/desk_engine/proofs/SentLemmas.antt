-- What one entry more sends, and a run so far.
use Rattle.std.proofs.Common.{◌≡◌, inl, inr, ℕ, ◌+◌, ◌*◌, ◌<◌, ◌≤◌, ◌==◌, true, false, List, [], ◌∷◌, ◌++◌, length, Contains, Some, None, refl, ap, sym, ◌∙◌, arith, length-append, append_assoc, append-nil}
use Rattle.std.specs.List.{flat_map}
use Rattle.std.proofs.lemmas.List.Concat.{flat_map-cons}
use Rattle.std.proofs.lemmas.Bool.{cases_Bool, ne_eqb}
use Rattle.std.proofs.lemmas.Bool.Decides.{nat_tests}
use Rattle.desk_rules.specs.declared.history.entry.Entry.{Entry}
use Rattle.desk_rules.specs.declared.history.entry.Instructed.{Instructed}
use Rattle.desk_rules.specs.declared.history.pair.Pair.{Pair}
use Rattle.desk_rules.specs.declared.history.pair.Settled.{Settled}
use Rattle.desk_rules.specs.declared.answers.reply.Notice.{Notice}
use Rattle.desk_rules.specs.declared.answers.reply.Sent.{Sent}
use Rattle.desk_rules.specs.History.{entry_at, instruction_at}
use Rattle.desk_msg.specs.MessageType.{is_delivery}
use Rattle.desk_rules.specs.Balances.{deliverer_of, receiver_of, delivering, receiving, is_delivered_by}
use Rattle.desk_rules.specs.Opposite.{AreOppositeAt}
use Rattle.desk_rules.specs.Content.{Content, history_of}
use Rattle.desk_register.specs.Changes.{delivering_side, receiving_side, delivering_number, receiving_number}
use Rattle.desk_engine.specs.Sending.{confirmed_to, with_both_confirmed}
use Rattle.desk_rules.specs.Books.{Books, AreBooks}
use Rattle.desk_rules.specs.Sent.{confirmed, date_in, told, told_by, told_to, told_of_pair, told_of_settled, notices_of, sent_from, sent_of}
use Rattle.desk_rules.proofs.Decided.{In, In-from_Contains, In-push_cases}
use Rattle.desk_rules.proofs.HistoryLemmas.{instruction_at-front}
use Rattle.desk_rules.proofs.ConfirmedSums.{legs_of}
use Rattle.desk_rules.proofs.SentFronts.{flat-append, flat-none, if_not, paired_inside, sent_whole}
use Rattle.desk_rules.proofs.SentNumbers.{Every, IsKnown, all_known, every_flat, every_if, sent_counted, sent_length}
use Rattle.desk_rules.proofs.PairingLemmas.{decided_pairing}
use Rattle.desk_rules.proofs.SettlementLemmas.{decided_settlement}
use Rattle.desk_engine.specs.Pass.{books_after}

-- messages of notices, and then of further ones
sent_joined : (g : List Entry) (k : ℕ) (ns ms : List Notice) → sent_from g k (ns ++ ms) ≡ sent_from g k ns ++ sent_from g (k + length ns) ms
sent_joined g k [] ms = let none : k + 0 ≡ k = omega arith in ap (λ n. sent_from g n ms) (sym none)
sent_joined g k (n ∷ ns) ms =
    let this = told_to g k n (instruction_at g n.about) in
    let next : k + 1 + length ns ≡ k + length (n ∷ ns) = omega arith in
    ap (λ z. this ++ z) (sent_joined g (k + 1) ns ms ∙ ap (λ m. sent_from g (k + 1) ns ++ sent_from g m ms) next)
    ∙ sym (append_assoc this (sent_from g (k + 1) ns) (sent_from g (k + length (n ∷ ns)) ms))

below_number : (k n : ℕ) → k ≤ n → (k == n + 1) ≡ false
below_number k n le = ne_eqb k (n + 1) (λ (q : k ≡ n + 1). absurd (omega arith))

module _ (h : List Entry) (e : Entry) (ps more : List Pair) (ss late : List Settled) (are : AreBooks (record { history = h; pairs = ps; settled = ss }))
    (paired_here : (p : Pair) → In more p → p.later ≡ length h + 1) (settled_here : (s : Settled) → In late s → s.run ≡ length h + 1) where
  paired_behind : (p : Pair) → In more p → length h < p.later
  paired_behind p i = let at = paired_here p i in omega arith

  settled_behind : (s : Settled) → In late s → length h < s.run
  settled_behind s i = let at = settled_here s i in omega arith

  pairs_told : flat_map (told_of_pair (length h + 1)) (ps ++ more) ≡ flat_map (told_of_pair (length h + 1)) more
  pairs_told =
      flat-append (told_of_pair (length h + 1)) ps more
      ∙ ap (λ z. z ++ flat_map (told_of_pair (length h + 1)) more)
      (flat-none (told_of_pair (length h + 1)) ps (λ p i. if_not (p.later == length h + 1) _ [] (below_number p.later (length h) (let side = paired_inside h (e ∷ []) ps more ss late are paired_behind settled_behind p i in side.later))))

  settled_told : flat_map (told_of_settled (h ++ e ∷ []) (length h + 1)) (ss ++ late) ≡ flat_map (told_of_settled (h ++ e ∷ []) (length h + 1)) late
  settled_told =
      let f = told_of_settled (h ++ e ∷ []) (length h + 1) in
      flat-append f ss late
      ∙ ap (λ z. z ++ flat_map f late)
      (flat-none f ss (λ s i. if_not (s.run == length h + 1) _ [] (below_number s.run (length h) (let d = decided_settlement h ps ss are.settlement in let known = d.within s i in known.run))))

  -- what the last entry tells
  abbrev pub told_last : List Notice
  told_last = flat_map (told_of_pair (length h + 1)) more ++ flat_map (told_of_settled (h ++ e ∷ []) (length h + 1)) late

  last_told : told_by (record { history = h ++ e ∷ []; pairs = ps ++ more; settled = ss ++ late }) (length h + 1) ≡ told_last
  last_told = ap (λ z. z ++ flat_map (told_of_settled (h ++ e ∷ []) (length h + 1)) (ss ++ late)) pairs_told ∙ ap (λ z. flat_map (told_of_pair (length h + 1)) more ++ z) settled_told

  pub sent_grows : sent_of (record { history = h ++ e ∷ []; pairs = ps ++ more; settled = ss ++ late })
      ≡ sent_of (record { history = h; pairs = ps; settled = ss }) ++ sent_from (h ++ e ∷ []) (length (sent_of (record { history = h; pairs = ps; settled = ss })) + 1) told_last
  sent_grows =
      let before : Books = record { history = h; pairs = ps; settled = ss } in
      let after : Books = record { history = h ++ e ∷ []; pairs = ps ++ more; settled = ss ++ late } in
      let number : 1 + length h ≡ length h + 1 = omega arith in
      let one : flat_map (told_by after) ((1 + length h) ∷ []) ≡ told_last = flat_map-cons (told_by after) (1 + length h) [] ∙ append-nil (told_by after (1 + length h)) ∙ ap (told_by after) number ∙ last_told in
      let counted : length (sent_of before) ≡ length (notices_of before) = sent_length h 1 (notices_of before) (all_known before are) in
      let from : 1 + length (notices_of before) ≡ length (sent_of before) + 1 = omega arith in
      sent_whole h (e ∷ []) ps more ss late are paired_behind settled_behind
      ∙ ap (λ z. sent_of before ++ sent_from (h ++ e ∷ []) (1 + length (notices_of before)) z) one
      ∙ ap (λ k. sent_of before ++ sent_from (h ++ e ∷ []) k told_last) from

-- an entry that pairs and settles nothing sends nothing
pub sends_nothing : (books : Books) (e : Entry) → AreBooks books → sent_of (record { history = books.history ++ e ∷ []; pairs = books.pairs ++ []; settled = books.settled }) ≡ sent_of books
sends_nothing books e are =
    let grown = sent_grows books.history e books.pairs [] books.settled [] are (λ p i. absurd i) (λ s i. absurd i) in
    let settled : books.settled ++ [] ≡ books.settled = append-nil books.settled in
    ap (λ ss. sent_of (record { history = books.history ++ e ∷ []; pairs = books.pairs ++ []; settled = ss })) (sym settled) ∙ grown ∙ append-nil (sent_of books)

-- an instruction that is paired sends one message, to the sender of the earlier one
pub sends_advice : (books : Books) (e : Entry) (p : Pair) (i : Instructed) → AreBooks books → p.later ≡ length books.history + 1 → instruction_at (books.history ++ e ∷ []) p.earlier ≡ Some i
    → sent_of (record { history = books.history ++ e ∷ []; pairs = books.pairs ++ p ∷ []; settled = books.settled })
    ≡ sent_of books ++ told (books.history ++ e ∷ []) (length (sent_of books) + 1) p.earlier None i ∷ []
sends_advice books e p i are number at =
    let g = books.history ++ e ∷ [] in
    let k = length (sent_of books) + 1 in
    let grown = sent_grows books.history e books.pairs (p ∷ []) books.settled [] are (λ q w. elim w [ inl is ↦ ap (λ (z : Pair). z.later) (sym is) ∙ number | inr none ↦ absurd none ]) (λ s w. absurd w) in
    let settled : books.settled ++ [] ≡ books.settled = append-nil books.settled in
    let here : p.later == length books.history + 1 ≡ true = grind (arith, nat_tests) in
    let told_one : flat_map (told_of_pair (length books.history + 1)) (p ∷ []) ++ [] ≡ record { about = p.earlier; run = None } ∷ [] =
    append-nil (flat_map (told_of_pair (length books.history + 1)) (p ∷ []))
    ∙ flat_map-cons (told_of_pair (length books.history + 1)) p []
    ∙ append-nil (told_of_pair (length books.history + 1) p)
    ∙ rw here refl in
    ap (λ ss. sent_of (record { history = g; pairs = books.pairs ++ p ∷ []; settled = ss })) (sym settled)
    ∙ grown
    ∙ ap (λ z. sent_of books ++ sent_from g k z) told_one
    ∙ ap (λ o. sent_of books ++ (told_to g k (record { about = p.earlier; run = None }) o ++ [])) at

-- a run so far: what it has settled is told behind all that was sent before
pub sent_so_far : (books : Books) (run : Entry) (more : List Settled) → AreBooks books → ((s : Settled) → In more s → s.run ≡ length books.history + 1)
    → sent_of (books_after books run (books.settled ++ more))
    ≡ sent_of books ++ sent_from (books.history ++ run ∷ []) (length (sent_of books) + 1) (flat_map (told_of_settled (books.history ++ run ∷ []) (length books.history + 1)) more)
sent_so_far books run more are here =
    let grown = sent_grows books.history run books.pairs [] books.settled more are (λ p i. absurd i) here in
    let pairs : books.pairs ++ [] ≡ books.pairs = append-nil books.pairs in
    ap (λ ps. sent_of (record { history = books.history ++ run ∷ []; pairs = ps; settled = books.settled ++ more })) (sym pairs) ∙ grown

-- a run that has settled nothing has sent nothing
pub sent_none_yet : (books : Books) (run : Entry) → AreBooks books → sent_of (books_after books run books.settled) ≡ sent_of books
sent_none_yet books run are =
    let settled : books.settled ++ [] ≡ books.settled = append-nil books.settled in
    ap (λ ss. sent_of (books_after books run ss)) (sym settled) ∙ sent_so_far books run [] are (λ s i. absurd i) ∙ append-nil (sent_of books)

-- what a run so far tells
abbrev told_so_far : Books → Entry → List Settled → List Notice
told_so_far books run more = flat_map (told_of_settled (books.history ++ run ∷ []) (length books.history + 1)) more

-- what a run has settled so far: pairs of the books
pub record IsOfRun (books : Books) (more : List Settled) : Type 0 where
  pub run : (s : Settled) → In more s → s.run ≡ length books.history + 1
  pub paired : (s : Settled) → In more s → Contains books.pairs s.pair

opposite_still : (h : List Entry) (e : Entry) (p : Pair) → p.earlier ≤ length h → p.later ≤ length h → AreOppositeAt h p.earlier p.later → AreOppositeAt (h ++ e ∷ []) p.earlier p.later
opposite_still h e p first second o = record {
  first = o.first;
  second = o.second;
  is_first = instruction_at-front h (e ∷ []) p.earlier first ∙ o.is_first;
  is_second = instruction_at-front h (e ∷ []) p.later second ∙ o.is_second;
  opposite = o.opposite;
}

-- each of its notices is about an instruction
so_far_known : (books : Books) (run : Entry) (more : List Settled) → AreBooks books → IsOfRun books more → Every (IsKnown (books.history ++ run ∷ [])) (told_so_far books run more)
so_far_known books run more are of =
    let g = books.history ++ run ∷ [] in
    every_flat (IsKnown g) (told_of_settled g (length books.history + 1)) more (λ s i.
    let mate = (are.pairing.exact s.pair).0 (of.paired s i) in
    let d = decided_pairing books.history books.pairs are.pairing in
    let later : s.pair.later ≤ length books.history = d.within s.pair (In-from_Contains books.pairs s.pair (of.paired s i)) in
    let earlier : s.pair.earlier < s.pair.later = mate.candidate.earlier in
    let legs = legs_of g s.pair (opposite_still books.history run s.pair (omega arith) later mate.candidate.opposite) in
    every_if (IsKnown g) (s.run == length books.history + 1) _ ((legs.delivery, legs.delivered), ((legs.receipt, legs.received), tt)))

two_each : (g : List Entry) (n : ℕ) (more : List Settled) → ((s : Settled) → In more s → s.run ≡ n) → length (flat_map (told_of_settled g n) more) ≡ 2 * length more
two_each g n [] here = refl
two_each g n (s ∷ more) here =
    let same : s.run ≡ n = here s (inl refl) in
    let test : s.run == n ≡ true = grind (arith, nat_tests) in
    let f = told_of_settled g n in
    let two : length (f s) ≡ 2 = rw test refl in
    let rest = two_each g n more (λ t i. here t (inr i)) in
    ap length (flat_map-cons f s more) ∙ length-append (f s) (flat_map f more) ∙ omega (arith, two, rest)

-- how many messages there are then: one of each pair, and two of each settlement
pub sent_so_far_count : (books : Books) (run : Entry) (more : List Settled) → AreBooks books → IsOfRun books more
    → length (sent_of (books_after books run (books.settled ++ more))) ≡ length books.pairs + 2 * length books.settled + 2 * length more
sent_so_far_count books run more are of =
    let g = books.history ++ run ∷ [] in
    let all = sent_counted books are in
    let size = length-append (sent_of books) (sent_from g (length (sent_of books) + 1) (told_so_far books run more)) in
    let each = sent_length g (length (sent_of books) + 1) (told_so_far books run more) (so_far_known books run more are of) in
    let two = two_each g (length books.history + 1) more of.run in
    ap length (sent_so_far books run more are of.run) ∙ omega (arith, all, size, each, two)

-- the instructions of a pair's sides, by their numbers
pub side_at : (h : List Entry) (m n : ℕ) (earlier later : Instructed) → instruction_at h m ≡ Some earlier → instruction_at h n ≡ Some later
    → (instruction_at h (delivering_number earlier m n) ≡ Some (delivering_side earlier later)) × (instruction_at h (receiving_number earlier m n) ≡ Some (receiving_side earlier later))
side_at h m n earlier later first second = elim (cases_Bool (is_delivery earlier.instruction.mt)) [ inl e ↦ rw e (first, second) | inr e ↦ rw e (second, first) ]

-- one settlement more: two messages more, the deliverer's first
pub sends_confirmations : (books : Books) (run : Entry) (more : List Settled) (t : Settled) (m n : ℕ) (earlier later : Instructed) (day : List ℕ) (content : Content) → AreBooks books → IsOfRun books more
    → t.run ≡ length books.history + 1 → t.pair.earlier ≡ m → t.pair.later ≡ n → instruction_at (books.history ++ run ∷ []) m ≡ Some earlier → instruction_at (books.history ++ run ∷ []) n ≡ Some later
    → instruction_at (history_of content) m ≡ Some earlier → instruction_at (history_of content) n ≡ Some later
    → date_in (entry_at (books.history ++ run ∷ []) (length books.history + 1)) ≡ day
    → content.sent ≡ sent_of (books_after books run (books.settled ++ more)) → (with_both_confirmed m n earlier day content).sent ≡ sent_of (books_after books run (books.settled ++ (more ++ t ∷ [])))
sends_confirmations books run more t m n earlier later day content are of here first second at_first at_second now_first now_second on_day sent =
    let g = books.history ++ run ∷ [] in
    let number = length books.history + 1 in
    let f = told_of_settled g number in
    let k = length content.sent in
    let from = length (sent_of books) + 1 in
    let before = sent_from g from (told_so_far books run more) in
    let side : is_delivered_by (instruction_at g t.pair.earlier) ≡ is_delivery earlier.instruction.mt = ap (λ i. is_delivered_by (instruction_at g i)) first ∙ ap is_delivered_by at_first in
    let deliverer : deliverer_of g t.pair ≡ delivering_number earlier m n = ap (λ b. delivering b t.pair.earlier t.pair.later) side ∙ ap (λ i. delivering (is_delivery earlier.instruction.mt) i t.pair.later) first ∙ ap (delivering (is_delivery earlier.instruction.mt) m) second in
    let receiver : receiver_of g t.pair ≡ receiving_number earlier m n = ap (λ b. receiving b t.pair.earlier t.pair.later) side ∙ ap (λ i. receiving (is_delivery earlier.instruction.mt) i t.pair.later) first ∙ ap (receiving (is_delivery earlier.instruction.mt) m) second in
    let delivered = side_at g m n earlier later at_first at_second in
    let now = side_at (history_of content) m n earlier later now_first now_second in
    let first_told : List Sent = confirmed (k + 1) (delivering_number earlier m n) (delivering_side earlier later) day ∷ [] in
    let test : t.run == number ≡ true = grind (arith, nat_tests) in
    let two : flat_map f (t ∷ []) ≡ record { about = delivering_number earlier m n; run = Some number } ∷ record { about = receiving_number earlier m n; run = Some number } ∷ [] =
    flat_map-cons f t [] ∙ append-nil (f t) ∙ rw test (ap (λ a. record { about = a; run = Some number } ∷ record { about = receiver_of g t.pair; run = Some number } ∷ []) deliverer ∙ ap (λ a. record { about = delivering_number earlier m n; run = Some number } ∷ record { about = a; run = Some number } ∷ []) receiver) in
    let size = length-append (sent_of books) before in
    let each = sent_length g from (told_so_far books run more) (so_far_known books run more are of) in
    let so_far = sent_so_far books run more are of.run in
    let counted : k ≡ length (sent_of books ++ before) = ap length (sent ∙ so_far) in
    let next : from + length (told_so_far books run more) ≡ k + 1 = omega arith in
    let one : told_to g (k + 1) (record { about = delivering_number earlier m n; run = Some number }) (instruction_at g (delivering_number earlier m n)) ≡ confirmed (k + 1) (delivering_number earlier m n) (delivering_side earlier later) day ∷ [] =
    ap (told_to g (k + 1) (record { about = delivering_number earlier m n; run = Some number })) delivered.0 ∙ ap (λ d. confirmed (k + 1) (delivering_number earlier m n) (delivering_side earlier later) d ∷ []) on_day in
    let further : k + 1 + 1 ≡ k + 2 = omega arith in
    let other : told_to g (k + 1 + 1) (record { about = receiving_number earlier m n; run = Some number }) (instruction_at g (receiving_number earlier m n)) ≡ confirmed (k + 2) (receiving_number earlier m n) (receiving_side earlier later) day ∷ [] =
    ap (told_to g (k + 1 + 1) (record { about = receiving_number earlier m n; run = Some number })) delivered.1
    ∙ ap (λ d. confirmed (k + 1 + 1) (receiving_number earlier m n) (receiving_side earlier later) d ∷ []) on_day
    ∙ ap (λ j. confirmed j (receiving_number earlier m n) (receiving_side earlier later) day ∷ []) further in
    let these : sent_from g (k + 1) (flat_map f (t ∷ [])) ≡ confirmed (k + 1) (delivering_number earlier m n) (delivering_side earlier later) day ∷ confirmed (k + 2) (receiving_number earlier m n) (receiving_side earlier later) day ∷ [] =
    ap (sent_from g (k + 1)) two ∙ ap (λ z. z ++ (told_to g (k + 1 + 1) (record { about = receiving_number earlier m n; run = Some number }) (instruction_at g (receiving_number earlier m n)) ++ [])) one
    ∙ ap (λ z. confirmed (k + 1) (delivering_number earlier m n) (delivering_side earlier later) day ∷ (z ++ [])) other in
    let late : (s : Settled) → In (more ++ t ∷ []) s → s.run ≡ number = λ s i. elim (In-push_cases more t s i) [ inl old ↦ of.run s old | inr is ↦ ap (λ (z : Settled). z.run) (sym is) ∙ here ] in
    let one_more : length (content.sent ++ first_told) + 1 ≡ k + 2 = (let size_one = length-append content.sent first_told in omega arith) in
    ap (λ o. (content.sent ++ confirmed_to (k + 1) (delivering_number earlier m n) o day) ++ confirmed_to (length (content.sent ++ confirmed_to (k + 1) (delivering_number earlier m n) o day) + 1) (receiving_number earlier m n) (instruction_at (history_of content) (receiving_number earlier m n)) day) now.0
    ∙ ap (λ o. (content.sent ++ first_told) ++ confirmed_to (length (content.sent ++ first_told) + 1) (receiving_number earlier m n) o day) now.1
    ∙ ap (λ j. (content.sent ++ first_told) ++ confirmed j (receiving_number earlier m n) (receiving_side earlier later) day ∷ []) one_more
    ∙ append_assoc content.sent first_told (confirmed (k + 2) (receiving_number earlier m n) (receiving_side earlier later) day ∷ [])
    ∙ ap (λ z. content.sent ++ z) (sym these)
    ∙ ap (λ z. z ++ sent_from g (k + 1) (flat_map f (t ∷ []))) (sent ∙ so_far)
    ∙ append_assoc (sent_of books) before (sent_from g (k + 1) (flat_map f (t ∷ [])))
    ∙ ap (λ j. sent_of books ++ (before ++ sent_from g j (flat_map f (t ∷ [])))) (sym next)
    ∙ ap (λ z. sent_of books ++ z) (sym (sent_joined g from (told_so_far books run more) (flat_map f (t ∷ []))))
    ∙ ap (λ z. sent_of books ++ sent_from g from z) (sym (flat-append f more (t ∷ [])))
    ∙ sym (sent_so_far books run (more ++ t ∷ []) are late)
