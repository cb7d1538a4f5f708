-- What the reply of a run tells: how many pairs the run settled, and how many due ones it left.
use Rattle.std.proofs.Common.{◌≡◌, ℕ, zero, suc, ◌+◌, ◌<◌, ◌≤◌, inl, inr, Bool, false, not, ◌&&◌, cond, List, [], ◌∷◌, ◌++◌, map, take, drop, length, codes, decimal, count_by, Some, refl, sym, ◌∙◌, ap, subst, arith, length-take, take-append-drop, slice_get}
use Rattle.std.specs.Prelude.{◌==◌, nat_le, option_map}
use Rattle.std.proofs.lemmas.Bool.{cases_lt, eqb-true, le-leb, leb-true, false_from_ne_true}
use Rattle.std.proofs.lemmas.List.Sums.{count_by-le-length, sum_by-append}
use Rattle.desk_rules.specs.declared.history.entry.Entry.{Entry}
use Rattle.desk_rules.specs.declared.history.entry.Entry.TheVariants.{Run}
use Rattle.desk_rules.specs.declared.history.entry.RunRule.{RunRule}
use Rattle.desk_rules.specs.declared.history.pair.Pair.{Pair}
use Rattle.desk_rules.specs.declared.history.pair.Settled.{Settled}
use Rattle.desk_rules.specs.declared.answers.reply.Kept.{Kept}
use Rattle.desk_rules.specs.declared.answers.reply.Reply.{Reply}
use Rattle.desk_rules.specs.History.{entry_at}
use Rattle.desk_rules.specs.Pairing.{IsPairing}
use Rattle.desk_rules.specs.Settlement.{IsSettlement, is_due, settled_count}
use Rattle.desk_rules.specs.Sent.{sent_of}
use Rattle.desk_rules.specs.Books.{Books, AreBooks}
use Rattle.desk_rules.specs.Reply.{IsFirstReply, accepted_text, is_settled_pair, run_text, waiting_count}
use Rattle.desk_rules.specs.Content.{Content}
use Rattle.desk_rules.specs.Tables.{AreTables}
use Rattle.desk_rules.proofs.Decided.{In, filter-front}
use Rattle.desk_rules.proofs.HistoryLemmas.{entry_at-known}
use Rattle.desk_rules.proofs.SettlementLemmas.{due_facts, decided_settlement}
use Rattle.desk_rules.proofs.SettlementGrowth.{is_due-front}
use Rattle.desk_rules.proofs.Existence.{books_exist}
use Rattle.desk_rules.proofs.PairingLaws.{pairs_front, settled_front}
use Rattle.desk_rules.proofs.FreshParts.{fresh_pairs, fresh_settled}
use Rattle.desk_rules.proofs.BalanceLemmas.{sum_same}
use Rattle.desk_rules.proofs.SentFronts.{front, whole, books_from, same_books}
use Rattle.desk_rules.proofs.SentNumbers.{sent_counted}
use Rattle.desk_register.specs.Looked.{reply_at}
use Rattle.desk_journal.specs.Runs.{settled_upto, left_waiting}

-- How many pass a test.

abbrev one_if : Bool → ℕ
one_if test = cond test 1 0

count_same : {X : Type 0} (p q : X → Bool) (xs : List X) → ((x : X) → In xs x → p x ≡ q x) → count_by p xs ≡ count_by q xs
count_same p q xs same = sum_same (λ x. one_if (p x)) (λ x. one_if (q x)) xs (λ x i. ap one_if (same x i))

zeros : {X : Type 0} (xs : List X) → count_by (λ x. false) xs ≡ 0
zeros [] = refl
zeros (x ∷ xs) = zeros xs

-- where none of the rest passes, as many pass as of the front
count_front : {X : Type 0} (p : X → Bool) (xs ys : List X) → ((x : X) → In ys x → p x ≡ false) → count_by p (xs ++ ys) ≡ count_by p xs
count_front p xs ys none =
    let joined = sum_by-append (λ x. one_if (p x)) xs ys in
    let rest = count_same p (λ x. false) ys none ∙ zeros ys in
    omega (arith, joined, rest)

-- What is behind a run changes nothing of what its reply counts.
module _ (h g : List Entry) (ps more : List Pair) (ss late : List Settled) (n : ℕ) where
  module _ (last : n ≡ length h) (paired_behind : (p : Pair) → In more p → length h < p.later) (settled_behind : (s : Settled) → In late s → length h < s.run) (settled_inside : (s : Settled) → In ss s → s.run ≤ length h) where
    same_settled : settled_count ss n ≡ settled_count (ss ++ late) n
    same_settled = sym (count_front (λ (s : Settled). s.run == n) ss late (λ s i. false_from_ne_true (s.run == n) (λ e.
        let same = eqb-true s.run n e in
        let above = settled_behind s i in
        omega (arith, same, above, last))))

    settled_to : settled_upto n (ss ++ late) ≡ ss
    settled_to = filter-front (λ (s : Settled). nat_le s.run n) ss late
        (λ s i. let within = settled_inside s i in le-leb s.run n (omega (arith, within, last)))
        (λ s i. false_from_ne_true (nat_le s.run n) (λ e.
        let le = leb-true s.run n e in
        let above = settled_behind s i in
        omega (arith, le, above, last)))

    same_due : (p : Pair) → is_due h n p ≡ is_due (h ++ g) n p
    same_due p = elim (cases_lt p.later n) [
      | inl lt ↦ sym (is_due-front h g n p (omega (arith, last)) lt)
      | inr ge ↦
          false_from_ne_true (is_due h n p) (λ e. let due = due_facts h n p e in let numbered = due.numbered in omega (arith, numbered, ge))
          ∙ sym (false_from_ne_true (is_due (h ++ g) n p) (λ e. let due = due_facts (h ++ g) n p e in let numbered = due.numbered in omega (arith, numbered, ge)))
    ]

    left : Pair → Bool
    left p = is_due (h ++ g) n p && not (is_settled_pair (settled_upto n (ss ++ late)) p)

    same_waiting : waiting_count (front h g ps more ss late) n ≡ left_waiting (whole h g ps more ss late) n
    unfolding left
    same_waiting =
        count_same (λ p. is_due h n p && not (is_settled_pair ss p)) left ps (λ p i.
        ap (λ b. b && not (is_settled_pair ss p)) (same_due p)
        ∙ ap (λ z. is_due (h ++ g) n p && not (is_settled_pair z p)) (sym settled_to))
        ∙ sym (count_front left ps more (λ p i.
        ap (λ b. b && not (is_settled_pair (settled_upto n (ss ++ late)) p)) (false_from_ne_true (is_due (h ++ g) n p) (λ e.
        let due = due_facts (h ++ g) n p e in
        let numbered = due.numbered in
        let above = paired_behind p i in
        omega (arith, numbered, above, last)))))

-- the counts of a front's books after its last entry are those of the whole
record SameCounts (books first : Books) (n : ℕ) : Type 0 where
  settled : settled_count first.settled n ≡ settled_count books.settled n
  waiting : waiting_count first n ≡ left_waiting books n

same_counts : (books first : Books) (rest : List Entry) (n : ℕ) → AreBooks first → AreBooks books → books.history ≡ first.history ++ rest → n ≡ length first.history → SameCounts books first n
unfolding books_from
same_counts books first rest n are longer e last =
    let pairing = subst (λ z. IsPairing z books.pairs) e longer.pairing in
    let settlement = subst (λ z. IsSettlement z books.pairs books.settled) e longer.settlement in
    let more = pairs_front first.history rest first.pairs books.pairs are.pairing pairing in
    let late = settled_front first.history rest first.pairs books.pairs first.settled books.settled are.pairing pairing are.settlement settlement in
    let same = same_books books.history (first.history ++ rest) books.pairs (first.pairs ++ more.0) books.settled (first.settled ++ late.0) e more.1 late.1 in
    let whole_are = subst AreBooks same longer in
    let paired_behind = fresh_pairs first.history rest first.pairs more.0 are.pairing whole_are.pairing in
    let settled_behind = fresh_settled first.history rest first.pairs more.0 first.settled late.0 are.pairing whole_are.pairing are.settlement whole_are.settlement in
    let inside : (s : Settled) → In first.settled s → s.run ≤ length first.history = λ s i. ((decided_settlement first.history first.pairs first.settled are.settlement).within s i).run in
    record {
      settled = same_settled first.history rest first.pairs more.0 first.settled late.0 n last paired_behind settled_behind inside ∙ ap (λ z. settled_count z n) (sym late.1);
      waiting = same_waiting first.history rest first.pairs more.0 first.settled late.0 n last paired_behind settled_behind inside ∙ ap (λ b. left_waiting b n) (sym same);
    }

-- what is kept of an entry that a register has
kept_there : (xs : List Kept) (k : ℕ) (e : Entry) → slice_get (map (λ (kept : Kept). kept.entry) xs) k ≡ Some e → (kept : Kept) × (slice_get xs k ≡ Some kept)
kept_there [] k e is = absurd (cc)
kept_there (x ∷ xs) zero e is = (x, refl)
kept_there (x ∷ xs) (suc k) e is = kept_there xs k e is

abbrev counted_text : ℕ → ℕ → ℕ → List ℕ
counted_text n settled waiting = accepted_text n ++ codes " settled " ++ decimal settled ++ codes " waiting " ++ decimal waiting

module _ (books : Books) (content : Content) (are : AreTables books content) where
  -- the text of the first reply of a run
  first_text : (n : ℕ) (reference day : List ℕ) (rule : RunRule) (reply : Reply) → entry_at books.history n ≡ Some (Run reference day rule) → IsFirstReply books.history n reply → reply.text ≡ counted_text n (settled_count books.settled n) (left_waiting books n)
  first_text n reference day rule reply at first =
      let all = books_exist (take n books.history) in
      let before : Books = record { history = take n books.history; pairs = all.0; settled = all.1 } in
      let before_are : AreBooks before = record { pairing = all.2.pairing; settlement = all.2.settlement } in
      let known = entry_at-known books.history n (Run reference day rule) at in
      let taken = length-take n books.history in
      let inside = known.1 in
      let last : n ≡ length (take n books.history) = omega (arith, taken, inside) in
      let same = same_counts books before (drop n books.history) n before_are are.are (sym (take-append-drop n books.history)) last in
      ap (λ (r : Reply). r.text) (first.is before (Run reference day rule) refl before_are at)
      ∙ ap (run_text before) (sym last)
      ∙ ap (λ k. counted_text n k (waiting_count before n)) same.settled
      ∙ ap (counted_text n (settled_count books.settled n)) same.waiting

  -- the reply of a run tells how many pairs it settled, and how many due ones it left
  pub run_replied : (n : ℕ) (reference day : List ℕ) (rule : RunRule) → entry_at books.history n ≡ Some (Run reference day rule)
      → (reply : Reply) × (reply_at content n ≡ Some reply) × (reply.text ≡ accepted_text n ++ codes " settled " ++ decimal (settled_count books.settled n) ++ codes " waiting " ++ decimal (left_waiting books n))
  run_replied zero reference day rule at = absurd (cc)
  run_replied (suc k) reference day rule at =
      let kept = kept_there content.register k (Run reference day rule) (ap (λ h. slice_get h k) are.history ∙ at) in
      let number : k + 1 ≡ suc k = omega arith in
      let first = subst (λ m. IsFirstReply books.history m kept.0.reply) number (are.replies.each k kept.0 kept.1) in
      (kept.0.reply, ap (option_map (λ (x : Kept). x.reply)) kept.1, first_text (suc k) reference day rule kept.0.reply at first)

-- what a run settles and leaves are no more than the messages that are sent
pub counts_few : (books : Books) → AreBooks books → (n : ℕ) → (settled_count books.settled n ≤ length (sent_of books)) × (left_waiting books n ≤ length (sent_of books))
counts_few books are n =
    let sent = sent_counted books are in
    let settled = count_by-le-length (λ (s : Settled). s.run == n) books.settled in
    let left = count_by-le-length (λ (p : Pair). is_due books.history n p && not (is_settled_pair (settled_upto n books.settled) p)) books.pairs in
    (omega (arith, sent, settled), omega (arith, sent, left))
