-- What is noted of the messages that entries caused: the counts that the reply of a run tells, and the notices of one entry
-- after another.
use Rattle.std.proofs.Common.{◌≡◌, ◌≢◌, ℕ, ◌+◌, ◌*◌, ◌<◌, ◌^◌, List, [], ◌∷◌, ◌++◌, length, map, codes, decimal, Option, Some, None, sym, ap, ◌∙◌, subst, arith, append_assoc, append-nil}
use Rattle.std.specs.Prelude.{Result, Ok, Err, replicate}
use Rattle.std.specs.List.{flat_map, range_with_len}
use Rattle.std.specs.Result.{IsErrAnd}
use Rattle.std.proofs.lemmas.List.{length-map, map-append, replicate-append-replicate}
use Rattle.desk_rules.specs.declared.answers.reply.Notice.{Notice}
use Rattle.desk_rules.specs.declared.answers.reply.Reply.{Reply}
use Rattle.desk_rules.specs.declared.limits.TheConstants.{MOST_SENT}
use Rattle.desk_rules.specs.Books.{Books}
use Rattle.desk_rules.specs.Content.{Content}
use Rattle.desk_rules.specs.History.{entry_at}
use Rattle.desk_rules.specs.Reply.{accepted_text}
use Rattle.desk_rules.specs.Sent.{sent_of, told_by}
use Rattle.desk_rules.specs.Settlement.{settled_count}
use Rattle.desk_rules.specs.Tables.{AreTables}
use Rattle.desk_rules.proofs.OneContent.{one_books}
use Rattle.desk_rules.proofs.SentFronts.{flat-append, range-append}
use Rattle.desk_register.specs.Looked.{reply_at}
use Rattle.desk_register.specs.declared.register.Fault.TheVariants as faults
use Rattle.desk_register.specs.View.{HasRead, View, IsRead}
use Rattle.desk_register.specs.declared.fault.WalkFault.{WalkFault}
use Rattle.desk_register.specs.declared.fault.WalkFault.TheVariants as walks
use Rattle.desk_register.specs.Ends.{at_register}
use Rattle.desk_register.proofs.ReadLemmas.{kept_so}
use Rattle.desk_register.proofs.ReadingLemmas.{broke_off, read_on, read_so}
use Rattle.desk_journal.specs.Messages.{sent_upto}
use Rattle.desk_journal.specs.Runs.{left_waiting}
use Rattle.desk_journal.specs.Sending.{HoldsRun, blank, told_upto}
use Rattle.desk_journal.proofs.ReplyLemmas.{counts_few, run_replied}

-- The reply of a run.

-- a text that tells two counts which fit is read so
abbrev ReadsCounts : List ℕ → Option (ℕ × ℕ) → Type 0
ReadsCounts text found =
    (n settled waiting : ℕ) → text ≡ accepted_text n ++ codes " settled " ++ decimal settled ++ codes " waiting " ++ decimal waiting → settled < 2 ^ 64 → waiting < 2 ^ 64 → found ≡ Some (settled, waiting)

-- the counts of the books of a content, from the text of the reply that it keeps
counts_told : (content : Content) (n : ℕ) → HoldsRun content n → (books : Books) → AreTables books content → (reply : Reply) → reply_at content n ≡ Some reply → (found : Option (ℕ × ℕ)) → ReadsCounts reply.text found
    → found ≡ Some (settled_count books.settled n, left_waiting books n)
counts_told content n run books are reply at found reads =
    let one : run.holds.books ≡ books = one_books run.holds.books books run.holds.are.are are.are (sym run.holds.are.history ∙ are.history) in
    let told = run_replied books content are n run.reference run.day run.rule (ap (λ h. entry_at h n) (sym are.history) ∙ run.is_run) in
    let same : reply ≡ told.0 = some_reply reply told.0 (sym at ∙ told.1) in
    let counts = counts_few books are.are n in
    let few = subst (λ (b : Books). length (sent_of b) < MOST_SENT) one run.holds.few in
    reads n (settled_count books.settled n) (left_waiting books n) (ap (λ (r : Reply). r.text) same ∙ told.2) (omega (arith, counts, few)) (omega (arith, counts, few))
  where
    some_reply : (a b : Reply) → Some a ≡ Some b → a ≡ b
    some_reply a b e = cc

-- so they are what was found in it
pub counts_found : (content : Content) (n : ℕ) → HoldsRun content n → (books : Books) → AreTables books content → (reply : Reply) → reply_at content n ≡ Some reply → (found : Option (ℕ × ℕ)) → ReadsCounts reply.text found
    → (counts : ℕ × ℕ) → found ≡ Some counts → (counts.0 ≡ settled_count books.settled n) × (counts.1 ≡ left_waiting books n)
counts_found content n run books are reply at found reads counts is =
    let same = some_counts counts (settled_count books.settled n, left_waiting books n) (sym is ∙ counts_told content n run books are reply at found reads) in
    (ap (λ (x : ℕ × ℕ). x.0) same, ap (λ (x : ℕ × ℕ). x.1) same)
  where
    some_counts : (a b : ℕ × ℕ) → Some a ≡ Some b → a ≡ b
    some_counts a b e = cc

-- and something was found
pub counts_there : (content : Content) (n : ℕ) → HoldsRun content n → (reply : Reply) → reply_at content n ≡ Some reply → (found : Option (ℕ × ℕ)) → ReadsCounts reply.text found → found ≢ None
counts_there content n run reply at found reads none =
    not_both (settled_count run.holds.books.settled n, left_waiting run.holds.books n) none (counts_told content n run run.holds.books run.holds.are reply at found reads)
  where
    not_both : (counts : ℕ × ℕ) → found ≡ None → found ≡ Some counts → ⊥
    not_both counts e f = absurd (cc)

-- two more of the same behind many
pub two_more : (was items between now : List Notice) (notice : Notice) (k : ℕ) → items ≡ was ++ replicate (2 * k) notice → between ≡ items ++ notice ∷ [] → now ≡ between ++ notice ∷ [] → now ≡ was ++ replicate (2 * (k + 1)) notice
two_more was items between now notice k many first second =
    let two : List Notice = notice ∷ notice ∷ [] in
    let more : 2 * k + 2 ≡ 2 * (k + 1) = omega arith in
    second
    ∙ ap (λ z. z ++ notice ∷ []) first
    ∙ append_assoc items (notice ∷ []) (notice ∷ [])
    ∙ ap (λ z. z ++ two) many
    ∙ append_assoc was (replicate (2 * k) notice) two
    ∙ ap (λ z. was ++ z) (replicate-append-replicate (2 * k) 2 notice)
    ∙ ap (λ m. was ++ replicate m notice) more

-- The walk over the entries.

-- how a part of it ended
abbrev Ended : Type 0
Ended = Result (Unit {0}) WalkFault

abbrev broken : WalkFault → Ended
broken fault = Err fault

-- reading calls that went well, and then a part of the walk
pub walk_then : (r : Ended) (v0 v1 v2 : View) → HasRead v0 v1 → IsRead (at_register r) v1 v2 → IsRead (at_register r) v0 v2
walk_then (Ok x) v0 v1 v2 h read = read_so v0 v2 (read_on v0 v1 h tt v2 read) tt
walk_then (Err (walks.Sink fault)) v0 v1 v2 h read = read_so v0 v2 (read_on v0 v1 h tt v2 read) tt
walk_then (Err walks.Memory) v0 v1 v2 h read = broke_off v0 v1 h faults.Memory v2 read
walk_then (Err walks.Storage) v0 v1 v2 h read = broke_off v0 v1 h faults.Storage v2 read

-- and one that broke off, handed on
pub walk_broke : (fault : WalkFault) (r : Ended) (v0 v1 v2 : View) → IsErrAnd r (λ other. other ≡ fault) → HasRead v0 v1 → IsRead (at_register (broken fault)) v1 v2 → IsRead (at_register r) v0 v2
walk_broke fault (Ok x) v0 v1 v2 is h read = absurd is
walk_broke fault (Err other) v0 v1 v2 is h read = subst (λ z. IsRead (at_register (broken z)) v0 v2) (sym is) (walk_then (broken fault) v0 v1 v2 h read)

-- and one that broke off without a call of the register
pub list_broke : (fault : WalkFault) (r : Ended) (v0 v1 : View) → IsErrAnd r (λ other. other ≡ fault) → HasRead v0 v1 → at_register (broken fault) ≡ Ok tt → IsRead (at_register r) v0 v1
list_broke fault (Ok x) v0 v1 is h well = absurd is
list_broke fault (Err other) v0 v1 is h well = subst (λ z. IsRead z v0 v1) (sym well ∙ ap (λ z. at_register (broken z)) (sym is)) (read_so v0 v1 h tt)

-- what is told up to the next number, and how much that is
told_more : (books : Books) (n : ℕ) → map blank (told_upto books (n + 1)) ≡ map blank (told_upto books n) ++ map blank (told_by books (n + 1))
told_more books n =
    let next : 1 + n ≡ n + 1 = omega arith in
    ap (λ ns. map blank (flat_map (told_by books) ns)) (range-append 1 n 1)
    ∙ ap (map blank) (flat-append (told_by books) (range_with_len 1 n) ((1 + n) ∷ []))
    ∙ ap (λ z. map blank (told_upto books n ++ z)) (append-nil (told_by books (1 + n)))
    ∙ map-append blank (told_upto books n) (told_by books (1 + n))
    ∙ ap (λ k. map blank (told_upto books n) ++ map blank (told_by books k)) next

ends_more : (books : Books) (n : ℕ) → map (sent_upto books) (range_with_len 1 (n + 1)) ≡ map (sent_upto books) (range_with_len 1 n) ++ sent_upto books (n + 1) ∷ []
ends_more books n =
    let next : 1 + n ≡ n + 1 = omega arith in
    ap (map (sent_upto books)) (range-append 1 n 1)
    ∙ map-append (sent_upto books) (range_with_len 1 n) ((1 + n) ∷ [])
    ∙ ap (λ k. map (sent_upto books) (range_with_len 1 n) ++ sent_upto books k ∷ []) next

-- after so many numbers: what was noted of those
pub record Noting (v0 v : View) (n : ℕ) (notices : List Notice) (ends : List ℕ) : Type 0 where
  pub read : HasRead v0 v
  pub noted : (books : Books) → v.is_honest → v0.is_sure → AreTables books v0.content → (notices ≡ map blank (told_upto books n)) × (ends ≡ map (sent_upto books) (range_with_len 1 n))

module _ (v0 v : View) (n : ℕ) (notices : List Notice) (ends : List ℕ) (s : Noting v0 v n notices ends) where
  pub noting_goes_on : (v1 : View) (more : List Notice) (count : ℕ) (longer : List ℕ) → IsRead {X = Unit {0}} (Ok tt) v v1
      → ((books : Books) → v1.is_honest → v.is_sure → AreTables books v.content → more ≡ notices ++ map blank (told_by books (n + 1))) → count ≡ length more → longer ≡ ends ++ count ∷ [] → Noting v0 v1 (n + 1) more longer
  noting_goes_on v1 more count longer read noted counted added = record {
    read = read_on v0 v s.read tt v1 read;
    noted = λ books honest sure are.
        let honest_now = read.later.honest honest in
        let before = s.noted books honest_now sure are in
        let one = noted books honest (s.read.ok.sure honest_now sure) (kept_so v0 v s.read (AreTables books) honest_now sure are) in
        let all : more ≡ map blank (told_upto books (n + 1)) = one ∙ ap (λ z. z ++ map blank (told_by books (n + 1))) before.0 ∙ sym (told_more books n) in
        let many : count ≡ sent_upto books (n + 1) = counted ∙ ap (λ (z : List Notice). length z) all ∙ length-map (told_upto books (n + 1)) blank in
        (all, added ∙ ap (λ z. z ++ count ∷ []) before.1 ∙ ap (λ k. map (sent_upto books) (range_with_len 1 n) ++ k ∷ []) many ∙ sym (ends_more books n));
  }
