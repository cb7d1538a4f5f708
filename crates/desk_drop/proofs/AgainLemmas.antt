-- Requests that are asked twice.
use Rattle.std.proofs.Common.{◌≡◌, ℕ, suc, Bool, List, [], ◌∷◌, ◌++◌, length, take, sym, ◌∙◌, ap, subst, append-nil, append_assoc, arith}
use Rattle.std.proofs.Math.Seq.{take-append_seam}
use Rattle.std.proofs.lemmas.List.{length-append}
use Rattle.std.specs.Prelude.{Result, Ok, Err, Some}
use Rattle.desk_rules.proofs.AcceptedOnce.{accepted_once, get_behind}
use Rattle.desk_rules.proofs.OneVerdict.{one_verdict}
use Rattle.desk_rules.specs.declared.answers.reply.Reply.{Reply}
use Rattle.desk_rules.specs.declared.answers.verdict.Verdict.{Verdict}
use Rattle.desk_rules.specs.declared.answers.verdict.Verdict.TheVariants.{Accept, Repeat, Refuse}
use Rattle.desk_rules.specs.declared.history.entry.Entry.{Entry}
use Rattle.desk_rules.specs.Books.{Books}
use Rattle.desk_rules.specs.History.{entry_at}
use Rattle.desk_rules.specs.Reply.{AreNext, IsReply, reply_to}
use Rattle.desk_rules.specs.Verdict.{IsVerdict}
use Rattle.desk_book.proofs.OneTask.{one_task}
use Rattle.desk_book.specs.declared.fault.Fault.{Fault}
use Rattle.desk_book.specs.declared.requests.task.Task.{Task}
use Rattle.desk_book.specs.declared.requests.task.Task.TheVariants.{Answer, Decide, Holdings, Sent, Status, Totals}
use Rattle.desk_book.specs.Answered.{AnsweredInTurn, Grows, IsAnswer, IsDecided, Step, says_closed}
use Rattle.desk_book.specs.Asked.{Asked}
use Rattle.desk_book.specs.Task.{IsTask}
use Rattle.desk_drop.specs.Again.{AnsweredAgain, anew, ended, failed, repeated}

-- A history only grows.

pub record Grown (books after : Books) : Type 0 where
  pub more : List Entry
  pub history : after.history ≡ books.history ++ more

same_books : (books after : Books) → after ≡ books → Grown books after
same_books books after same = record { more = []; history = ap (λ b. b.history) same ∙ sym (append-nil books.history) }

grown_by : (books after : Books) (entry : Entry) (verdict : Verdict) → Grows verdict books entry after → Grown books after
grown_by books after entry Accept grows = record { more = entry ∷ []; history = grows.history }
grown_by books after entry (Repeat n) grows = same_books books after grows
grown_by books after entry (Refuse refusal) grows = same_books books after grows

answer_grows : (limit : ℕ) (books after : Books) (task : Task) (reply : Reply) → IsAnswer limit books task reply after → Grown books after
answer_grows limit books after (Decide entry) reply answer = grown_by books after entry answer.verdict answer.grows
answer_grows limit books after (Status bic reference) reply answer = same_books books after answer.1
answer_grows limit books after (Sent bic number) reply answer = same_books books after answer.1
answer_grows limit books after (Holdings owner account) reply answer = same_books books after answer.1
answer_grows limit books after Totals reply answer = same_books books after answer.stays
answer_grows limit books after (Answer given) reply answer = same_books books after answer.1

step_grows : (limit : ℕ) (books after : Books) (asked : Asked) (answer : Result Reply Fault) → Step limit books asked answer after → Grown books after
step_grows limit books after asked (Ok reply) step = answer_grows limit books after step.0 reply step.2
step_grows limit books after asked (Err fault) step = same_books books after step

grown_then : (a b c : Books) → Grown a b → Grown b c → Grown a c
grown_then a b c first second = record {
  more = first.more ++ second.more;
  history = second.history ∙ ap (λ h. h ++ second.more) first.history ∙ append_assoc a.history first.more second.more;
}

run_grows : (limit : ℕ) (was is : Bool) (books last : Books) (requests : List Asked) (answers : List (Result Reply Fault)) → AnsweredInTurn limit was books requests answers is last → Grown books last
run_grows limit was is books last [] [] run = same_books books last run.1
run_grows limit was is books last [] (answer ∷ answers) run = absurd run
run_grows limit was is books last (asked ∷ more) [] run = absurd run
run_grows limit was is books last (asked ∷ more) (answer ∷ answers) run =
    grown_then books run.1.0 last (step_grows limit books run.1.0 asked answer run.1.1) (run_grows limit (says_closed answer) is run.1.0 last more answers run.1.2)

-- What was accepted gets its reply again.

record SameAgain (now then : Books) (first second : Reply) : Type 0 where
  same : second ≡ first
  stays : then ≡ now

by_verdict : (limit : ℕ) (books mid now then : Books) (entry : Entry) (more : List Entry) (first second : Reply) (verdict : Verdict) → AreNext books entry mid → first ≡ reply_to mid entry
    → now.history ≡ mid.history ++ more → verdict ≡ Repeat (suc (length books.history)) → Grows verdict now entry then → IsReply now entry verdict then second → SameAgain now then first second
by_verdict limit books mid now then entry more first second verdict next replied grown is grows told =
    let n = suc (length books.history) in
    let G : Verdict → Type 0 = λ v. Grows v now entry then in
    let R : Verdict → Type 0 = λ v. IsReply now entry v then second in
    let again : IsReply now entry (Repeat n) then second = subst R is told in
    let len : n ≡ length mid.history = sym (ap length next.history ∙ length-append books.history (entry ∷ []) ∙ omega arith) in
    let front : mid.history ≡ take n now.history = sym (ap (take n) grown ∙ ap (λ k. take k (mid.history ++ more)) len ∙ take-append_seam mid.history more) in
    let parts : now.history ≡ books.history ++ entry ∷ more = grown ∙ ap (λ h. h ++ more) next.history ∙ append_assoc books.history (entry ∷ []) more in
    let there : entry_at now.history n ≡ Some entry = ap (λ h. entry_at h n) parts ∙ get_behind books.history entry more in
    record { same = again.1.is mid entry front next.are there ∙ sym replied; stays = subst G is grows }

by_task : (limit : ℕ) (books mid now then : Books) (asked : Asked) (entry : Entry) (first second : Reply) (task : Task) → IsTask asked (Decide entry) → IsVerdict limit books entry Accept → AreNext books entry mid
    → first ≡ reply_to mid entry → Grown mid now → Decide entry ≡ task → IsAnswer limit now task second then → SameAgain now then first second
by_task limit books mid now then asked entry first second task reads accepted next replied grown same answer =
    let P : Task → Type 0 = λ t. IsAnswer limit now t second then in
    let decided : IsDecided limit now entry second then = subst P (sym same) answer in
    let parts : now.history ≡ books.history ++ entry ∷ grown.more = grown.history ∙ ap (λ h. h ++ grown.more) next.history ∙ append_assoc books.history (entry ∷ []) grown.more in
    let known = accepted_once limit books now entry grown.more accepted parts in
    by_verdict limit books mid now then entry grown.more first second decided.verdict next replied grown.history
    (one_verdict limit now entry decided.verdict (Repeat (suc (length books.history))) decided.is_verdict known) decided.grows decided.replied

-- One request, asked twice.

abbrev Rest : ℕ → Books → Books → List Asked → List (Result Reply Fault) → List (Result Reply Fault) → Books → Type 0
Rest limit books now more firsts seconds last = AnsweredAgain limit books now more firsts seconds last

unchanged : (limit : ℕ) (books mid now then last : Books) (asked : Asked) (first : Result Reply Fault) (second : Reply) (more : List Asked) (firsts seconds : List (Result Reply Fault)) → mid ≡ books
    → Step limit books asked first mid → Step limit now asked (Ok second) then → Rest limit mid then more firsts seconds last → AnsweredAgain limit books now (asked ∷ more) (first ∷ firsts) (Ok second ∷ seconds) last
unchanged limit books mid now then last asked first second more firsts seconds same step again rest =
    let S : Books → Type 0 = λ b. Step limit books asked first b in
    let R : Books → Type 0 = λ b. Rest limit b then more firsts seconds last in
    anew (subst S same step) again (subst R same rest)

accepted : (limit : ℕ) (books mid now then last : Books) (asked : Asked) (entry : Entry) (first second : Reply) (more : List Asked) (firsts seconds : List (Result Reply Fault)) → IsTask asked (Decide entry)
    → IsVerdict limit books entry Accept → Step limit books asked (Ok first) mid → SameAgain now then first second → Rest limit mid then more firsts seconds last
    → AnsweredAgain limit books now (asked ∷ more) (Ok first ∷ firsts) (Ok second ∷ seconds) last
accepted limit books mid now then last asked entry first second more firsts seconds reads is step again rest =
    let R : Books → Type 0 = λ b. Rest limit mid b more firsts seconds last in
    let A : Reply → Type 0 = λ r. AnsweredAgain limit books now (asked ∷ more) (Ok first ∷ firsts) (Ok r ∷ seconds) last in
    subst A (sym again.same) (repeated (record { entry = entry; reads = reads; accepts = is }) step (subst R again.stays rest))

decided_twice : (limit : ℕ) (books mid now then last : Books) (asked : Asked) (entry : Entry) (first second : Reply) (more : List Asked) (firsts seconds : List (Result Reply Fault)) (verdict : Verdict)
    → IsTask asked (Decide entry) → IsVerdict limit books entry verdict → Grows verdict books entry mid → IsReply books entry verdict mid first → Step limit books asked (Ok first) mid → Grown mid now
    → Step limit now asked (Ok second) then → Rest limit mid then more firsts seconds last → AnsweredAgain limit books now (asked ∷ more) (Ok first ∷ firsts) (Ok second ∷ seconds) last
decided_twice limit books mid now then last asked entry first second more firsts seconds Accept reads is grows replied step grown again rest =
    let same = by_task limit books mid now then asked entry first second again.0 reads is grows replied.1 grown (one_task asked (Decide entry) again.0 reads again.1) again.2 in
    accepted limit books mid now then last asked entry first second more firsts seconds reads is step same rest
decided_twice limit books mid now then last asked entry first second more firsts seconds (Repeat n) reads is grows replied step grown again rest =
    unchanged limit books mid now then last asked (Ok first) second more firsts seconds grows step again rest
decided_twice limit books mid now then last asked entry first second more firsts seconds (Refuse refusal) reads is grows replied step grown again rest =
    unchanged limit books mid now then last asked (Ok first) second more firsts seconds grows step again rest

answered_twice : (limit : ℕ) (books mid now then last : Books) (asked : Asked) (first second : Reply) (more : List Asked) (firsts seconds : List (Result Reply Fault)) (task : Task)
    → IsTask asked task → IsAnswer limit books task first mid → Grown mid now → Step limit now asked (Ok second) then → Rest limit mid then more firsts seconds last
    → AnsweredAgain limit books now (asked ∷ more) (Ok first ∷ firsts) (Ok second ∷ seconds) last
answered_twice limit books mid now then last asked first second more firsts seconds (Decide entry) is answer grown again rest =
    decided_twice limit books mid now then last asked entry first second more firsts seconds answer.verdict is answer.is_verdict answer.grows answer.replied (Decide entry, is, answer) grown again rest
answered_twice limit books mid now then last asked first second more firsts seconds (Status bic reference) is answer grown again rest =
    unchanged limit books mid now then last asked (Ok first) second more firsts seconds answer.1 (Status bic reference, is, answer) again rest
answered_twice limit books mid now then last asked first second more firsts seconds (Sent bic number) is answer grown again rest =
    unchanged limit books mid now then last asked (Ok first) second more firsts seconds answer.1 (Sent bic number, is, answer) again rest
answered_twice limit books mid now then last asked first second more firsts seconds (Holdings owner account) is answer grown again rest =
    unchanged limit books mid now then last asked (Ok first) second more firsts seconds answer.1 (Holdings owner account, is, answer) again rest
answered_twice limit books mid now then last asked first second more firsts seconds Totals is answer grown again rest =
    unchanged limit books mid now then last asked (Ok first) second more firsts seconds answer.stays (Totals, is, answer) again rest
answered_twice limit books mid now then last asked first second more firsts seconds (Answer given) is answer grown again rest =
    unchanged limit books mid now then last asked (Ok first) second more firsts seconds answer.1 (Answer given, is, answer) again rest

-- All of them.

pub twice : (limit : ℕ) (was is again still : Bool) (books next now last : Books) (requests : List Asked) (firsts seconds : List (Result Reply Fault)) → AnsweredInTurn limit was books requests firsts is next → Grown next now
    → AnsweredInTurn limit again now requests seconds still last → AnsweredAgain limit books now requests firsts seconds last
twice limit was is again still books next now last [] [] [] first grown second =
    let P : Books → Type 0 = λ b. AnsweredAgain limit books b [] [] [] last in
    subst P second.1 ended
twice limit was is again still books next now last [] (a ∷ firsts) seconds first grown second = absurd first
twice limit was is again still books next now last [] [] (b ∷ seconds) first grown second = absurd second
twice limit was is again still books next now last (asked ∷ more) [] seconds first grown second = absurd first
twice limit was is again still books next now last (asked ∷ more) (a ∷ firsts) [] first grown second = absurd second
twice limit was is again still books next now last (asked ∷ more) (a ∷ firsts) (Err fault ∷ seconds) first grown second =
    let R : Books → Type 0 = λ b. AnsweredInTurn limit (says_closed (Err fault)) b more seconds still last in
    failed first.1.1 (twice limit (says_closed a) is (says_closed (Err fault)) still first.1.0 next now last more firsts seconds first.1.2 grown (subst R second.1.1 second.1.2))
twice limit was is again still books next now last (asked ∷ more) (Err fault ∷ firsts) (Ok reply ∷ seconds) first grown second =
    let then = second.1.0 in
    let on = grown_then next now then grown (step_grows limit now then asked (Ok reply) second.1.1) in
    unchanged limit books first.1.0 now then last asked (Err fault) reply more firsts seconds first.1.1 first.1.1 second.1.1
    (twice limit (says_closed (Err fault)) is (says_closed (Ok reply)) still first.1.0 next then last more firsts seconds first.1.2 on second.1.2)
twice limit was is again still books next now last (asked ∷ more) (Ok first_reply ∷ firsts) (Ok reply ∷ seconds) first grown second =
    let mid = first.1.0 in
    let then = second.1.0 in
    let step = first.1.1 in
    let on = grown_then next now then grown (step_grows limit now then asked (Ok reply) second.1.1) in
    let before = grown_then mid next now (run_grows limit (says_closed (Ok first_reply)) is mid next more firsts first.1.2) grown in
    answered_twice limit books mid now then last asked first_reply reply more firsts seconds step.0 step.1 step.2 before second.1.1
    (twice limit (says_closed (Ok first_reply)) is (says_closed (Ok reply)) still mid next then last more firsts seconds first.1.2 on second.1.2)

-- Whatever was asked since.
pub taken_twice : (limit : ℕ) (was is between_was between_is again still : Bool) (books next now last : Books) (requests since : List Asked) (firsts others seconds : List (Result Reply Fault))
    → AnsweredInTurn limit was books requests firsts is next → AnsweredInTurn limit between_was next since others between_is now → AnsweredInTurn limit again now requests seconds still last
    → AnsweredAgain limit books now requests firsts seconds last
taken_twice limit was is between_was between_is again still books next now last requests since firsts others seconds first between second =
    twice limit was is again still books next now last requests firsts seconds first (run_grows limit between_was between_is next now since others between) second
