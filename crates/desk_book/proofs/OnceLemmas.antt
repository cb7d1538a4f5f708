-- Repeats act once.
use Rattle.std.proofs.Common.{◌≡◌, ◌≢◌, ℕ, suc, Bool, true, false, List, [], ◌∷◌, ◌++◌, length, refl, sym, ◌∙◌, ap, subst, append-nil, append_assoc}
use Rattle.std.specs.Prelude.{Result, Ok, Err}
use Rattle.desk_rules.proofs.AcceptedOnce.{accepted_once}
use Rattle.desk_rules.proofs.OneVerdict.{one_verdict}
use Rattle.desk_rules.specs.declared.history.entry.Entry.{Entry}
use Rattle.desk_rules.specs.declared.answers.reply.Reply.{Reply}
use Rattle.desk_rules.specs.declared.answers.verdict.Verdict.{Verdict}
use Rattle.desk_rules.specs.declared.answers.verdict.Verdict.TheVariants.{Accept, Repeat, Refuse}
use Rattle.desk_rules.specs.Reply.{AreNext, IsReply}
use Rattle.desk_rules.specs.Books.{Books}
use Rattle.desk_rules.specs.Verdict.{IsVerdict}
use Rattle.desk_book.specs.declared.fault.Fault.{Fault}
use Rattle.desk_book.specs.declared.requests.task.Task.{Task}
use Rattle.desk_book.specs.declared.requests.task.Task.TheVariants.{Answer, Decide, Holdings, Sent, Status, Totals}
use Rattle.desk_book.specs.Answered.{ActsOnce, Grows, IsAnswer, IsRepeat, AnsweredInTurn, Step, WithoutRepeats, answered, ended, failed, repeated, says_closed}
use Rattle.desk_book.specs.Asked.{Asked}
use Rattle.desk_book.specs.Task.{IsTask}
use Rattle.desk_book.proofs.OneTask.{one_task}

-- what is not decided on is no repeat, and neither is what has another verdict

other_task : (limit : ℕ) (books : Books) (asked : Asked) (task : Task) → IsTask asked task → ((entry : Entry) → task ≢ Decide entry) → ¬ IsRepeat limit books asked
other_task limit books asked task is never r = never r.entry (one_task asked task (Decide r.entry) is r.reads)

other_verdict : (limit : ℕ) (books : Books) (asked : Asked) (entry : Entry) (verdict : Verdict) → IsTask asked (Decide entry) → IsVerdict limit books entry verdict
    → ((number : ℕ) → verdict ≢ Repeat number) → ¬ IsRepeat limit books asked
other_verdict limit books asked entry verdict is decided never r =
    let same = one_task asked (Decide entry) (Decide r.entry) is r.reads in
    let e : r.entry ≡ entry = cc in
    let P : Entry → Type 0 = λ x. IsVerdict limit books x (Repeat r.number) in
    never r.number (one_verdict limit books entry verdict (Repeat r.number) decided (subst P e r.repeats))

-- a request that is no repeat stays
stay : (limit : ℕ) (books next last : Books) (asked : Asked) (more : List Asked) (reply : Reply) (answers : List (Result Reply Fault)) → ¬ IsRepeat limit books asked
    → Step limit books asked (Ok reply) next → ActsOnce limit next more answers last → ActsOnce limit books (asked ∷ more) (Ok reply ∷ answers) last
stay limit books next last asked more reply answers fresh step rest =
    let never : false ≡ true → false ≡ true = λ e. e in
    record {
      kept = asked ∷ rest.kept;
      others = Ok reply ∷ rest.others;
      without = answered fresh step rest.without;
      in_turn = (never, (next, step, rest.in_turn));
    }

one_decided : (limit : ℕ) (books next last : Books) (asked : Asked) (more : List Asked) (entry : Entry) (reply : Reply) (answers : List (Result Reply Fault)) (verdict : Verdict)
    → IsTask asked (Decide entry) → IsVerdict limit books entry verdict → Grows verdict books entry next → IsReply books entry verdict next reply
    → Step limit books asked (Ok reply) next → ActsOnce limit next more answers last → ActsOnce limit books (asked ∷ more) (Ok reply ∷ answers) last
one_decided limit books next last asked more entry reply answers Accept is decided grows replied step rest =
    let never : (number : ℕ) → Accept ≢ Repeat number = λ number e. cc in
    stay limit books next last asked more reply answers (other_verdict limit books asked entry Accept is decided never) step rest
one_decided limit books next last asked more entry reply answers (Refuse refusal) is decided grows replied step rest =
    let never : (number : ℕ) → Refuse refusal ≢ Repeat number = λ number e. cc in
    stay limit books next last asked more reply answers (other_verdict limit books asked entry (Refuse refusal) is decided never) step rest
one_decided limit books next last asked more entry reply answers (Repeat n) is decided grows replied step rest =
    let again : IsRepeat limit books asked = record { entry = entry; number = n; reads = is; repeats = decided } in
    let P : Books → Type 0 = λ b. WithoutRepeats limit b more answers rest.kept rest.others last in
    let Q : Books → Type 0 = λ b. AnsweredInTurn limit false b rest.kept rest.others false last in
    record {
      kept = rest.kept;
      others = rest.others;
      without = repeated again replied.1 (subst P grows rest.without);
      in_turn = subst Q grows rest.in_turn;
    }

one_step : (limit : ℕ) (books next last : Books) (asked : Asked) (more : List Asked) (reply : Reply) (answers : List (Result Reply Fault)) (task : Task)
    → IsTask asked task → IsAnswer limit books task reply next → ActsOnce limit next more answers last → ActsOnce limit books (asked ∷ more) (Ok reply ∷ answers) last
one_step limit books next last asked more reply answers (Decide entry) is answer rest =
    one_decided limit books next last asked more entry reply answers answer.verdict is answer.is_verdict answer.grows answer.replied (Decide entry, is, answer) rest
one_step limit books next last asked more reply answers (Status bic reference) is answer rest =
    let never : (entry : Entry) → Status bic reference ≢ Decide entry = λ entry e. cc in
    stay limit books next last asked more reply answers (other_task limit books asked (Status bic reference) is never) (Status bic reference, is, answer) rest
one_step limit books next last asked more reply answers (Sent bic number) is answer rest =
    let never : (entry : Entry) → Sent bic number ≢ Decide entry = λ entry e. cc in
    stay limit books next last asked more reply answers (other_task limit books asked (Sent bic number) is never) (Sent bic number, is, answer) rest
one_step limit books next last asked more reply answers (Holdings owner account) is answer rest =
    let never : (entry : Entry) → Holdings owner account ≢ Decide entry = λ entry e. cc in
    stay limit books next last asked more reply answers (other_task limit books asked (Holdings owner account) is never) (Holdings owner account, is, answer) rest
one_step limit books next last asked more reply answers Totals is answer rest =
    let never : (entry : Entry) → Totals ≢ Decide entry = λ entry e. cc in
    stay limit books next last asked more reply answers (other_task limit books asked Totals is never) (Totals, is, answer) rest
one_step limit books next last asked more reply answers (Answer given) is answer rest =
    let never : (entry : Entry) → Answer given ≢ Decide entry = λ entry e. cc in
    stay limit books next last asked more reply answers (other_task limit books asked (Answer given) is never) (Answer given, is, answer) rest

pub act_once : (limit : ℕ) (was : Bool) (books last : Books) (requests : List Asked) (answers : List (Result Reply Fault)) (is : Bool)
    → AnsweredInTurn limit was books requests answers is last → ActsOnce limit books requests answers last
act_once limit was books last [] [] is run =
    let P : Books → Type 0 = λ b. ActsOnce limit b [] [] last in
    subst P run.1 (record { kept = []; others = []; without = ended; in_turn = (refl, refl) })
act_once limit was books last [] (answer ∷ answers) is run = absurd run
act_once limit was books last (asked ∷ more) [] is run = absurd run
act_once limit was books last (asked ∷ more) (Ok reply ∷ answers) is run =
    let rest = act_once limit false run.1.0 last more answers is run.1.2 in
    one_step limit books run.1.0 last asked more reply answers run.1.1.0 run.1.1.1 run.1.1.2 rest
act_once limit was books last (asked ∷ more) (Err fault ∷ answers) is run =
    let P : Books → Type 0 = λ b. AnsweredInTurn limit (says_closed (Err fault)) b more answers is last in
    let rest = act_once limit (says_closed (Err fault)) books last more answers is (subst P run.1.1 run.1.2) in
    record { kept = rest.kept; others = rest.others; without = failed rest.without; in_turn = rest.in_turn }

-- A history only grows.

pub record Grown (books after : Books) : Type 0 where
  pub more : List Entry
  pub history : after.history ≡ books.history ++ more

same_books : (books after : Books) → after ≡ books → Grown books after
same_books books after same = record { more = []; history = ap (λ b. b.history) same ∙ sym (append-nil books.history) }

grown_by : (books after : Books) (entry : Entry) (verdict : Verdict) → Grows verdict books entry after → Grown books after
grown_by books after entry Accept grows = record { more = entry ∷ []; history = grows.history }
grown_by books after entry (Repeat n) grows = same_books books after grows
grown_by books after entry (Refuse refusal) grows = same_books books after grows

answer_grows : (limit : ℕ) (books after : Books) (task : Task) (reply : Reply) → IsAnswer limit books task reply after → Grown books after
answer_grows limit books after (Decide entry) reply answer = grown_by books after entry answer.verdict answer.grows
answer_grows limit books after (Status bic reference) reply answer = same_books books after answer.1
answer_grows limit books after (Sent bic number) reply answer = same_books books after answer.1
answer_grows limit books after (Holdings owner account) reply answer = same_books books after answer.1
answer_grows limit books after Totals reply answer = same_books books after answer.stays
answer_grows limit books after (Answer given) reply answer = same_books books after answer.1

step_grows : (limit : ℕ) (books after : Books) (asked : Asked) (answer : Result Reply Fault) → Step limit books asked answer after → Grown books after
step_grows limit books after asked (Ok reply) step = answer_grows limit books after step.0 reply step.2
step_grows limit books after asked (Err fault) step = same_books books after step

grown_then : (a b c : Books) → Grown a b → Grown b c → Grown a c
grown_then a b c first second = record {
  more = first.more ++ second.more;
  history = second.history ∙ ap (λ h. h ++ second.more) first.history ∙ append_assoc a.history first.more second.more;
}

run_grows : (limit : ℕ) (was is : Bool) (books last : Books) (requests : List Asked) (answers : List (Result Reply Fault)) → AnsweredInTurn limit was books requests answers is last → Grown books last
run_grows limit was is books last [] [] run = same_books books last run.1
run_grows limit was is books last [] (answer ∷ answers) run = absurd run
run_grows limit was is books last (asked ∷ more) [] run = absurd run
run_grows limit was is books last (asked ∷ more) (answer ∷ answers) run =
    grown_then books run.1.0 last (step_grows limit books run.1.0 asked answer run.1.1) (run_grows limit (says_closed answer) is run.1.0 last more answers run.1.2)

-- what was accepted is a repeat when it is asked again
pub accepted_again : (limit : ℕ) (was is : Bool) (books next last : Books) (asked : Asked) (entry : Entry) (requests : List Asked) (answers : List (Result Reply Fault)) → IsTask asked (Decide entry)
    → IsVerdict limit books entry Accept → AreNext books entry next → AnsweredInTurn limit was next requests answers is last → IsRepeat limit last asked
accepted_again limit was is books next last asked entry requests answers reads accepted next_is run =
    let g = run_grows limit was is next last requests answers run in
    let grown : last.history ≡ books.history ++ entry ∷ g.more = g.history ∙ ap (λ h. h ++ g.more) next_is.history ∙ append_assoc books.history (entry ∷ []) g.more in
    record { entry = entry; number = suc (length books.history); reads = reads; repeats = accepted_once limit books last entry g.more accepted grown }
