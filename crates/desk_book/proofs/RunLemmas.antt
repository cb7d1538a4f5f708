-- Requests one after another.
use Rattle.std.proofs.Common.{◌≡◌, ◌≢◌, ℕ, ◌+◌, ◌<◌, ◌≤◌, Bool, true, false, List, [], ◌∷◌, ◌++◌, length, map, take, get_or, refl, ap, sym, ◌∙◌, subst, arith, All}
use Rattle.std.proofs.lemmas.Bool.{false_from_ne_true}
use Rattle.std.proofs.lemmas.List.{map-append, take_all, take_more}
use Rattle.std.proofs.lemmas.List.Elements.{All-cons, All-nil}
use Rattle.std.specs.Prelude.{Result, Ok, Err, IfOk}
use Rattle.desk_rules.specs.declared.answers.reply.Reply.{Reply}
use Rattle.desk_rules.specs.Books.{Books}
use Rattle.desk_register.specs.View.{View, IfCounted, IsLater}
use Rattle.desk_book.specs.declared.fault.Fault.{Fault}
use Rattle.desk_book.specs.declared.fault.Fault.TheVariants.{Memory, Storage, Closed}
use Rattle.desk_book.specs.declared.requests.task.Task.{Task}
use Rattle.desk_book.specs.Answered.{AnsweredInTurn, AreBlamed, BlamesRequest, Counts, Step, says_closed}
use Rattle.desk_book.specs.Asked.{Asked, asked_by}
use Rattle.desk_book.specs.declared.requests.question.Request.{Request}
use Rattle.desk_book.specs.Headline.{KeepsPromise}
use Rattle.desk_book.specs.Held.{Holds, Steps}
use Rattle.desk_book.proofs.HeadlineLemmas.{promised}
use Rattle.desk_book.specs.Answering.{IsPerformed}
use Rattle.desk_book.specs.Task.{IsTask}

-- what was read as a task, and performed, is a step
pub step_of : {E : Type 0} (limit : ℕ) (books : Books) (asked : Asked) (task : Result Task E) (answer : Result Reply Fault) (closed : Bool) (view : View) → IfOk task (λ o. IsTask asked o)
    → IsPerformed limit books task answer closed view → Steps limit books asked answer closed view
step_of limit books asked (Ok o) (Ok reply) closed view is performed = record { next = performed.next; step = (o, is, performed.answer); holds = performed.holds; promise = promised closed view performed.next performed.holds }
step_of limit books asked (Ok o) (Err fault) closed view is performed = record { next = performed.next; step = performed.answer; holds = performed.holds; promise = promised closed view performed.next performed.holds }
step_of limit books asked (Err want) (Ok reply) closed view is performed = absurd performed.answer
step_of limit books asked (Err want) (Err fault) closed view is performed = record { next = performed.next; step = performed.answer; holds = performed.holds; promise = promised closed view performed.next performed.holds }

-- a run goes on by another
pub run_then : (limit : ℕ) (was : Bool) (books : Books) (front rest : List Asked) (answers more : List (Result Reply Fault)) (is next : Bool) (between last : Books) → AnsweredInTurn limit was books front answers is between
    → AnsweredInTurn limit is between rest more next last → AnsweredInTurn limit was books (front ++ rest) (answers ++ more) next last
run_then limit was books [] rest [] more is next between last first second =
    let P : Bool → Type 0 = λ b. AnsweredInTurn limit b books rest more next last in
    let Q : Books → Type 0 = λ b. AnsweredInTurn limit is b rest more next last in
    subst P first.0 (subst Q first.1 second)
run_then limit was books [] rest (a ∷ answers) more is next between last first second = absurd first
run_then limit was books (r ∷ front) rest [] more is next between last first second = absurd first
run_then limit was books (r ∷ front) rest (a ∷ answers) more is next between last first second =
    (first.0, (first.1.0, first.1.1, run_then limit (says_closed a) first.1.0 front rest answers more is next between last first.1.2 second))

-- a run goes on by one request
pub run_more : (limit : ℕ) (was : Bool) (books : Books) (requests : List Asked) (answers : List (Result Reply Fault)) (is : Bool) (last next : Books) (asked : Asked) (answer : Result Reply Fault)
    → AnsweredInTurn limit was books requests answers is last → (is ≡ true → says_closed answer ≡ true) → Step limit last asked answer next
    → AnsweredInTurn limit was books (requests ++ asked ∷ []) (answers ++ answer ∷ []) (says_closed answer) next
run_more limit was books requests answers is last next asked answer run stays step =
    run_then limit was books requests (asked ∷ []) answers (answer ∷ []) is (says_closed answer) last next run (stays, (next, step, (refl, refl)))

-- The loop over requests.

pub never_later : (v : View) → IsLater v v
never_later v = record { honest = λ h. h; sure = λ h s. s; room = refl; device_honest = λ h. h; failures = omega arith }

pub later_on : (v0 v1 v2 : View) → IsLater v0 v1 → IsLater v1 v2 → IsLater v0 v2
later_on v0 v1 v2 first second = record {
  honest = λ h. first.honest (second.honest h);
  sure = λ h s. first.sure (second.honest h) (second.sure h s);
  room = second.room ∙ first.room;
  device_honest = λ h. first.device_honest (second.device_honest h);
  failures = (let a = first.failures in let b = second.failures in omega arith);
}

next_asked : (requests : List Request) (i : ℕ) (request : Request) → i < length requests → request ≡ get_or requests i request → map asked_by (take (i + 1) requests) ≡ map asked_by (take i requests) ++ asked_by request ∷ []
next_asked requests i request lt is =
    ap (map asked_by) (take_more requests i request lt) ∙ map-append asked_by (take i requests) (get_or requests i request ∷ [])
    ∙ ap (λ r. map asked_by (take i requests) ++ asked_by r ∷ []) (sym is)

pub run_steps : (v0 v1 v2 : View) (was is next : Bool) (books : Books) (requests : List Request) (i : ℕ) (request : Request) (answers more : List (Result Reply Fault)) (answer : Result Reply Fault) → i < length requests
    → request ≡ get_or requests i request → more ≡ answers ++ answer ∷ [] → IsLater v0 v1 → IsLater v1 v2 → next ≡ says_closed answer → (is ≡ true → says_closed answer ≡ true)
    → (last : Books) × AnsweredInTurn v0.room was books (map asked_by (take i requests)) answers is last × Holds is v1 last
    → ((b : Books) → Holds is v1 b → Steps v1.room b (asked_by request) answer next v2)
    → (last : Books) × AnsweredInTurn v0.room was books (map asked_by (take (i + 1) requests)) more next last × Holds next v2 last
run_steps v0 v1 v2 was is next books requests i request answers more answer lt item grown first second closed stays so_far step =
    let s = step so_far.0 so_far.2 in
    let P : ℕ → Type 0 = λ k. Step k so_far.0 (asked_by request) answer s.next in
    let run = run_more v0.room was books (map asked_by (take i requests)) answers is so_far.0 s.next (asked_by request) answer so_far.1 stays (subst P first.room s.step) in
    let A : List Asked → Type 0 = λ xs. AnsweredInTurn v0.room was books xs (answers ++ answer ∷ []) (says_closed answer) s.next in
    let B : List (Result Reply Fault) → Type 0 = λ xs. AnsweredInTurn v0.room was books (map asked_by (take (i + 1) requests)) xs (says_closed answer) s.next in
    let C : Bool → Type 0 = λ b. AnsweredInTurn v0.room was books (map asked_by (take (i + 1) requests)) more b s.next in
    (s.next, subst C (sym closed) (subst B (sym grown) (subst A (sym (next_asked requests i request lt item)) run)), s.holds)

pub run_all : (v0 v1 : View) (was is : Bool) (books : Books) (requests : List Request) (i : ℕ) (answers : List (Result Reply Fault)) → length requests ≤ i
    → (last : Books) × AnsweredInTurn v0.room was books (map asked_by (take i requests)) answers is last × Holds is v1 last
    → (last : Books) × AnsweredInTurn v0.room was books (map asked_by requests) answers is last × Holds is v1 last × KeepsPromise is v1 last
run_all v0 v1 was is books requests i answers all so_far =
    let A : List Request → Type 0 = λ xs. AnsweredInTurn v0.room was books (map asked_by xs) answers is so_far.0 in
    (so_far.0, subst A (take_all i requests all) so_far.1, so_far.2, promised is v1 so_far.0 so_far.2)

-- Once closed, a desk stays so.

closed_for_good : (limit : ℕ) (books last : Books) (requests : List Asked) (answers : List (Result Reply Fault)) → AnsweredInTurn limit true books requests answers false last → ⊥
closed_for_good limit books last [] [] run = cc
closed_for_good limit books last [] (answer ∷ answers) run = run
closed_for_good limit books last (asked ∷ more) [] run = run
closed_for_good limit books last (asked ∷ more) (answer ∷ answers) run =
    let P : Bool → Type 0 = λ b. AnsweredInTurn limit b run.1.0 more answers false last in
    closed_for_good limit run.1.0 last more answers (subst P (run.0 refl) run.1.2)

pub open_all_along : (limit : ℕ) (was : Bool) (books last : Books) (requests : List Asked) (answers : List (Result Reply Fault)) → AnsweredInTurn limit was books requests answers false last
    → All (λ answer. says_closed answer ≡ false) answers
open_all_along limit was books last [] [] run = All-nil (λ answer. says_closed answer ≡ false)
open_all_along limit was books last [] (answer ∷ answers) run = absurd run
open_all_along limit was books last (asked ∷ more) [] run = absurd run
open_all_along limit was books last (asked ∷ more) (answer ∷ answers) run =
    let P : Bool → Type 0 = λ b. AnsweredInTurn limit b run.1.0 more answers false last in
    let never : says_closed answer ≡ true → ⊥ = λ closed. closed_for_good limit run.1.0 last more answers (subst P closed run.1.2) in
    All-cons (λ a. says_closed a ≡ false) answer answers (false_from_ne_true (says_closed answer) never) (open_all_along limit (says_closed answer) run.1.0 last more answers run.1.2)

-- Whose fault it was.

counts : (answer : Result Reply Fault) (v0 v1 : View) → IsLater v0 v1 → BlamesRequest answer v0 v1 → IfCounted v1 (Counts answer v0.device.failures v1.device.failures)
counts (Ok reply) v0 v1 later blame = λ honest device few. later.failures
counts (Err Memory) v0 v1 later blame = λ honest device few. later.failures
counts (Err Storage) v0 v1 later blame = blame.storage refl
counts (Err Closed) v0 v1 later blame = λ honest device few. later.failures

pub blamed_one : (answer : Result Reply Fault) (v0 v1 : View) → IsLater v0 v1 → BlamesRequest answer v0 v1 → IfCounted v1 (AreBlamed (answer ∷ []) v0.device.failures v1.device.failures)
blamed_one answer v0 v1 later blame honest device few = (v1.device.failures, counts answer v0 v1 later blame honest device few, refl)

both_blamed : (answers others : List (Result Reply Fault)) (before between after : ℕ) → AreBlamed answers before between → AreBlamed others between after → AreBlamed (answers ++ others) before after
both_blamed [] others before between after first second = (let P : ℕ → Type 0 = λ n. AreBlamed others n after in subst P first second)
both_blamed (answer ∷ answers) others before between after first second = (first.0, first.1, both_blamed answers others first.0 between after first.2 second)

pub blamed_then : (answers others : List (Result Reply Fault)) (v0 v1 v2 : View) → IsLater v1 v2 → IfCounted v1 (AreBlamed answers v0.device.failures v1.device.failures) → IfCounted v2 (AreBlamed others v1.device.failures v2.device.failures)
    → IfCounted v2 (AreBlamed (answers ++ others) v0.device.failures v2.device.failures)
blamed_then answers others v0 v1 v2 later before now honest device few =
    let le = later.failures in
    both_blamed answers others v0.device.failures v1.device.failures v2.device.failures (before (later.honest honest) (later.device_honest device) (omega arith)) (now honest device few)

pub blamed : (v0 v1 v2 : View) (answers : List (Result Reply Fault)) (answer : Result Reply Fault) → IsLater v1 v2 → IfCounted v1 (AreBlamed answers v0.device.failures v1.device.failures) → BlamesRequest answer v1 v2
    → IfCounted v2 (AreBlamed (answers ++ answer ∷ []) v0.device.failures v2.device.failures)
blamed v0 v1 v2 answers answer later before now = blamed_then answers (answer ∷ []) v0 v1 v2 later before (blamed_one answer v1 v2 later now)

-- The count never shrinks, and where it stays no answer tells that the device failed.

counts_up : (answer : Result Reply Fault) (before after : ℕ) → Counts answer before after → before ≤ after
counts_up (Ok reply) before after counted = counted
counts_up (Err Memory) before after counted = counted
counts_up (Err Storage) before after counted = omega arith
counts_up (Err Closed) before after counted = counted

all_count_up : (answers : List (Result Reply Fault)) (before after : ℕ) → AreBlamed answers before after → before ≤ after
all_count_up [] before after blamed = omega arith
all_count_up (answer ∷ answers) before after blamed =
    let first = counts_up answer before blamed.0 blamed.1 in
    let rest = all_count_up answers blamed.0 after blamed.2 in
    omega arith

no_failure : (answer : Result Reply Fault) (before after : ℕ) → Counts answer before after → after ≤ before → answer ≢ Err Storage
no_failure (Ok reply) before after counted stays = λ e. cc
no_failure (Err Memory) before after counted stays = λ e. cc
no_failure (Err Storage) before after counted stays = λ e. omega arith
no_failure (Err Closed) before after counted stays = λ e. cc

pub none_failed : (answers : List (Result Reply Fault)) (before after : ℕ) → AreBlamed answers before after → after ≤ before → All (λ answer. answer ≢ Err Storage) answers
none_failed [] before after blamed stays = All-nil (λ answer. answer ≢ Err Storage)
none_failed (answer ∷ answers) before after blamed stays =
    let first = counts_up answer before blamed.0 blamed.1 in
    let rest = all_count_up answers blamed.0 after blamed.2 in
    All-cons (λ answer. answer ≢ Err Storage) answer answers (no_failure answer before blamed.0 blamed.1 (omega arith)) (none_failed answers blamed.0 after blamed.2 (omega arith))
