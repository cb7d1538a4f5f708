-- Answers that are written straight to a writer: what was read by then, what was written, and what is left of the register.
use Rattle.std.proofs.Common.{◌≡◌, ◌∙◌, true≢false, ℕ, Bool, true, false, List, [], Option, Some, None, refl, sym, subst}
use Rattle.std.specs.Prelude.{Result, Ok, Err, IfSome, IsSome, OnOk}
use Rattle.std.specs.Result.{IsErrAnd}
use Rattle.desk_rules.specs.declared.answers.reply.Reply.{Reply}
use Rattle.desk_rules.specs.Books.{Books}
use Rattle.desk_rules.specs.Content.{Content}
use Rattle.desk_register.specs.declared.register.Fault.{Fault}
use Rattle.desk_register.specs.declared.register.Fault.TheVariants as faults
use Rattle.desk_register.specs.View.{HasRead, IfTrusted, IsLater, View, IsRead}
use Rattle.desk_engine.specs.Applied.{Keeps}
use Rattle.desk_register.specs.declared.fault.WalkFault.{WalkFault}
use Rattle.desk_register.specs.declared.fault.WalkFault.TheVariants as walks
use Rattle.desk_msg.specs.declared.writing.statement_row.SinkFault.TheVariants as sinks
use Rattle.desk_register.specs.Ends.{at_register, broken_off}
use Rattle.desk_register.proofs.ReadLemmas.{held_so}
use Rattle.desk_register.proofs.ReadingLemmas.{broke_off, read_on, read_so}
use Rattle.desk_codes.specs.Account.{IsAccount}
use Rattle.desk_book.specs.Answered.{Step}
use Rattle.desk_book.specs.declared.requests.question.Question.TheVariants as questions
use Rattle.desk_book.specs.Asked.{asked_with}
use Rattle.desk_book.specs.Held.{Holds}
use Rattle.desk_engine.specs.Ready.{KeepsFormed}
use Rattle.desk_book.specs.RowByRow.{EndsWriting, IsReported, told_of_walk}
use Rattle.desk_book.specs.Task.{IsHoldingsTask}
use Rattle.desk_book.specs.WrittenTo.{Writes, WritesAsked, leaves_closed}
use Rattle.desk_book.specs.declared.fault.ToFault.{ToFault}
use Rattle.desk_book.specs.declared.fault.ToFault.TheVariants.{WriteFailed, Memory, Storage, Closed, Lost}
use Rattle.desk_book.specs.declared.answers.head.Head.{Head}
use Rattle.desk_book.specs.declared.requests.task.Task.TheVariants.{Holdings, Totals}
use Rattle.desk_book.specs.declared.answers.telling.Report.TheVariants as reports
use Rattle.desk_book.proofs.AnsweringLemmas.{keeps_at}
use Rattle.desk_book.proofs.RowLemmas.{appends_nothing}

-- Reading calls that went well, and then a walk.
pub walk_then : {X : Type 0} (r : Result X WalkFault) (v0 v1 v2 : View) → HasRead v0 v1 → IsRead (at_register r) v1 v2 → IsRead (at_register r) v0 v2
walk_then (Ok x) v0 v1 v2 h read = read_so v0 v2 (read_on v0 v1 h tt v2 read) tt
walk_then (Err (walks.Sink fault)) v0 v1 v2 h read = read_so v0 v2 (read_on v0 v1 h tt v2 read) tt
walk_then (Err walks.Memory) v0 v1 v2 h read = broke_off v0 v1 h faults.Memory v2 read
walk_then (Err walks.Storage) v0 v1 v2 h read = broke_off v0 v1 h faults.Storage v2 read

-- a walk that broke off, handed on
pub walk_broke : (fault : WalkFault) (r : Result (Unit {0}) WalkFault) (v0 v1 v2 : View) → IsErrAnd r (λ broken. broken ≡ fault) → HasRead v0 v1 → IsRead (at_register {X = Unit {0}} (Err fault)) v1 v2
    → IsRead (at_register r) v0 v2
walk_broke fault (Ok x) v0 v1 v2 is h read = absurd is
walk_broke fault (Err broken) v0 v1 v2 is h read = subst (λ z. IsRead (at_register {X = Unit {0}} (Err z)) v0 v2) (sym is) (walk_then {X = Unit {0}} (Err fault) v0 v1 v2 h read)

-- what is known of a walk by what is kept then is known by what was kept before
pub known_before : (v0 v1 v2 : View) (books : Books) (P : Type 0) → HasRead v0 v1 → IsLater v1 v2 → IfTrusted v1 v2 (Keeps v1.room books v1.content → P) → IfTrusted v0 v2 (Keeps v0.room books v0.content → P)
known_before v0 v1 v2 books P h later known honest sure keeps =
    let honest1 = later.honest honest in
    known honest (h.ok.sure honest1 sure) (keeps_at v0 v1 books (h.same honest1 sure) h.later.room keeps)

-- and of the content that was read
pub known_of : (v0 v1 v2 : View) (books : Books) (P : Content → Type 0) → HasRead v0 v1 → IsLater v1 v2 → IfTrusted v1 v2 (Keeps v1.room books v1.content → P v1.content)
    → IfTrusted v0 v2 (Keeps v0.room books v0.content → P v0.content)
known_of v0 v1 v2 books P h later known honest sure keeps =
    held_so v0 v1 h P (later.honest honest) sure (known_before v0 v1 v2 books (P v1.content) h later known honest sure keeps)

-- What was written of an answer is that of whatever it is an answer to.
pub writes_as : (P Q : Reply → Type 0) (r : Result Head ToFault) (before after : Option (List ℕ)) → ((reply : Reply) → P reply → Q reply) → Writes P r before after → Writes Q r before after
writes_as P Q (Ok head) before after to w = record { text = w.text; written = w.written; is_answer = to _ w.is_answer }
writes_as P Q (Err WriteFailed) before after to w = tt
writes_as P Q (Err Closed) before after to w = w
writes_as P Q (Err Memory) before after to w = record { text = w.text; written = w.written; front = λ some. (let f = w.front some in (f.0, f.1, to _ f.2)) }
writes_as P Q (Err Storage) before after to w = record { text = w.text; written = w.written; front = λ some. (let f = w.front some in (f.0, f.1, to _ f.2)) }
writes_as P Q (Err Lost) before after to w = record { text = w.text; written = w.written; front = λ some. (let f = w.front some in (f.0, f.1, to _ f.2)) }

-- A register is lost by its own faults alone, after which a front of an answer was written.
pub lost_front : (P : Reply → Type 0) (r : Result Head WalkFault) (is_lost : Bool) (before after : Option (List ℕ)) → is_lost ≡ true → OnOk (at_register r) (is_lost ≡ false) → Writes P (told_of_walk r) before after → Writes P (Err Lost) before after
lost_front P (Ok head) is_lost before after lost ok w = absurd (true≢false (sym lost ∙ ok))
lost_front P (Err (walks.Sink sinks.Write)) is_lost before after lost ok w = absurd (true≢false (sym lost ∙ ok))
lost_front P (Err (walks.Sink sinks.Memory)) is_lost before after lost ok w = absurd (true≢false (sym lost ∙ ok))
lost_front P (Err walks.Memory) is_lost before after lost ok w = w
lost_front P (Err walks.Storage) is_lost before after lost ok w = w

-- A call of the register failed before anything was written.
nothing_then : (P : Reply → Type 0) (fault : Fault) (before : Option (List ℕ)) → Writes P (told_of_walk (Err (broken_off fault))) before before
nothing_then P faults.Memory before = record { text = []; written = appends_nothing before; front = λ some. absurd (some refl) }
nothing_then P faults.Storage before = record { text = []; written = appends_nothing before; front = λ some. absurd (some refl) }

pub nothing_written : (P : Reply → Type 0) (fault : Fault) (r : Result Head WalkFault) (before : Option (List ℕ)) → IsErrAnd r (λ broken. broken ≡ broken_off fault) → Writes P (told_of_walk r) before before
nothing_written P fault (Ok head) before is = absurd is
nothing_written P fault (Err broken) before is = subst (λ z. Writes P (told_of_walk (Err z)) before before) (sym is) (nothing_then P fault before)

-- What the desk holds afterwards.
pub holds_after_writing : (r : Result Head ToFault) (old new : View) → EndsWriting r old new → (books : Books) → new.is_honest → KeepsFormed old.room books old.content → Holds (leaves_closed r) new books
holds_after_writing r old new e books honest keeps =
    λ is. record { tables = keeps_at old new books (e.same is honest) e.later.room keeps.tables; formed = keeps.formed }

-- the bytes that a participant asks with name an account, or none
holdings_task : (owner text : List ℕ) (account : Option (List ℕ)) → (IsSome account → IsAccount text) → (IsAccount text → IsSome account) → IfSome account (λ a. a ≡ text) → IsHoldingsTask owner text (Holdings owner account)
holdings_task owner text None named reads is = (refl, λ a. (let clash : IsSome {T = List ℕ} None = reads a in absurd (cc)))
holdings_task owner text (Some a) named reads is = (refl, is, named refl)

-- what is reported is what is answered
pub holdings_step : (limit : ℕ) (books : Books) (owner text : List ℕ) (account : Option (List ℕ)) (r : Result Head ToFault) (before after : Option (List ℕ)) → (IsSome account → IsAccount text) → (IsAccount text → IsSome account)
    → IfSome account (λ a. a ≡ text) → Writes (IsReported limit books (reports.Holdings owner account)) r before after → WritesAsked limit books (asked_with (questions.Holdings owner) text) r before after
holdings_step limit books owner text account r before after named reads is w =
    writes_as (IsReported limit books (reports.Holdings owner account)) (λ reply. Step limit books (asked_with (questions.Holdings owner) text) (Ok reply) books) r before after
    (λ reply told. (Holdings owner account, holdings_task owner text account named reads is, told)) w

pub sums_step : (limit : ℕ) (books : Books) (r : Result Head ToFault) (before after : Option (List ℕ)) → Writes (IsReported limit books reports.Totals) r before after → WritesAsked limit books (asked_with questions.Sums []) r before after
sums_step limit books r before after w =
    writes_as (IsReported limit books reports.Totals) (λ reply. Step limit books (asked_with questions.Sums []) (Ok reply) books) r before after (λ reply told. (Totals, refl, told)) w
