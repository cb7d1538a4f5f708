-- Who reads an entry, reads a well formed one.
use Rattle.std.proofs.Common.{◌≡◌, ℕ, List, sym, subst}
use Rattle.std.specs.Prelude.{Ok}
use Rattle.serde_json.specs.Data.{Data}
use Rattle.desk_codes.specs.Bic.{IsBic}
use Rattle.desk_msg.specs.declared.instruction.Message.{Message}
use Rattle.desk_msg.specs.declared.instruction.Message.TheVariants.{New, Cancel as CancelMessage}
use Rattle.desk_msg.specs.declared.mt.Mt.{Mt}
use Rattle.desk_msg.specs.Refused.{ReadsText}
use Rattle.desk_rules.specs.declared.history.entry.Entry.{Entry}
use Rattle.desk_rules.specs.declared.history.entry.Entry.TheVariants.{Participant, Account, Security, Issue, Redeem, PayIn, PayOut, Instruct, Cancel, Run}
use Rattle.desk_rules.specs.declared.answers.verdict.Verdict.{Verdict}
use Rattle.desk_rules.specs.declared.answers.verdict.Verdict.TheVariants.{Accept, Repeat, Refuse}
use Rattle.desk_rules.specs.Books.{Books}
use Rattle.desk_rules.specs.Content.{Content}
use Rattle.desk_rules.specs.WellFormed.{AreWellFormed, IsWellFormed}
use Rattle.desk_rules.proofs.WellFormedLemmas.{formed_none, formed_push, readable, readable_cancellation, spelled_bic}
use Rattle.desk_register.specs.Changes.{empty_content}
use Rattle.desk_engine.specs.Applied.{no_books}
use Rattle.desk_engine.proofs.KeptLemmas.{empty_kept}
use Rattle.desk_book.specs.Answered.{Grows}
use Rattle.desk_engine.specs.Ready.{KeepsFormed}
use Rattle.desk_book.specs.declared.requests.question.Question.{Question}
use Rattle.desk_book.specs.declared.requests.question.Question.TheVariants as questions
use Rattle.desk_book.specs.Asked.{Asked, mt_of}
use Rattle.desk_book.specs.Command.{IsCommand, SpellsCommand}
use Rattle.desk_book.specs.Task.{IsTask, IsTaskOf, entry_of_message}
use Rattle.desk_book.specs.declared.requests.task.Task.TheVariants.{Decide}

pub command_formed : (d : Data) (entry : Entry) → IsCommand d entry → IsWellFormed entry
command_formed d (Participant reference bic) c = (c.2, spelled_bic c.0 bic c.1)
command_formed d (Account reference bic account) c = (c.2, spelled_bic c.0 bic c.1, c.3)
command_formed d (Security reference isin kind) c = (c.0, c.1)
command_formed d (Issue movement) c = c.0
command_formed d (Redeem movement) c = c.0
command_formed d (PayIn payment) c = record { reference = c.2; bic = spelled_bic c.0 payment.bic c.1; some = payment.some; within = payment.within }
command_formed d (PayOut payment) c = record { reference = c.2; bic = spelled_bic c.0 payment.bic c.1; some = payment.some; within = payment.within }
command_formed d (Instruct sender instruction) c = absurd c
command_formed d (Cancel sender order) c = absurd c
command_formed d (Run reference day rule) c = (c.0, c.1)

pub spelled : (text : List ℕ) (entry : Entry) → SpellsCommand text entry → IsWellFormed entry
spelled text entry s = command_formed s.value entry s.command

-- what a message of a sender with a BIC asks for is well formed
pub entry_formed : (sender : List ℕ) (mt : Mt) (text : List ℕ) (m : Message) → IsBic sender → ReadsText mt text (Ok m) → IsWellFormed (entry_of_message sender m)
entry_formed sender mt text (New instruction) bic reads = (bic, readable mt text instruction reads)
entry_formed sender mt text (CancelMessage order) bic reads = (bic, readable_cancellation mt text order reads)

formed_of : (question : Question) (text : List ℕ) (entry : Entry) → IsTaskOf question text (Decide entry) → IsWellFormed entry
formed_of (questions.Message sender kind) text entry is = subst IsWellFormed (sym is.2) (entry_formed sender (mt_of kind) text is.0 is.3 is.1)
formed_of questions.Operator text entry is = spelled text entry is
formed_of (questions.Status sender) text entry is = absurd is
formed_of (questions.Sent receiver number) text entry is = absurd (cc)
formed_of (questions.Holdings owner) text entry is = absurd is
formed_of questions.Sums text entry is = absurd (cc)

pub formed_by : (asked : Asked) (entry : Entry) → IsTask asked (Decide entry) → IsWellFormed entry
formed_by asked entry is = formed_of asked.question asked.text entry is

-- what a verdict makes of books that are well formed is so, where the entry is
pub formed_after : (verdict : Verdict) (books after : Books) (entry : Entry) → IsWellFormed entry → AreWellFormed books.history → Grows verdict books entry after → AreWellFormed after.history
formed_after Accept books after entry new formed grows = subst AreWellFormed (sym grows.history) (formed_push books.history entry formed new)
formed_after (Repeat n) books after entry new formed grows = let P : Books → Type 0 = λ b. AreWellFormed b.history in subst P (sym grows) formed
formed_after (Refuse refusal) books after entry new formed grows = let P : Books → Type 0 = λ b. AreWellFormed b.history in subst P (sym grows) formed

-- what holds nothing keeps the tables of the history that has no entry
pub empty_formed : (limit : ℕ) (content : Content) → content ≡ empty_content → KeepsFormed limit no_books content
empty_formed limit content empty = record { tables = empty_kept limit content empty; formed = formed_none }
