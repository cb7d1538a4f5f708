-- Whatever is asked, what is accepted was accepted in its turn and is well formed, and so the confirmations account for
-- all balances.
use Rattle.std.proofs.Common.{ℕ, Bool, List, [], ◌∷◌, sym, subst}
use Rattle.std.specs.Prelude.{Result, Ok, Err}
use Rattle.desk_rules.specs.declared.history.entry.Entry.{Entry}
use Rattle.desk_rules.specs.declared.answers.reply.Reply.{Reply}
use Rattle.desk_rules.specs.declared.answers.verdict.Verdict.{Verdict}
use Rattle.desk_rules.specs.declared.answers.verdict.Verdict.TheVariants.{Accept, Repeat, Refuse}
use Rattle.desk_rules.specs.Confirmations.{AccountFor, Confirmation, SayConfirmations}
use Rattle.desk_rules.specs.Sent.{sent_of}
use Rattle.desk_rules.specs.Books.{Books}
use Rattle.desk_rules.specs.WellFormed.{AreAccepted, IsWellFormed}
use Rattle.desk_rules.proofs.ConfirmedChanges.{confirmed}
use Rattle.desk_rules.proofs.Existence.{no_books}
use Rattle.desk_rules.proofs.WellFormedLemmas.{formed_none}
use Rattle.desk_rules.specs.Verdict.{IsVerdict, WasAccepted}
use Rattle.desk_engine.specs.Applied.{no_books as empty_books}
use Rattle.desk_engine.proofs.HeldLemmas.{empty_keeps}
use Rattle.desk_engine.proofs.TablesLemmas.{accepted_more}
use Rattle.desk_book.specs.declared.fault.Fault.{Fault}
use Rattle.desk_book.specs.declared.requests.task.Task.{Task}
use Rattle.desk_book.specs.declared.requests.task.Task.TheVariants.{Answer, Decide, Holdings, Sent, Status, Totals}
use Rattle.desk_book.specs.Answered.{Grows, IsAnswer, AnsweredInTurn, Step, says_closed}
use Rattle.desk_book.specs.Asked.{Asked}
use Rattle.desk_book.specs.Task.{IsTask}
use Rattle.desk_book.proofs.FormedLemmas.{formed_after, formed_by}

grown : (limit : ℕ) (verdict : Verdict) (books after : Books) (entry : Entry) → IsWellFormed entry → IsVerdict limit books entry verdict → AreAccepted limit books
    → Grows verdict books entry after → AreAccepted limit after
grown limit Accept books after entry new is was grows = record {
  are = grows.are;
  accepted = subst (WasAccepted limit) (sym grows.history) (accepted_more limit books entry was.are was.accepted is);
  formed = formed_after Accept books after entry new was.formed grows;
}
grown limit (Repeat n) books after entry new is was grows = subst (AreAccepted limit) (sym grows) was
grown limit (Refuse refusal) books after entry new is was grows = subst (AreAccepted limit) (sym grows) was

replied : (limit : ℕ) (books after : Books) (asked : Asked) (task : Task) (reply : Reply) → IsTask asked task → AreAccepted limit books → IsAnswer limit books task reply after → AreAccepted limit after
replied limit books after asked (Decide entry) reply is was answer = grown limit answer.verdict books after entry (formed_by asked entry is) answer.is_verdict was answer.grows
replied limit books after asked (Status bic reference) reply is was answer = subst (AreAccepted limit) (sym answer.1) was
replied limit books after asked (Sent bic number) reply is was answer = subst (AreAccepted limit) (sym answer.1) was
replied limit books after asked (Holdings owner account) reply is was answer = subst (AreAccepted limit) (sym answer.1) was
replied limit books after asked Totals reply is was answer = subst (AreAccepted limit) (sym answer.stays) was
replied limit books after asked (Answer given) reply is was answer = subst (AreAccepted limit) (sym answer.1) was

stepped : (limit : ℕ) (books after : Books) (asked : Asked) (answer : Result Reply Fault) → AreAccepted limit books → Step limit books asked answer after → AreAccepted limit after
stepped limit books after asked (Ok reply) was step = replied limit books after asked step.0 reply step.1 was step.2
stepped limit books after asked (Err fault) was step = subst (AreAccepted limit) (sym step) was

pub ran : (limit : ℕ) (was is : Bool) (books last : Books) (requests : List Asked) (answers : List (Result Reply Fault)) → AreAccepted limit books → AnsweredInTurn limit was books requests answers is last → AreAccepted limit last
ran limit was is books last [] [] start run = subst (AreAccepted limit) (sym run.1) start
ran limit was is books last [] (answer ∷ answers) start run = absurd run
ran limit was is books last (asked ∷ more) [] start run = absurd run
ran limit was is books last (asked ∷ more) (answer ∷ answers) start run =
    ran limit (says_closed answer) is run.1.0 last more answers (stepped limit books run.1.0 asked answer start run.1.1) run.1.2

-- the books of no entry are
pub none_accepted : (limit : ℕ) → AreAccepted limit empty_books
none_accepted limit = record {
  are = record { pairing = no_books.pairing; settlement = no_books.settlement };
  accepted = (empty_keeps limit).accepted;
  formed = formed_none;
}

pub changes_are_confirmed : (limit : ℕ) (was is : Bool) (books last : Books) (requests : List Asked) (answers : List (Result Reply Fault)) → AreAccepted limit books → AnsweredInTurn limit was books requests answers is last
    → (confirmations : List Confirmation) × SayConfirmations (sent_of last) confirmations × AccountFor last confirmations
changes_are_confirmed limit was is books last requests answers start run = let all = ran limit was is books last requests answers start run in confirmed last all.are all.formed
