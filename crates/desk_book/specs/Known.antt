-- What is known of every reply.
use Rattle.std.specs.Prelude.{◌≡◌, ◌⊎◌, List, Contains}
use Rattle.desk_msg.specs.declared.reading.refusal.TextRefusal.{TextRefusal}
use Rattle.desk_msg.specs.Refused.{refusal_line}
use Rattle.desk_rules.specs.declared.history.entry.Entry.{Entry}
use Rattle.desk_rules.specs.declared.answers.reply.Reply.{Reply}
use Rattle.desk_rules.specs.declared.answers.verdict.Refusal.TheVariants.{AccountNotSenders, NoSuchInstruction, SenderUnknown}
use Rattle.desk_rules.specs.Books.{Books}
use Rattle.desk_rules.specs.Questions.{no_message, refused_question}
use Rattle.desk_rules.specs.Refusals.{number_of_refusal}
use Rattle.desk_rules.specs.Reply.{TellsRefusal, untyped_reply}
use Rattle.desk_book.specs.Asked.{Asked}
use Rattle.desk_book.specs.Task.{IsTask, no_command}
use Rattle.desk_book.specs.declared.requests.task.Task.TheVariants.{Decide}
use Rattle.desk_book.specs.declared.answers.total.CashTotal.{CashTotal}
use Rattle.desk_book.specs.declared.answers.total.SecurityTotal.{SecurityTotal}

-- The text could not be read: it spells no command, or it is a message that is refused, by a number of the texts' own.
abbrev pub TellsUnread : Reply → Type 0
TellsUnread reply = (reply ≡ no_command) ⊎ ((refusal : TextRefusal) × (reply ≡ untyped_reply 400 (refusal_line refusal)))

-- A question is refused: its sender is no participant, it used no such reference, the account is
-- not its own, or there is no such sent message.
abbrev pub TellsNoAnswer : Reply → Type 0
TellsNoAnswer reply =
    (reply ≡ refused_question (number_of_refusal SenderUnknown))
    ⊎ (reply ≡ refused_question (number_of_refusal NoSuchInstruction))
    ⊎ (reply ≡ refused_question (number_of_refusal AccountNotSenders))
    ⊎ (reply ≡ refused_question no_message)

-- A reply by its status: 200; or 422, where an entry is refused with a number of the catalogue, or a question with one of
-- its own; or 400, where what was asked could not be read.
pub data IsKnown (books : Books) (asked : Asked) (reply : Reply) : Type 0 where
  done : reply.status ≡ 200 → IsKnown books asked reply
  refused : (entry : Entry) → IsTask asked (Decide entry) → reply.status ≡ 422 → TellsRefusal books entry reply → IsKnown books asked reply
  unanswered : reply.status ≡ 422 → TellsNoAnswer reply → IsKnown books asked reply
  unread : reply.status ≡ 400 → TellsUnread reply → IsKnown books asked reply

-- of each security the accounts hold just what is outstanding, and of each currency the participants what was paid in
-- less what was paid out
pub record Agree (cash : List CashTotal) (securities : List SecurityTotal) : Type 0 where
  pub each_currency : (total : CashTotal) → Contains cash total → total.held ≡ total.net
  pub each_security : (total : SecurityTotal) → Contains securities total → total.held ≡ total.outstanding
