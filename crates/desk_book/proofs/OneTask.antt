-- A request is read as one task at most.
use Rattle.std.proofs.Common.{◌≡◌, ℕ, List, Some, None, sym, ◌∙◌, ap}
use Rattle.desk_msg.proofs.TextLaws.{message_not_refusal, one_message_of_text, one_refusal}
use Rattle.desk_msg.specs.declared.mt.Mt.{Mt}
use Rattle.desk_msg.specs.Refused.{refusal_line}
use Rattle.desk_rules.specs.declared.history.entry.Entry.{Entry}
use Rattle.desk_rules.specs.declared.answers.reply.Reply.{Reply}
use Rattle.desk_rules.specs.Reply.{untyped_reply}
use Rattle.desk_book.specs.declared.requests.question.Question.{Question}
use Rattle.desk_book.specs.declared.requests.question.Question.TheVariants as questions
use Rattle.desk_book.specs.Asked.{Asked, mt_of}
use Rattle.desk_book.specs.Task.{IsMessageTask, IsCommandTask, IsHoldingsTask, IsStatusTask, IsTask, IsTaskOf, entry_of_message}
use Rattle.desk_book.specs.declared.requests.task.Task.{Task}
use Rattle.desk_book.specs.declared.requests.task.Task.TheVariants.{Answer, Decide, Holdings, Status}
use Rattle.desk_book.proofs.OneCommand.{one_each}

one_entry : (mt : Mt) (sender text : List ℕ) (a b : Entry) → IsMessageTask sender mt text (Decide a) → IsMessageTask sender mt text (Decide b) → a ≡ b
one_entry mt sender text a b x y = x.2 ∙ ap (λ m. entry_of_message sender m) (one_message_of_text mt text x.0 y.0 x.1 y.1) ∙ sym y.2

entry_not_answer : (mt : Mt) (sender text : List ℕ) (entry : Entry) (reply : Reply) → IsMessageTask sender mt text (Decide entry) → IsMessageTask sender mt text (Answer reply) → ⊥
entry_not_answer mt sender text entry reply x y = message_not_refusal mt text x.0 y.0 x.1 y.1

one_answer : (mt : Mt) (sender text : List ℕ) (a b : Reply) → IsMessageTask sender mt text (Answer a) → IsMessageTask sender mt text (Answer b) → a ≡ b
one_answer mt sender text a b x y = x.2 ∙ ap (λ refusal. untyped_reply 400 (refusal_line refusal)) (one_refusal mt text x.0 y.0 x.1 y.1) ∙ sym y.2

one_of_message : (mt : Mt) (sender text : List ℕ) (a b : Task) → IsMessageTask sender mt text a → IsMessageTask sender mt text b → a ≡ b
one_of_message mt sender text (Decide a) (Decide b) x y = ap Decide (one_entry mt sender text a b x y)
one_of_message mt sender text (Decide a) (Answer b) x y = absurd (entry_not_answer mt sender text a b x y)
one_of_message mt sender text (Answer a) (Decide b) x y = absurd (entry_not_answer mt sender text b a y x)
one_of_message mt sender text (Answer a) (Answer b) x y = ap Answer (one_answer mt sender text a b x y)
one_of_message mt sender text (Decide a) b x y = absurd y
one_of_message mt sender text (Answer a) b x y = absurd y
one_of_message mt sender text a b x y = absurd x

one_of_command : (text : List ℕ) (a b : Task) → IsCommandTask text a → IsCommandTask text b → a ≡ b
one_of_command text (Decide a) (Decide b) x y = ap Decide (one_each text a b x y)
one_of_command text (Decide a) (Answer b) x y = absurd (y.0 a x)
one_of_command text (Answer a) (Decide b) x y = absurd (x.0 b y)
one_of_command text (Answer a) (Answer b) x y = ap Answer (x.1 ∙ sym y.1)
one_of_command text (Decide a) b x y = absurd y
one_of_command text (Answer a) b x y = absurd y
one_of_command text a b x y = absurd x

one_of_status : (sender text : List ℕ) (a b : Task) → IsStatusTask sender text a → IsStatusTask sender text b → a ≡ b
one_of_status sender text (Status p (Some r)) (Status q (Some s)) x y = ap (λ z. Status z (Some r)) (x.0 ∙ sym y.0) ∙ ap (λ z. Status q (Some z)) (x.1 ∙ sym y.1)
one_of_status sender text (Status p (Some r)) (Status q None) x y = absurd (y.1 x.2)
one_of_status sender text (Status p None) (Status q (Some s)) x y = absurd (x.1 y.2)
one_of_status sender text (Status p None) (Status q None) x y = ap (λ z. Status z None) (x.0 ∙ sym y.0)
one_of_status sender text (Status p (Some r)) b x y = absurd y
one_of_status sender text (Status p None) b x y = absurd y
one_of_status sender text a b x y = absurd x

one_of_holdings : (owner text : List ℕ) (a b : Task) → IsHoldingsTask owner text a → IsHoldingsTask owner text b → a ≡ b
one_of_holdings owner text (Holdings p (Some r)) (Holdings q (Some s)) x y = ap (λ z. Holdings z (Some r)) (x.0 ∙ sym y.0) ∙ ap (λ z. Holdings q (Some z)) (x.1 ∙ sym y.1)
one_of_holdings owner text (Holdings p (Some r)) (Holdings q None) x y = absurd (y.1 x.2)
one_of_holdings owner text (Holdings p None) (Holdings q (Some s)) x y = absurd (x.1 y.2)
one_of_holdings owner text (Holdings p None) (Holdings q None) x y = ap (λ z. Holdings z None) (x.0 ∙ sym y.0)
one_of_holdings owner text (Holdings p (Some r)) b x y = absurd y
one_of_holdings owner text (Holdings p None) b x y = absurd y
one_of_holdings owner text a b x y = absurd x

one_of_question : (question : Question) (text : List ℕ) (a b : Task) → IsTaskOf question text a → IsTaskOf question text b → a ≡ b
one_of_question (questions.Message sender kind) text a b x y = one_of_message (mt_of kind) sender text a b x y
one_of_question questions.Operator text a b x y = one_of_command text a b x y
one_of_question (questions.Status sender) text a b x y = one_of_status sender text a b x y
one_of_question (questions.Sent receiver number) text a b x y = x ∙ sym y
one_of_question (questions.Holdings owner) text a b x y = one_of_holdings owner text a b x y
one_of_question questions.Sums text a b x y = x ∙ sym y

pub one_task : (asked : Asked) (a b : Task) → IsTask asked a → IsTask asked b → a ≡ b
one_task asked a b x y = one_of_question asked.question asked.text a b x y
