-- What is known of every reply: its status and number, and that the totals agree.
use Rattle.std.proofs.Common.{◌≡◌, ◌⊎◌, inl, inr, ℕ, Bool, true, false, List, Option, Some, None, refl, ap, sym, subst, arith}
use Rattle.std.proofs.lemmas.Bool.{cases_Bool}
use Rattle.std.specs.Prelude.{MatchBool, Result, Ok}
use Rattle.desk_msg.specs.declared.mt.Mt.{Mt}
use Rattle.desk_msg.specs.declared.instruction.Instruction.{Instruction}
use Rattle.desk_rules.specs.declared.history.entry.Entry.{Entry}
use Rattle.desk_rules.specs.declared.history.entry.Entry.TheVariants.{Cancel, Instruct}
use Rattle.desk_rules.specs.declared.answers.reply.Sent.{Sent as SentMessage}
use Rattle.desk_rules.specs.declared.history.standing.State.{State}
use Rattle.desk_rules.specs.declared.history.standing.State.TheVariants as states
use Rattle.desk_rules.specs.declared.answers.verdict.Refusal.TheVariants.{AccountNotSenders, NoSuchInstruction, SenderUnknown}
use Rattle.desk_rules.specs.Facts.{is_owner, is_participant, owner_of}
use Rattle.desk_rules.specs.History.{entry_at}
use Rattle.desk_rules.specs.Questions.{confirmation_of, entry_reply, instruction_reply, message_reply, named_reply, refused_question, sent_at, sent_reply, sent_text_reply, sent_to}
use Rattle.desk_rules.specs.Refusals.{number_of_refusal}
use Rattle.desk_rules.specs.Standing.{state_of}
use Rattle.desk_rules.specs.declared.answers.reply.Reply.{Reply}
use Rattle.desk_rules.specs.Books.{Books}
use Rattle.desk_rules.specs.WellFormed.{AreAccepted}
use Rattle.desk_rules.specs.Reply.{TellsRefusal}
use Rattle.desk_rules.proofs.Conservation.{cash_adds_up, securities_add_up}
use Rattle.desk_rules.proofs.KnownNumbers.{known_reply}
use Rattle.desk_book.specs.declared.fault.Fault.{Fault}
use Rattle.desk_book.specs.declared.requests.task.Task.{Task}
use Rattle.desk_book.specs.declared.requests.task.Task.TheVariants.{Answer, Decide, Holdings, Sent, Status, Totals}
use Rattle.desk_book.specs.declared.answers.total.CashTotal.{CashTotal}
use Rattle.desk_book.specs.declared.answers.total.SecurityTotal.{SecurityTotal}
use Rattle.desk_book.specs.Answered.{IsAnswer, IsToldSums, AnsweredInTurn, Step, number_used, status_answer}
use Rattle.desk_book.specs.declared.requests.question.Question.{Question}
use Rattle.desk_book.specs.declared.requests.question.Question.TheVariants as questions
use Rattle.desk_book.specs.Asked.{Asked, asked_with, mt_of}
use Rattle.desk_book.specs.Known.{Agree, IsKnown, TellsNoAnswer, TellsUnread, done, refused, unanswered, unread}
use Rattle.desk_book.specs.Statement.{IsStatement, TellsHoldings, TellsOwner}
use Rattle.desk_book.specs.Totals.{AreCashSums, AreSums}
use Rattle.desk_book.specs.Task.{IsMessageTask, IsTask, IsTaskOf}
use Rattle.desk_book.proofs.ConfirmedRuns.{ran}

-- Questions.

abbrev IsToldOrNot : Reply → Type 0
IsToldOrNot reply = (reply.status ≡ 200) ⊎ TellsNoAnswer reply

stranger : IsToldOrNot (refused_question (number_of_refusal SenderUnknown))
stranger = inr (inl refl)

unused : IsToldOrNot (refused_question (number_of_refusal NoSuchInstruction))
unused = inr (inr (inl refl))

not_own : IsToldOrNot (refused_question (number_of_refusal AccountNotSenders))
not_own = inr (inr (inr (inl refl)))

known_text : (found : Option SentMessage) → IsToldOrNot (sent_text_reply found)
known_text None = inr (inr (inr (inr refl)))
known_text (Some one) = inl refl

known_instruction : (books : Books) (n : ℕ) (i : Instruction) (state : State) → IsToldOrNot (instruction_reply books n i state)
known_instruction books n i states.NoInstruction = unused
known_instruction books n i states.Unmatched = inl refl
known_instruction books n i (states.Matched reason) = inl refl
known_instruction books n i states.Cancelled = inl refl
known_instruction books n i states.Settled = known_text (confirmation_of books n)

known_message : (books : Books) (n : ℕ) (entry : Entry) → IsToldOrNot (message_reply books n entry)
known_message books n (Instruct sender i) = known_instruction books n i (state_of books n)
known_message books n (Cancel sender order) = inl refl
known_message books n entry = unused

known_entry : (books : Books) (n : ℕ) (found : Option Entry) → IsToldOrNot (entry_reply books n found)
known_entry books n None = unused
known_entry books n (Some entry) = known_message books n entry

known_named : (books : Books) (number : Option ℕ) → IsToldOrNot (named_reply books number)
known_named books None = unused
known_named books (Some n) = known_entry books n (entry_at books.history n)

known_status : (books : Books) (bic : List ℕ) (reference : Option (List ℕ)) → IsToldOrNot (status_answer books bic reference)
known_status books bic reference = elim (cases_Bool (is_participant books.history bic)) [
  | inl takes_part ↦ rw takes_part (known_named books (number_used books.history bic reference))
  | inr unknown ↦ rw unknown stranger
]

known_sent : (books : Books) (bic : List ℕ) (number : ℕ) → IsToldOrNot (sent_reply books bic number)
known_sent books bic number = elim (cases_Bool (is_participant books.history bic)) [
  | inl takes_part ↦ rw takes_part (known_text (sent_at (sent_to books bic) number))
  | inr unknown ↦ rw unknown stranger
]

told_so : (reply answer : Reply) → reply ≡ answer → IsToldOrNot answer → IsToldOrNot reply
told_so reply answer is known = subst IsToldOrNot (sym is) known

-- what is told where a test holds, and else
known_either : (b : Bool) (P : Type 0) (reply other : Reply) → (P → IsToldOrNot reply) → IsToldOrNot other → MatchBool b P (reply ≡ other) → IsToldOrNot reply
known_either true P reply other then known is = then is
known_either false P reply other then known is = told_so reply other is known

known_owner : (books : Books) (owner : List ℕ) (account : Option (List ℕ)) (reply : Reply) → TellsOwner books owner account reply → IsToldOrNot reply
known_owner books owner (Some account) reply is =
    known_either (is_owner owner (owner_of books.history account)) (IsStatement books account reply) reply (refused_question (number_of_refusal AccountNotSenders)) (λ told. inl (ap (λ r. r.status) told.replied)) not_own is
known_owner books owner None reply is = told_so reply (refused_question (number_of_refusal AccountNotSenders)) is not_own

known_holdings : (books : Books) (owner : List ℕ) (account : Option (List ℕ)) (reply : Reply) → TellsHoldings books owner account reply → IsToldOrNot reply
known_holdings books owner account reply is =
    known_either (is_participant books.history owner) (TellsOwner books owner account reply) reply (refused_question (number_of_refusal SenderUnknown)) (known_owner books owner account reply) stranger is

status_unanswered : (reply : Reply) → TellsNoAnswer reply → reply.status ≡ 422
status_unanswered reply (inl is) = ap (λ r. r.status) is
status_unanswered reply (inr (inl is)) = ap (λ r. r.status) is
status_unanswered reply (inr (inr (inl is))) = ap (λ r. r.status) is
status_unanswered reply (inr (inr (inr is))) = ap (λ r. r.status) is

-- Replies.

of_message : (mt : Mt) (sender text : List ℕ) (reply : Reply) → IsMessageTask sender mt text (Answer reply) → (reply.status ≡ 400) × TellsUnread reply
of_message mt sender text reply r = (ap (λ r. r.status) r.2, inr (r.0, r.2))

of_answer : (question : Question) (text : List ℕ) (reply : Reply) → IsTaskOf question text (Answer reply) → (reply.status ≡ 400) × TellsUnread reply
of_answer (questions.Message sender kind) text reply x = of_message (mt_of kind) sender text reply x
of_answer questions.Operator text reply x = (ap (λ r. r.status) x.1, inl x.1)
of_answer (questions.Status sender) text reply x = absurd x
of_answer (questions.Sent receiver number) text reply x = let no : Answer reply ≡ Sent receiver number = x in cc
of_answer (questions.Holdings owner) text reply x = absurd x
of_answer questions.Sums text reply x = let no : Answer reply ≡ Totals = x in cc

of_decided : (books : Books) (asked : Asked) (entry : Entry) (reply : Reply) → IsTask asked (Decide entry)
    → (reply.status ≡ 200) ⊎ ((reply.status ≡ 422) × TellsRefusal books entry reply) → IsKnown books asked reply
of_decided books asked entry reply is (inl ok) = done ok
of_decided books asked entry reply is (inr r) = refused entry is r.0 r.1

-- a question that is answered, or refused
of_question : (books : Books) (asked : Asked) (reply : Reply) → (reply.status ≡ 200) ⊎ TellsNoAnswer reply → IsKnown books asked reply
of_question books asked reply (inl ok) = done ok
of_question books asked reply (inr none) = unanswered (status_unanswered reply none) none

of_task : (limit : ℕ) (books after : Books) (asked : Asked) (task : Task) (reply : Reply) → IsTask asked task → IsAnswer limit books task reply after → IsKnown books asked reply
of_task limit books after asked (Decide entry) reply is answer = of_decided books asked entry reply is (known_reply books after entry answer.verdict reply answer.replied)
of_task limit books after asked (Status bic reference) reply is answer = of_question books asked reply (told_so reply (status_answer books bic reference) answer.0 (known_status books bic reference))
of_task limit books after asked (Sent bic number) reply is answer = of_question books asked reply (told_so reply (sent_reply books bic number) answer.0 (known_sent books bic number))
of_task limit books after asked (Holdings owner account) reply is answer = of_question books asked reply (known_holdings books owner account reply answer.0)
of_task limit books after asked Totals reply is answer = done (ap (λ r. r.status) answer.replied)
of_task limit books after asked (Answer given) reply is answer =
    let all = of_answer asked.question asked.text given is in
    let P : Reply → Type 0 = λ r. (r.status ≡ 400) × TellsUnread r in
    let both : P reply = subst P (sym answer.0) all in
    unread both.0 both.1

pub known : (limit : ℕ) (books after : Books) (asked : Asked) (reply : Reply) → Step limit books asked (Ok reply) after → IsKnown books asked reply
known limit books after asked reply step = of_task limit books after asked step.0 reply step.1 step.2

-- Totals.

agreeing : (limit : ℕ) (books : Books) (cash : List CashTotal) (securities : List SecurityTotal) → AreAccepted limit books → AreCashSums books cash → AreSums books securities → Agree cash securities
agreeing limit books cash securities was are_cash are = record {
  each_currency = λ total has.
      let is = are_cash.each total has in
      let all = cash_adds_up limit books.history was.accepted books.pairs books.settled was.are.pairing was.are.settlement total.ccy in
      let held = is.held in
      let net = is.net in
      omega arith;
  each_security = λ total has.
      let is = are.each total has in
      let all = securities_add_up limit books.history was.accepted books.pairs books.settled was.are.pairing was.are.settlement total.isin in
      let held = is.held in
      let out = is.outstanding in
      omega arith;
}

told : (limit : ℕ) (books after : Books) (text : List ℕ) (task : Task) (reply : Reply) → IsTask (asked_with questions.Sums text) task → AreAccepted limit books → IsAnswer limit books task reply after
    → (told : IsToldSums books reply after) × Agree told.cash told.securities
told limit books after text (Decide entry) reply is was answer = let no : Decide entry ≡ Totals = is in cc
told limit books after text Totals reply is was answer = (answer, agreeing limit books answer.cash answer.securities was answer.are_cash answer.are)
told limit books after text (Status bic reference) reply is was answer = let no : Status bic reference ≡ Totals = is in cc
told limit books after text (Sent bic number) reply is was answer = let no : Sent bic number ≡ Totals = is in cc
told limit books after text (Holdings owner account) reply is was answer = let no : Holdings owner account ≡ Totals = is in cc
told limit books after text (Answer given) reply is was answer = let no : Answer given ≡ Totals = is in cc

pub sums_agree : (limit : ℕ) (was is : Bool) (books last next : Books) (requests : List Asked) (answers : List (Result Reply Fault)) (text : List ℕ) (reply : Reply)
    → AreAccepted limit books → AnsweredInTurn limit was books requests answers is last → Step limit last (asked_with questions.Sums text) (Ok reply) next
    → (told : IsToldSums last reply next) × Agree told.cash told.securities
sums_agree limit was is books last next requests answers text reply start run step = told limit last next text step.0 reply step.1 (ran limit was is books last requests answers start run) step.2
