-- What a participant asks is answered by the books of now.
use Rattle.std.proofs.Common.{◌≡◌, inl, inr, ℕ, ◌+◌, List, [], ◌∷◌, Option, Some, None, bytes_eq, refl, ap, ◌∙◌, subst}
use Rattle.std.specs.Prelude.{Ok}
use Rattle.std.proofs.lemmas.Bool.{and_parts, cases_Bool}
use Rattle.desk_codes.specs.Account.{IsAccount}
use Rattle.desk_codes.specs.Reference.{IsReference}
use Rattle.desk_msg.specs.declared.instruction.Message.TheVariants.{New, Cancel as CancelMessage}
use Rattle.desk_msg.specs.Reads.{ReadsFields}
use Rattle.desk_rules.specs.declared.history.entry.Entry.{Entry}
use Rattle.desk_rules.specs.declared.history.entry.Entry.TheVariants.{Participant, Account, Security, Issue, Redeem, PayIn, PayOut, Instruct, Cancel, Run}
use Rattle.desk_rules.specs.declared.history.entry.Sender.{Sender}
use Rattle.desk_rules.specs.declared.history.entry.Sender.TheVariants.{Participant as FromParticipant}
use Rattle.desk_rules.specs.declared.answers.reply.Reply.{Reply}
use Rattle.desk_rules.specs.Books.{Books}
use Rattle.desk_rules.specs.Facts.{owner_of}
use Rattle.desk_rules.specs.History.{has_key, number_from, reference_of, same_sender, sender_of}
use Rattle.desk_rules.specs.Questions.{sent_reply, status_reply}
use Rattle.desk_rules.specs.WellFormed.{AreWellFormed, IsReadable, IsWellFormed}
use Rattle.desk_rules.proofs.Decided.{Contains-from_In, In}
use Rattle.desk_register.proofs.CaseLemmas.{same_bytes}
use Rattle.desk_book.specs.declared.requests.task.Task.{Task}
use Rattle.desk_book.specs.declared.requests.task.Task.TheVariants.{Holdings, Status}
use Rattle.desk_book.specs.Answered.{IsAnswer, Step, status_answer}
use Rattle.desk_book.specs.declared.requests.question.Question.TheVariants as questions
use Rattle.desk_book.specs.Asked.{asked_with}
use Rattle.desk_book.specs.Statement.{TellsHoldings}
use Rattle.desk_book.specs.Task.{IsHoldingsTask, IsStatusTask}

-- each entry that is well formed has a reference
reference_formed : (e : Entry) → IsWellFormed e → IsReference (reference_of e)
reference_formed (Participant reference bic) c = c.0
reference_formed (Account reference bic account) c = c.0
reference_formed (Security reference isin kind) c = c.0
reference_formed (Issue movement) c = c.reference
reference_formed (Redeem movement) c = c.reference
reference_formed (PayIn payment) c = c.reference
reference_formed (PayOut payment) c = c.reference
reference_formed (Instruct sender i) c =
    let readable : IsReadable i.mt (New i) = c.1 in
    let reads : ReadsFields i.mt readable.0 (Ok (New i)) = readable.1 in
    reads.1.1.0.says.2.0
reference_formed (Cancel sender order) c =
    let readable : IsReadable order.mt (CancelMessage order) = c.1 in
    let reads : ReadsFields order.mt readable.0 (Ok (CancelMessage order)) = readable.1 in
    reads.1.1.0.says.2.0
reference_formed (Run reference day rule) c = c.0

-- so what is no reference was used for none
unused : (n : ℕ) (sender : Sender) (text : List ℕ) (h : List Entry) → ¬ IsReference text → ((e : Entry) → In h e → IsWellFormed e) → number_from n sender text h ≡ None
unused n sender text [] none formed = refl
unused n sender text (e ∷ h) none formed = elim (cases_Bool (has_key sender text e)) [
  | inl has ↦
      let same = same_bytes (reference_of e) text (and_parts (same_sender (sender_of e) sender) (bytes_eq (reference_of e) text) has).1 in
      absurd (none (subst IsReference same (reference_formed e (formed e (inl refl)))))
  | inr other ↦ rw other (unused (n + 1) sender text h none (λ x i. formed x (inr i)))
]

never_used : (books : Books) (bic text : List ℕ) → AreWellFormed books.history → ¬ IsReference text → status_answer books bic None ≡ status_reply books bic text
never_used books bic text formed none =
    let number = unused 1 (FromParticipant bic) text books.history none (λ e i. formed.each e (Contains-from_In books.history e i)) in
    rw number refl

of_status : (books : Books) (sender text : List ℕ) (bic : List ℕ) (reference : Option (List ℕ)) → AreWellFormed books.history → IsStatusTask sender text (Status bic reference) → status_answer books bic reference ≡ status_reply books sender text
of_status books sender text bic (Some reference) formed is = ap (λ b. status_reply books b reference) is.0 ∙ ap (λ r. status_reply books sender r) is.1
of_status books sender text bic None formed is = ap (λ b. status_answer books b None) is.0 ∙ never_used books sender text formed is.1

status_by : (limit : ℕ) (books after : Books) (sender text : List ℕ) (task : Task) (reply : Reply) → AreWellFormed books.history → IsStatusTask sender text task → IsAnswer limit books task reply after
    → (reply ≡ status_reply books sender text) × (after ≡ books)
status_by limit books after sender text (Status bic reference) reply formed is answer = (answer.0 ∙ of_status books sender text bic reference formed is, answer.1)
status_by limit books after sender text task reply formed is answer = absurd is

pub status_told : (limit : ℕ) (books after : Books) (sender text : List ℕ) (reply : Reply) → AreWellFormed books.history → Step limit books (asked_with (questions.Status sender) text) (Ok reply) after
    → (reply ≡ status_reply books sender text) × (after ≡ books)
status_told limit books after sender text reply formed step = status_by limit books after sender text step.0 reply formed step.1 step.2

pub sent_told : (limit : ℕ) (books after : Books) (receiver text : List ℕ) (number : ℕ) (reply : Reply) → Step limit books (asked_with (questions.Sent receiver number) text) (Ok reply) after → (reply ≡ sent_reply books receiver number) × (after ≡ books)
sent_told limit books after receiver text number reply step =
    let P : Task → Type 0 = λ task. IsAnswer limit books task reply after in
    subst P step.1 step.2

-- Holdings.

-- what names no account is nobody's
unowned : (text : List ℕ) (h : List Entry) → ¬ IsAccount text → ((e : Entry) → In h e → IsWellFormed e) → owner_of h text ≡ None
unowned text [] none formed = refl
unowned text (Account reference bic account ∷ h) none formed = elim (cases_Bool (bytes_eq account text)) [
  | inl same ↦ absurd (none (subst IsAccount (same_bytes account text same) (formed (Account reference bic account) (inl refl)).2))
  | inr other ↦ rw other (unowned text h none (λ x i. formed x (inr i)))
]
unowned text (Participant reference bic ∷ h) none formed = unowned text h none (λ x i. formed x (inr i))
unowned text (Security reference isin kind ∷ h) none formed = unowned text h none (λ x i. formed x (inr i))
unowned text (Issue movement ∷ h) none formed = unowned text h none (λ x i. formed x (inr i))
unowned text (Redeem movement ∷ h) none formed = unowned text h none (λ x i. formed x (inr i))
unowned text (PayIn payment ∷ h) none formed = unowned text h none (λ x i. formed x (inr i))
unowned text (PayOut payment ∷ h) none formed = unowned text h none (λ x i. formed x (inr i))
unowned text (Instruct sender i ∷ h) none formed = unowned text h none (λ x i. formed x (inr i))
unowned text (Cancel sender order ∷ h) none formed = unowned text h none (λ x i. formed x (inr i))
unowned text (Run reference day rule ∷ h) none formed = unowned text h none (λ x i. formed x (inr i))

no_owner : (books : Books) (owner text : List ℕ) (reply : Reply) → AreWellFormed books.history → ¬ IsAccount text → TellsHoldings books owner None reply → TellsHoldings books owner (Some text) reply
no_owner books owner text reply formed none told =
    let nobody = unowned text books.history none (λ e i. formed.each e (Contains-from_In books.history e i)) in
    rw nobody told

holdings_by : (limit : ℕ) (books after : Books) (owner text : List ℕ) (task : Task) (reply : Reply) → AreWellFormed books.history → IsHoldingsTask owner text task → IsAnswer limit books task reply after
    → TellsHoldings books owner (Some text) reply × (after ≡ books)
holdings_by limit books after owner text (Holdings bic (Some account)) reply formed is answer = (
  subst (λ b. TellsHoldings books b (Some text) reply) is.0 (subst (λ a. TellsHoldings books bic (Some a) reply) is.1 answer.0),
  answer.1,
)
holdings_by limit books after owner text (Holdings bic None) reply formed is answer = (
  subst (λ b. TellsHoldings books b (Some text) reply) is.0 (no_owner books bic text reply formed is.1 answer.0),
  answer.1,
)
holdings_by limit books after owner text task reply formed is answer = absurd is

pub holdings_told : (limit : ℕ) (books after : Books) (owner text : List ℕ) (reply : Reply) → AreWellFormed books.history → Step limit books (asked_with (questions.Holdings owner) text) (Ok reply) after
    → TellsHoldings books owner (Some text) reply × (after ≡ books)
holdings_told limit books after owner text reply formed step = holdings_by limit books after owner text step.0 reply formed step.1 step.2
