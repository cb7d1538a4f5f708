-- What the desk answers to a request, and how its books grow by it.
use Rattle.std.specs.Prelude.{◌≡◌, ◌≢◌, ◌<◌, ◌≤◌, ℕ, Bool, true, false, if◌then◌else◌, List, [], ◌∷◌, Option, option_and_then, Result, Ok, Err}
use Rattle.desk_rules.specs.declared.history.entry.Entry.{Entry}
use Rattle.desk_rules.specs.declared.answers.reply.Reply.{Reply}
use Rattle.desk_rules.specs.declared.answers.verdict.Verdict.{Verdict}
use Rattle.desk_rules.specs.declared.answers.verdict.Verdict.TheVariants.{Accept, Repeat, Refuse}
use Rattle.desk_rules.specs.Reply.{untyped_reply, AreNext, IsFirstReply, IsReply}
use Rattle.desk_rules.specs.declared.answers.verdict.Refusal.TheVariants.{SenderUnknown}
use Rattle.desk_rules.specs.Books.{Books}
use Rattle.desk_rules.specs.declared.history.entry.Sender.TheVariants.{Participant as FromParticipant}
use Rattle.desk_rules.specs.Facts.{is_participant}
use Rattle.desk_rules.specs.History.{number_of_key}
use Rattle.desk_rules.specs.Questions.{named_reply, refused_question, sent_reply}
use Rattle.desk_rules.specs.Refusals.{number_of_refusal}
use Rattle.desk_rules.specs.Verdict.{IsVerdict}
use Rattle.desk_register.specs.View.{View, IfCounted}
use Rattle.desk_book.specs.Asked.{Asked}
use Rattle.desk_book.specs.Task.{IsTask}
use Rattle.desk_book.specs.Statement.{TellsHoldings}
use Rattle.desk_book.specs.Sums.{sums_text}
use Rattle.desk_book.specs.Totals.{AreCashSums, AreSums}
use Rattle.desk_book.specs.declared.fault.Fault.{Fault}
use Rattle.desk_book.specs.declared.fault.Fault.TheVariants.{Storage, Closed}
use Rattle.desk_book.specs.declared.requests.task.Task.{Task}
use Rattle.desk_book.specs.declared.requests.task.Task.TheVariants.{Answer, Decide, Holdings, Sent, Status, Totals}
use Rattle.desk_book.specs.declared.answers.total.CashTotal.{CashTotal}
use Rattle.desk_book.specs.declared.answers.total.SecurityTotal.{SecurityTotal}

-- what a verdict makes of the books: they grow by what is accepted, and by nothing else
abbrev pub Grows : Verdict → Books → Entry → Books → Type 0
Grows Accept books entry after = AreNext books entry after
Grows (Repeat n) books entry after = after ≡ books
Grows (Refuse refusal) books entry after = after ≡ books

-- an entry is decided on, and answered so
pub record IsDecided (limit : ℕ) (books : Books) (entry : Entry) (reply : Reply) (after : Books) : Type 0 where
  pub verdict : Verdict
  pub is_verdict : IsVerdict limit books entry verdict
  pub grows : Grows verdict books entry after
  pub replied : IsReply books entry verdict after reply

-- the desk's totals are told, of currencies and of securities
pub record IsToldSums (books : Books) (reply : Reply) (after : Books) : Type 0 where
  pub cash : List CashTotal
  pub are_cash : AreCashSums books cash
  pub securities : List SecurityTotal
  pub are : AreSums books securities
  pub replied : reply ≡ untyped_reply 200 (sums_text cash securities)
  pub stays : after ≡ books

-- the number of a participant's message with a reference; what is no reference was used for none
abbrev pub number_used : List Entry → List ℕ → Option (List ℕ) → Option ℕ
number_used history bic reference = option_and_then (λ r. number_of_key history (FromParticipant bic) r) reference

-- how a participant's message with a reference stands
abbrev pub status_answer : Books → List ℕ → Option (List ℕ) → Reply
status_answer books bic reference =
    if is_participant books.history bic then named_reply books (number_used books.history bic reference) else refused_question (number_of_refusal SenderUnknown)

-- the answer to what a request is read as, and the books after it
abbrev pub IsAnswer : ℕ → Books → Task → Reply → Books → Type 0
IsAnswer limit books (Decide entry) reply after = IsDecided limit books entry reply after
IsAnswer limit books (Status bic reference) reply after = (reply ≡ status_answer books bic reference) × (after ≡ books)
IsAnswer limit books (Sent bic number) reply after = (reply ≡ sent_reply books bic number) × (after ≡ books)
IsAnswer limit books (Holdings owner account) reply after = TellsHoldings books owner account reply × (after ≡ books)
IsAnswer limit books Totals reply after = IsToldSums books reply after
IsAnswer limit books (Answer given) reply after = (reply ≡ given) × (after ≡ books)

-- One request: it is read as a task, and that is answered; a fault changes nothing in the books. (Of the tables of a
-- desk that is closed nothing is said.)
abbrev pub Step : ℕ → Books → Asked → Result Reply Fault → Books → Type 0
Step limit books asked (Ok reply) after = (task : Task) × IsTask asked task × IsAnswer limit books task reply after
Step limit books asked (Err fault) after = after ≡ books

-- the desk answered that it is closed
abbrev pub says_closed : Result Reply Fault → Bool
says_closed (Err Closed) = true
says_closed answer = false

-- The device is blamed where it failed in the request: the count of its failures has grown after 61.
pub record BlamesRequest (result : Result Reply Fault) (old new : View) : Type 0 where
  pub storage : result ≡ Err Storage → IfCounted new (old.device.failures < new.device.failures)

-- how the count of the device's failures goes on in one answer: it grows at 61, and never shrinks
abbrev pub Counts : Result Reply Fault → ℕ → ℕ → Type 0
Counts (Err Storage) before after = before < after
Counts answer before after = before ≤ after

-- The device is blamed where it failed in the requests: answer by answer, the count of its failures goes from one number to
-- the other.
abbrev pub AreBlamed : List (Result Reply Fault) → ℕ → ℕ → Type 0
AreBlamed [] before after = after ≡ before
AreBlamed (answer ∷ answers) before after = (next : ℕ) × Counts answer before next × AreBlamed answers next after

-- Requests were answered one after another, from one state and books to another. Once closed, a desk answers nothing else.
abbrev pub AnsweredInTurn : ℕ → Bool → Books → List Asked → List (Result Reply Fault) → Bool → Books → Type 0
AnsweredInTurn limit was books [] [] is last = (is ≡ was) × (last ≡ books)
AnsweredInTurn limit was books (asked ∷ more) (answer ∷ answers) is last =
    (was ≡ true → says_closed answer ≡ true)
    × ((next : Books) × Step limit books asked answer next × AnsweredInTurn limit (says_closed answer) next more answers is last)
AnsweredInTurn limit was books requests answers is last = ⊥

-- What is asked is a command that was accepted before: these books have an entry of its key, type and content.
pub record IsRepeat (limit : ℕ) (books : Books) (asked : Asked) : Type 0 where
  pub entry : Entry
  pub number : ℕ
  pub reads : IsTask asked (Decide entry)
  pub repeats : IsVerdict limit books entry (Repeat number)

-- Requests and their answers, from these books to the last ones, and what is left of both once every repeat is taken
-- out, and with it every request that a fault answered: neither changes the books. A repeat got the first reply of its
-- entry.
pub data WithoutRepeats (limit : ℕ) : Books → List Asked → List (Result Reply Fault) → List Asked → List (Result Reply Fault) → Books → Type 0 where
  ended : {books : Books} → WithoutRepeats limit books [] [] [] [] books
  failed : {books last : Books} {asked : Asked} {fault : Fault} {more kept : List Asked} {answers others : List (Result Reply Fault)}
      → WithoutRepeats limit books more answers kept others last → WithoutRepeats limit books (asked ∷ more) (Err fault ∷ answers) kept others last
  repeated : {books last : Books} {asked : Asked} {reply : Reply} {more kept : List Asked} {answers others : List (Result Reply Fault)} → (is : IsRepeat limit books asked)
      → IsFirstReply books.history is.number reply → WithoutRepeats limit books more answers kept others last → WithoutRepeats limit books (asked ∷ more) (Ok reply ∷ answers) kept others last
  answered : {books next last : Books} {asked : Asked} {reply : Reply} {more kept : List Asked} {answers others : List (Result Reply Fault)} → ¬ IsRepeat limit books asked
      → Step limit books asked (Ok reply) next → WithoutRepeats limit next more answers kept others last
      → WithoutRepeats limit books (asked ∷ more) (Ok reply ∷ answers) (asked ∷ kept) (Ok reply ∷ others) last

-- Repeats act once: the requests without them, and without those that a fault answered, are answered in turn too,
-- the same, to the same last books.
pub record ActsOnce (limit : ℕ) (books : Books) (requests : List Asked) (answers : List (Result Reply Fault)) (last : Books) : Type 0 where
  pub kept : List Asked
  pub others : List (Result Reply Fault)
  pub without : WithoutRepeats limit books requests answers kept others last
  pub in_turn : AnsweredInTurn limit false books kept others false last
