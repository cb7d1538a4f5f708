-- How a text comes about that is written row by row, as it is read from a register. Only private contracts speak of it.
use Rattle.std.specs.Prelude.{◌≡◌, ◌≢◌, ◌⊎◌, ℕ, Bool, true, false, List, ◌++◌, map, Option, Result, Ok, Err, OnErr, OnOk}
use Rattle.std.specs.Io.KnownBytes.{Appends}
use Rattle.serde_json.specs.Written.{comma_if, compact_text}
use Rattle.desk_codes.specs.declared.currency.Ccy.{Ccy}
use Rattle.desk_msg.specs.declared.writing.statement_row.SinkFault.TheVariants as sinks
use Rattle.desk_rules.specs.Balances.{paid_in}
use Rattle.desk_rules.specs.Books.{Books}
use Rattle.desk_rules.specs.Content.{Content, history_of}
use Rattle.desk_rules.specs.declared.answers.reply.Reply.{Reply}
use Rattle.desk_register.specs.declared.register.Fault.{Fault}
use Rattle.desk_register.specs.declared.register.Stage.TheVariants.{Idle}
use Rattle.desk_register.specs.View.{View, IfTrusted, IsLater, StaysSure}
use Rattle.desk_engine.specs.Accepting.{Shows}
use Rattle.desk_register.specs.declared.fault.WalkFault.{WalkFault}
use Rattle.desk_register.specs.declared.fault.WalkFault.TheVariants as walks
use Rattle.desk_book.specs.Answered.{IsAnswer}
use Rattle.desk_book.specs.Sums.{cash_data, rows_text, security_data}
use Rattle.desk_book.specs.Totals.{AreCashTotals, AreTotals, IsCashTotal, IsTotal}
use Rattle.desk_book.specs.WrittenTo.{BlamesDevice, leaves_closed, reply_with}
use Rattle.desk_book.specs.declared.fault.Fault.{Fault as DeskFault}
use Rattle.desk_book.specs.declared.fault.Fault.TheVariants as desk
use Rattle.desk_book.specs.declared.fault.ToFault.{ToFault}
use Rattle.desk_book.specs.declared.fault.ToFault.TheVariants.{WriteFailed, Memory, Storage, Closed, Lost}
use Rattle.desk_book.specs.declared.requests.task.Task.{Task}
use Rattle.desk_book.specs.declared.requests.task.Task.TheVariants as tasks
use Rattle.desk_book.specs.declared.answers.telling.Report.{Report}
use Rattle.desk_book.specs.declared.answers.telling.Report.TheVariants.{Holdings, Totals}
use Rattle.desk_book.specs.declared.answers.head.Head.{Head}
use Rattle.desk_book.specs.declared.answers.total.CashTotal.{CashTotal}
use Rattle.desk_book.specs.declared.answers.total.SecurityTotal.{SecurityTotal}

-- the fault that is told of a walk that broke off
abbrev pub fault_of_walk : WalkFault → ToFault
fault_of_walk (walks.Sink sinks.Write) = WriteFailed
fault_of_walk (walks.Sink sinks.Memory) = Memory
fault_of_walk walks.Memory = Memory
fault_of_walk walks.Storage = Storage

-- what is told of a walk
abbrev pub told_of_walk : Result Head WalkFault → Result Head ToFault
told_of_walk (Ok head) = Ok head
told_of_walk (Err fault) = Err (fault_of_walk fault)

-- the task that a report is the answer to
abbrev pub task_of_report : Report → Task
task_of_report (Holdings owner account) = tasks.Holdings owner account
task_of_report Totals = tasks.Totals

-- the reply to it, by these books, which stay
abbrev pub IsReported : ℕ → Books → Report → Reply → Type 0
IsReported limit books report reply = IsAnswer limit books (task_of_report report) reply books

-- a text was written behind what the writer held
pub record WritesWhole (IsText : List ℕ → Type 0) (before after : Option (List ℕ)) : Type 0 where
  pub text : List ℕ
  pub written : Appends before after text
  pub is_text : IsText text

-- a front of a text was written, all of it or none of it maybe
pub record WritesSome (IsText : List ℕ → Type 0) (before after : Option (List ℕ)) : Type 0 where
  pub text : List ℕ
  pub written : Appends before after text
  pub rest : List ℕ
  pub is_text : IsText (text ++ rest)

-- What was written: a text, or, where the walk broke off, a front of one. Of a writer that failed nothing is said.
abbrev pub WritesText : {X : Type 0} → (List ℕ → Type 0) → Result X WalkFault → Option (List ℕ) → Option (List ℕ) → Type 0
WritesText IsText (Ok x) before after = WritesWhole IsText before after
WritesText IsText (Err (walks.Sink sinks.Write)) before after = Unit {0}
WritesText IsText (Err fault) before after = WritesSome IsText before after

-- the rows of the currencies that were paid in, without the brackets of the array
pub record IsCashText (content : Content) (text : List ℕ) : Type 0 where
  pub rows : List CashTotal
  pub are : AreCashTotals content rows
  pub is : text ≡ rows_text false (map cash_data rows)

-- the rows of the securities, without the brackets of the array
pub record IsSecuritiesText (content : Content) (text : List ℕ) : Type 0 where
  pub rows : List SecurityTotal
  pub are : AreTotals content rows
  pub is : text ≡ rows_text false (map security_data rows)

-- the row of a currency was written
pub record WritesCash (content : Content) (ccy : Ccy) (is_later : Bool) (before after : Option (List ℕ)) : Type 0 where
  pub row : CashTotal
  pub of_it : row.ccy ≡ ccy
  pub is_total : IsCashTotal content row
  pub written : Appends before after (comma_if is_later ++ compact_text (cash_data row))

-- The row of a currency was written, or it was never paid in, and nothing was. Where it broke off, nothing was, but by a
-- writer that failed.
abbrev pub WritesCurrency : Content → Ccy → Bool → Result Bool WalkFault → Option (List ℕ) → Option (List ℕ) → Type 0
WritesCurrency content ccy is_later (Ok now_later) before after =
    (WritesCash content ccy is_later before after × (now_later ≡ true))
    ⊎ ((paid_in (history_of content) ccy ≡ 0) × (now_later ≡ is_later) × (after ≡ before))
WritesCurrency content ccy is_later (Err (walks.Sink sinks.Write)) before after = Unit {0}
WritesCurrency content ccy is_later (Err fault) before after = after ≡ before

-- the row of a security was written
pub record WritesTotal (content : Content) (isin : List ℕ) (is_later : Bool) (before after : Option (List ℕ)) : Type 0 where
  pub row : SecurityTotal
  pub of_it : row.isin ≡ isin
  pub is_total : IsTotal content row
  pub written : Appends before after (comma_if is_later ++ compact_text (security_data row))

-- The row of a security was written. Where it broke off, nothing was, but by a writer that failed.
abbrev pub WritesSecurity : {X : Type 0} → Content → List ℕ → Bool → Result X WalkFault → Option (List ℕ) → Option (List ℕ) → Type 0
WritesSecurity content isin is_later (Ok x) before after = WritesTotal content isin is_later before after
WritesSecurity content isin is_later (Err (walks.Sink sinks.Write)) before after = Unit {0}
WritesSecurity content isin is_later (Err fault) before after = after ≡ before

-- Whether the register is lost after a fault was found by a try: else it shows what it held, with no `begin` open.
pub record Shown (is_lost : Bool) (old new : View) : Type 0 where
  pub shows : is_lost ≡ false → Shows old.content new
  pub later : IsLater old new

-- What a walk leaves of the register, from its end on: unless it is lost, it holds what it held. It is never lost where each
-- call of it went well, and where one failed it is shown that it holds that.
pub record Leaves {X : Type 0} (result : Result X Fault) (is_lost : Bool) (old new : View) : Type 0 where
  pub stage : is_lost ≡ false → new.stage ≡ Idle
  pub same : is_lost ≡ false → new.is_honest → new.content ≡ old.content
  pub ok : OnOk result (is_lost ≡ false)
  pub still_sure : OnOk result (IfTrusted old new new.is_sure)
  pub still_device : OnOk result (StaysSure old new)
  pub shown : OnErr result (is_lost ≡ false → new.is_honest → new.is_sure)
  pub shown_device : OnErr result (is_lost ≡ false → new.device.is_honest → new.device.is_sure)
  pub later : IsLater old new

-- How it ends at an open desk's register that an answer was written: unless the register is lost, it shows what it held.
pub record EndsWriting (result : Result Head ToFault) (old new : View) : Type 0 where
  pub stage : leaves_closed result ≡ false → new.stage ≡ Idle
  pub sure : leaves_closed result ≡ false → new.is_honest → new.is_sure
  pub device : leaves_closed result ≡ false → new.device.is_honest → new.device.is_sure
  pub same : leaves_closed result ≡ false → new.is_honest → new.content ≡ old.content
  pub asked : result ≢ Err Closed
  pub later : IsLater old new
  pub blame : BlamesDevice result old new

-- The answer whose text was written in memory, where a write fails for want of memory alone.
abbrev pub answer_in_memory : Result Head ToFault → List ℕ → Result Reply DeskFault
answer_in_memory (Ok head) text = Ok (reply_with head text)
answer_in_memory (Err WriteFailed) text = Err desk.Memory
answer_in_memory (Err Memory) text = Err desk.Memory
answer_in_memory (Err Storage) text = Err desk.Storage
answer_in_memory (Err Closed) text = Err desk.Closed
answer_in_memory (Err Lost) text = Err desk.Closed
