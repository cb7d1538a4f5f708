-- What is found among the fields that the code holds. Only private contracts speak of it.
use Rattle.std.specs.Prelude.{◌≡◌, ℕ, ◌<◌, true, false, List, [], ◌∷◌, length, map, Option, Some, None, is_some, codes, Result, Ok, Err}
use Rattle.std.specs.Borrow.{Bor}
use Rattle.std.specs.List.{filter}
use Rattle.desk_text.specs.declared.fields.Field.{Field}
use Rattle.desk_text.specs.Fields.{Found}
use Rattle.desk_text.specs.Seen.{texts, found_of}
use Rattle.desk_msg.specs.declared.fault.Word.{Word}
use Rattle.desk_msg.specs.declared.fault.MsgFault.{MsgFault}
use Rattle.desk_msg.specs.declared.fault.MsgFault.TheVariants.{Missing, Repeated}
use Rattle.desk_codes.specs.declared.currency.Ccy.{Ccy}
use Rattle.desk_msg.specs.declared.instruction.Kind.{Kind}
use Rattle.desk_msg.specs.declared.instruction.Cash.{Cash}
use Rattle.desk_msg.specs.declared.instruction.Instruction.{Instruction}
use Rattle.desk_msg.specs.declared.instruction.CancelOrder.{CancelOrder}
use Rattle.desk_msg.specs.declared.mt.Mt.{Mt}
use Rattle.desk_msg.specs.declared.reading.function.FunctionCode.TheVariants.{Newm, Canc}
use Rattle.desk_msg.specs.MessageType.{is_against_payment}
use Rattle.desk_msg.specs.declared.reading.profile.Row.{Row as TableRow}
use Rattle.desk_msg.specs.Profile.{Row, Form, Said, text_said, amount_said, function_row, rows_of}
use Rattle.desk_msg.specs.declared.reading.confirmed.Confirmed.{Confirmed}
use Rattle.desk_msg.specs.Confirms.{confirmation_rows, confirmation_said, FailsConfirming}
use Rattle.desk_msg.specs.Reads.{belongs, Gives, Fails, FailsFirst, GiveAll, instruction_said, cancellation_said}

-- the fields without where they lie in memory
abbrev pub found_all : List Field → List Found
found_all fields = map found_of fields

-- a row of the code's tables as the definitions see it; the form is that of the value that is read by it
abbrev pub row_seen : Form → TableRow → Row
row_seen form row = record { word = row.word; path = texts row.path.now; tags = texts row.tags.now; begins = row.begins.now; form = form }

-- those of the fields that belong to a row
abbrev pub found_among : TableRow → List Field → List Found
found_among row fields = filter (belongs (texts row.path.now) (texts row.tags.now) row.begins.now) (found_all fields)

-- the one field of a list; else the fault: it is missing, or it is repeated
abbrev pub IsOne : Word → List Found → Result (Bor Field) MsgFault → Type 0
IsOne word found (Ok field) = found ≡ found_of field.now ∷ []
IsOne word found (Err (Missing w)) = (w ≡ word) × (found ≡ [])
IsOne word found (Err (Repeated w)) = (w ≡ word) × (1 < length found)
IsOne word found (Err fault) = ⊥

-- what reading a row gives: what its value says, or how it fails
abbrev pub ReadsRow : {X : Type 0} → List Found → Row → (X → Said) → Result X MsgFault → Type 0
ReadsRow fields row said (Ok x) = Gives fields row (said x)
ReadsRow fields row said (Err fault) = Fails fields row fault

-- the text that a slice holds
abbrev pub text_in : Bor (List ℕ) → List ℕ
text_in slice = slice.now

-- how a security is counted, and the number
abbrev pub kinded : Kind × Bor (List ℕ) → Kind × List ℕ
kinded found = (found.0, found.1.now)

abbrev pub quantity_itself : Kind × ℕ → Kind × ℕ
quantity_itself quantity = quantity

abbrev pub amount_of_cash : Cash → Ccy × ℕ
amount_of_cash cash = (cash.ccy, cash.amount)

-- the amount that a row has, against payment; free of payment there is none, and nothing is looked for
abbrev pub ReadsPayment : Mt → List Found → Row → Result (Option Cash) MsgFault → Type 0
ReadsPayment mt fields row (Ok (Some cash)) = (is_against_payment mt ≡ true) × Gives fields row (amount_said cash.ccy cash.amount)
ReadsPayment mt fields row (Ok None) = is_against_payment mt ≡ false
ReadsPayment mt fields row (Err fault) = (is_against_payment mt ≡ true) × Fails fields row fault

-- the rows behind the function that a new instruction has, and those that a cancellation has
abbrev pub ReadsInstruction : Mt → List Found → Result Instruction MsgFault → Type 0
ReadsInstruction mt fields (Ok i) = (i.mt ≡ mt) × GiveAll fields (rows_of mt Newm) (instruction_said i)
ReadsInstruction mt fields (Err fault) = FailsFirst fields (rows_of mt Newm) fault

abbrev pub ReadsCancellation : Mt → List Found → Result CancelOrder MsgFault → Type 0
ReadsCancellation mt fields (Ok c) = (c.mt ≡ mt) × GiveAll fields (rows_of mt Canc) (cancellation_said c)
ReadsCancellation mt fields (Err fault) = FailsFirst fields (rows_of mt Canc) fault

-- the function of a confirmation, and the rows behind it
abbrev pub ReadsNew : List Found → Result Unit MsgFault → Type 0
ReadsNew fields (Ok done) = Gives fields function_row (text_said (codes "NEWM"))
ReadsNew fields (Err fault) = FailsConfirming fields fault

abbrev pub ReadsSettlement : Mt → List Found → Result Confirmed MsgFault → Type 0
ReadsSettlement mt fields (Ok c) = (is_some c.cash ≡ is_against_payment mt) × GiveAll fields (confirmation_rows mt) (confirmation_said c)
ReadsSettlement mt fields (Err fault) = FailsFirst fields (confirmation_rows mt) fault
