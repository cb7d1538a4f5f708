-- Which fields read as which message, and else which fault they have.
use Rattle.std.specs.Prelude.{◌≡◌, ◌≢◌, ◌⊎◌, ℕ, ◌<◌, Bool, ◌&&◌, nat_eq, List, [], ◌∷◌, length, codes, Option, Some, None, Result, Ok, Err}
use Rattle.std.specs.List.{filter, list_any, starts_with}
use Rattle.std.specs.Cmp.Lexicographic.{pointwise}
use Rattle.std.specs.Str.{bytes_eq}
use Rattle.desk_text.specs.Fields.{Found}
use Rattle.desk_msg.specs.declared.mt.Mt.{Mt}
use Rattle.desk_msg.specs.declared.reading.function.FunctionCode.{FunctionCode}
use Rattle.desk_msg.specs.declared.reading.function.FunctionCode.TheVariants.{Newm, Canc}
use Rattle.desk_msg.specs.declared.fault.Word.{Word}
use Rattle.desk_msg.specs.declared.fault.Word.TheVariants.{Field23G, Seme, Prev, Date, Field35B, Field36B, Safe, Setr, Pset, Deag, Reag, Field19A}
use Rattle.desk_msg.specs.declared.fault.MsgFault.{MsgFault}
use Rattle.desk_msg.specs.declared.fault.MsgFault.TheVariants.{Missing, Repeated, BadValue, Function}
use Rattle.desk_msg.specs.declared.instruction.Cash.{Cash}
use Rattle.desk_msg.specs.declared.instruction.Instruction.{Instruction}
use Rattle.desk_msg.specs.declared.instruction.CancelOrder.{CancelOrder}
use Rattle.desk_msg.specs.declared.instruction.Message.{Message}
use Rattle.desk_msg.specs.declared.instruction.Message.TheVariants.{New, Cancel}
use Rattle.desk_msg.specs.Profile.{Row, Said, text_said, quantity_said, amount_said, unsaid, function_row, rows_of, Says}

-- the first line of a value
abbrev pub first_value : List (List ℕ) → List ℕ
first_value [] = []
first_value (line ∷ further) = line

-- a field belongs to a row: its tag is one of the row's, its value begins as the row says, and its path is the row's
abbrev pub belongs : List (List ℕ) → List (List ℕ) → List ℕ → Found → Bool
belongs path tags begins field =
    list_any (bytes_eq field.tag) tags && starts_with nat_eq (first_value field.values) begins && pointwise bytes_eq field.path path

-- the fields that belong to a row
abbrev pub belonging : Row → List Found → List Found
belonging row fields = filter (belongs row.path row.tags row.begins) fields

-- exactly one field belongs to the row, and its value says this
pub record Gives (fields : List Found) (row : Row) (said : Said) : Type 0 where
  pub field : Found
  pub only : belonging row fields ≡ field ∷ []
  pub says : Says row field said

-- exactly one field belongs to the row, and its value says nothing
pub record IsBad (fields : List Found) (row : Row) : Type 0 where
  pub field : Found
  pub only : belonging row fields ≡ field ∷ []
  pub none : (said : Said) → Says row field said → ⊥

-- the value of the function is right, and another than NEWM and CANC
pub record IsOtherFunction (fields : List Found) (row : Row) : Type 0 where
  pub function : List ℕ
  pub gives : Gives fields row (text_said function)
  pub other : (function ≢ codes "NEWM") × (function ≢ codes "CANC")

-- How a row fails: no field belongs to it, two or more do, or the value of the one doesn't fit. Of the function's row there is a fourth way.
abbrev pub Fails : List Found → Row → MsgFault → Type 0
Fails fields row (Missing word) = (word ≡ row.word) × (belonging row fields ≡ [])
Fails fields row (Repeated word) = (word ≡ row.word) × (1 < length (belonging row fields))
Fails fields row (BadValue word) = (word ≡ row.word) × IsBad fields row
Fails fields row Function = (row.word ≡ Field23G) × IsOtherFunction fields row

-- the first of the rows that fails, fails so; of a row before it the value says something
abbrev pub FailsFirst : List Found → List Row → MsgFault → Type 0
FailsFirst fields [] fault = ⊥
FailsFirst fields (row ∷ rows) fault = Fails fields row fault ⊎ (((said : Said) × Gives fields row said) × FailsFirst fields rows fault)

abbrev pub code_of_function : FunctionCode → List ℕ
code_of_function Newm = codes "NEWM"
code_of_function Canc = codes "CANC"

-- the amount, if there is one
abbrev pub cash_said : Option Cash → Said
cash_said None = unsaid
cash_said (Some cash) = amount_said cash.ccy cash.amount

-- what an instruction has under each word
abbrev pub instruction_said : Instruction → Word → Said
instruction_said i Field23G = text_said (codes "NEWM")
instruction_said i Seme = text_said i.reference
instruction_said i Date = text_said i.day
instruction_said i Field35B = text_said i.isin
instruction_said i Field36B = quantity_said i.kind i.quantity
instruction_said i Safe = text_said i.account
instruction_said i Setr = text_said i.settlement
instruction_said i Pset = text_said i.place
instruction_said i Deag = text_said i.counterparty
instruction_said i Reag = text_said i.counterparty
instruction_said i Field19A = cash_said i.cash
instruction_said i word = unsaid

-- what a cancellation has under each word
abbrev pub cancellation_said : CancelOrder → Word → Said
cancellation_said c Field23G = text_said (codes "CANC")
cancellation_said c Seme = text_said c.reference
cancellation_said c Prev = text_said c.previous
cancellation_said c word = unsaid

-- each of the rows gives what stands under its word
abbrev pub GiveAll : List Found → List Row → (Word → Said) → Type 0
GiveAll fields [] part = Unit {0}
GiveAll fields (row ∷ rows) part = Gives fields row (part row.word) × GiveAll fields rows part

-- What fields read as, for a type: a message where each row that applies to the type and the function has exactly one field, whose value gives the message's part, and nothing is asked of other fields. Else the fault is that of the first row that fails: that of the function, or after it one of the function's rows.
abbrev pub ReadsFields : Mt → List Found → Result Message MsgFault → Type 0
ReadsFields mt fields (Ok (New i)) = (i.mt ≡ mt) × GiveAll fields (function_row ∷ rows_of mt Newm) (instruction_said i)
ReadsFields mt fields (Ok (Cancel c)) = (c.mt ≡ mt) × GiveAll fields (function_row ∷ rows_of mt Canc) (cancellation_said c)
ReadsFields mt fields (Err fault) =
    Fails fields function_row fault
    ⊎ ((function : FunctionCode) × Gives fields function_row (text_said (code_of_function function)) × FailsFirst fields (rows_of mt function) fault)
