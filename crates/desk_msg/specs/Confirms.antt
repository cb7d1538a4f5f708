-- What a confirmation says of a settlement.
use Rattle.std.specs.Prelude.{◌≡◌, ◌≢◌, ◌⊎◌, ℕ, List, [], ◌∷◌, codes, if◌then◌else◌, Option, Some, None, is_some, Result, Ok, Err}
use Rattle.desk_codes.specs.declared.currency.Ccy.{Ccy}
use Rattle.desk_text.specs.Fields.{Found}
use Rattle.desk_msg.specs.declared.mt.Mt.{Mt}
use Rattle.desk_msg.specs.declared.fault.Word.{Word}
use Rattle.desk_msg.specs.declared.fault.Word.TheVariants.{Field23G, Field35B, Field36B, Safe, Field19A, Rela, Eset}
use Rattle.desk_msg.specs.declared.fault.MsgFault.{MsgFault}
use Rattle.desk_msg.specs.declared.fault.MsgFault.TheVariants.{Function}
use Rattle.desk_msg.specs.declared.instruction.Cash.{Cash}
use Rattle.desk_msg.specs.declared.instruction.Instruction.{Instruction}
use Rattle.desk_msg.specs.MessageType.{is_against_payment}
use Rattle.desk_msg.specs.Profile.{Row, row, within, within_two, reference_form, day_form, quantity_form, amount_form, function_row, security_row, safe_row, Said, text_said, quantity_said, amount_said, unsaid}
use Rattle.desk_msg.specs.Reads.{Gives, Fails, FailsFirst, GiveAll}
use Rattle.desk_msg.specs.declared.reading.confirmed.Confirmed.{Confirmed}

abbrev pub paid_by : Option Cash → Option (Ccy × ℕ)
paid_by None = None
paid_by (Some cash) = Some (cash.ccy, cash.amount)

-- what is confirmed of an instruction that was settled on that day
abbrev pub confirmed_of : Instruction → List ℕ → Confirmed
confirmed_of i day =
    record { related = i.reference; day = day; isin = i.isin; kind = i.kind; quantity = i.quantity; account = i.account; cash = paid_by i.cash }

abbrev pub rela_row : Row
rela_row = row Rela (within_two (codes "GENL") (codes "LINK")) (codes "20C" ∷ []) (codes ":RELA/") reference_form

abbrev pub eset_row : Row
eset_row = row Eset (within (codes "TRADDET")) (codes "98A" ∷ []) (codes ":ESET/") day_form

abbrev pub settled_row : Row
settled_row = row Field36B (within (codes "FIAC")) (codes "36B" ∷ []) (codes ":ESTT/") quantity_form

abbrev pub paid_row : Row
paid_row = row Field19A (within_two (codes "SETDET") (codes "AMT")) (codes "19A" ∷ []) (codes ":ESTT/") amount_form

-- The rows behind the function that a confirmation of a type has, in the order in which they are looked for.
abbrev pub confirmation_rows : Mt → List Row
confirmation_rows mt = rela_row ∷ eset_row ∷ security_row ∷ settled_row ∷ safe_row ∷ (if is_against_payment mt then paid_row ∷ [] else [])

abbrev pub paid_said : Option (Ccy × ℕ) → Said
paid_said None = unsaid
paid_said (Some cash) = amount_said cash.0 cash.1

-- what was settled has under each word
abbrev pub confirmation_said : Confirmed → Word → Said
confirmation_said c Field23G = text_said (codes "NEWM")
confirmation_said c Rela = text_said c.related
confirmation_said c Eset = text_said c.day
confirmation_said c Field35B = text_said c.isin
confirmation_said c Field36B = quantity_said c.kind c.quantity
confirmation_said c Safe = text_said c.account
confirmation_said c Field19A = paid_said c.cash
confirmation_said c word = unsaid

-- how the function of a confirmation fails: as a row does, or it is another than NEWM
abbrev pub FailsConfirming : List Found → MsgFault → Type 0
FailsConfirming fields Function = (function : List ℕ) × Gives fields function_row (text_said function) × (function ≢ codes "NEWM")
FailsConfirming fields fault = Fails fields function_row fault

-- What fields of a confirmation's type say: what was settled, where each row has exactly one field whose value gives the part, and nothing is asked of other fields. Free of payment there is no amount. Else the fault is that of the first row that fails.
abbrev pub Confirms : Mt → List Found → Result Confirmed MsgFault → Type 0
Confirms mt fields (Ok c) = (is_some c.cash ≡ is_against_payment mt) × GiveAll fields (function_row ∷ confirmation_rows mt) (confirmation_said c)
Confirms mt fields (Err fault) = FailsConfirming fields fault ⊎ (Gives fields function_row (text_said (codes "NEWM")) × FailsFirst fields (confirmation_rows mt) fault)
