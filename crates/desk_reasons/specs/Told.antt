-- What is told of a text that is refused as a message.
use Rattle.std.specs.Prelude.{◌≡◌, ℕ, List, Option, Some, None, Result, Ok, Err}
use Rattle.std.specs.declared.alloc.AllocError.{AllocError}
use Rattle.desk_text.specs.Fields.{Found, IsBlock}
use Rattle.desk_text.specs.Seen.{MayBeBlock}
use Rattle.desk_msg.specs.declared.mt.Mt.{Mt}
use Rattle.desk_msg.specs.declared.instruction.Message.{Message}
use Rattle.desk_msg.specs.declared.fault.MsgFault.{MsgFault}
use Rattle.desk_msg.specs.declared.reading.refusal.ReadFault.TheVariants.{Refused}
use Rattle.desk_msg.specs.declared.reading.refusal.TextRefusal.{TextRefusal}
use Rattle.desk_msg.specs.declared.reading.refusal.TextRefusal.TheVariants as refusals
use Rattle.desk_msg.specs.Reads.{ReadsFields}
use Rattle.desk_msg.specs.Refused.{ReadsText}
use Rattle.desk_reasons.specs.declared.reasons.Reason.{Reason}
use Rattle.desk_reasons.specs.declared.reasons.Reason.TheVariants.{Block, Line, Nesting, TooLong}
use Rattle.desk_reasons.specs.declared.told.Told.{Told}
use Rattle.desk_reasons.specs.BlockFaults.{block_reason, block_line, line_at, line_reason, opened_before, nesting_reason}
use Rattle.desk_reasons.specs.FieldFaults.{TellsFields, FailsSo}

-- What is told of a text by its refusal: in which line the fault stands, and why.
abbrev pub TellsRefusal : List ℕ → TextRefusal → ℕ → Reason → Type 0
TellsRefusal text refusals.NotBlock line (Block reason) = (reason ≡ block_reason text) × (line ≡ block_line reason text)
TellsRefusal text (refusals.BadLine number) line (Line reason) = (line ≡ number) × (reason ≡ line_reason (line_at number text))
TellsRefusal text (refusals.BadNesting number) line (Nesting reason) =
    (line ≡ number) × (reason ≡ nesting_reason (line_at number text) (opened_before number text))
TellsRefusal text refusals.TooLong line TooLong = line ≡ 1
TellsRefusal text (refusals.Fields fault) line reason = (fields : List Found) × IsBlock text fields × TellsFields fields fault line reason
TellsRefusal text refusal line reason = ⊥

-- A reason is told exactly where the text is refused, with the answer that it is refused with. Memory is wanted only of a text that may be a block.
abbrev pub TellsText : Mt → List ℕ → Result (Option Told) AllocError → Type 0
TellsText mt text (Ok None) = (message : Message) × ReadsText mt text (Ok message)
TellsText mt text (Ok (Some told)) = ReadsText mt text (Err (Refused told.refusal)) × TellsRefusal text told.refusal told.line told.reason
TellsText mt text (Err fault) = MayBeBlock text

-- What is told of the fields of a block by what they read as: nothing of a message. Only private contracts speak of it.
abbrev pub TellsRead : List Found → Result Message MsgFault → Option Told → Type 0
TellsRead fields (Ok message) told = told ≡ None
TellsRead fields (Err fault) (Some told) = (told.refusal ≡ refusals.Fields fault) × TellsFields fields fault told.line told.reason
TellsRead fields (Err fault) None = ⊥

abbrev pub FailsRead : List Found → Result Message MsgFault → Type 0
FailsRead fields (Ok message) = Unit {0}
FailsRead fields (Err fault) = FailsSo fields fault

-- what is told of the fields of a block
pub record TellsBlock (mt : Mt) (fields : List Found) (told : Option Told) : Type 0 where
  pub read : Result Message MsgFault
  pub reads : ReadsFields mt fields read
  pub tells : TellsRead fields read told
