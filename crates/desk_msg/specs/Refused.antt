-- From the bytes of a text to its message, or to the refusal.
use Rattle.std.specs.Prelude.{ℕ, ◌≤◌, List, ◌++◌, length, codes, Result, Ok, Err}
use Rattle.std.specs.Fmt.{decimal}
use Rattle.desk_text.specs.declared.limits.TheConstants.{LONGEST_TEXT}
use Rattle.desk_text.specs.declared.faults.TextFault.{TextFault}
use Rattle.desk_text.specs.declared.faults.TextFault.TheVariants as texts
use Rattle.desk_text.specs.Fields.{Found, IsBlock}
use Rattle.desk_text.specs.BlockFault.{IsFault}
use Rattle.desk_text.specs.Seen.{MayBeBlock}
use Rattle.desk_msg.specs.declared.mt.Mt.{Mt}
use Rattle.desk_msg.specs.declared.instruction.Message.{Message}
use Rattle.desk_msg.specs.declared.fault.MsgFault.{MsgFault}
use Rattle.desk_msg.specs.declared.fault.MsgFault.TheVariants.{Missing, Repeated, BadValue, Function}
use Rattle.desk_msg.specs.declared.reading.refusal.TextRefusal.{TextRefusal}
use Rattle.desk_msg.specs.declared.reading.refusal.TextRefusal.TheVariants.{NotBlock, BadLine, BadNesting, TooLong, Fields}
use Rattle.desk_msg.specs.declared.reading.refusal.ReadFault.{ReadFault}
use Rattle.desk_msg.specs.declared.reading.refusal.ReadFault.TheVariants.{Refused, Memory}
use Rattle.desk_msg.specs.Words.{letters_of_word}
use Rattle.desk_msg.specs.Reads.{ReadsFields}

-- the text is a block that is not too long, and its fields read so
pub record ReadsBlock (mt : Mt) (text : List ℕ) (read : Result Message MsgFault) : Type 0 where
  pub short : length text ≤ LONGEST_TEXT
  pub fields : List Found
  pub block : IsBlock text fields
  pub reads : ReadsFields mt fields read

-- What a text of a type is: the message that the fields of its block read as, or the one refusal. Memory is wanted only of a text that may be a block.
abbrev pub ReadsText : Mt → List ℕ → Result Message ReadFault → Type 0
ReadsText mt text (Ok message) = ReadsBlock mt text (Ok message)
ReadsText mt text (Err (Refused NotBlock)) = IsFault text texts.NotBlock
ReadsText mt text (Err (Refused (BadLine line))) = IsFault text (texts.BadLine line)
ReadsText mt text (Err (Refused (BadNesting line))) = IsFault text (texts.BadNesting line)
ReadsText mt text (Err (Refused TooLong)) = IsFault text texts.TooLong
ReadsText mt text (Err (Refused (Fields fault))) = ReadsBlock mt text (Err fault)
ReadsText mt text (Err Memory) = MayBeBlock text

abbrev pub fault_of_text : TextFault → ReadFault
fault_of_text texts.NotBlock = Refused NotBlock
fault_of_text (texts.BadLine line) = Refused (BadLine line)
fault_of_text (texts.BadNesting line) = Refused (BadNesting line)
fault_of_text texts.TooLong = Refused TooLong
fault_of_text texts.Memory = Memory

abbrev pub fault_of_fields : MsgFault → ReadFault
fault_of_fields fault = Refused (Fields fault)

-- a refusal's text
abbrev pub refusal_line : TextRefusal → List ℕ
refusal_line NotBlock = codes "refused 1"
refusal_line (BadLine line) = codes "refused 2 " ++ decimal line
refusal_line (BadNesting line) = codes "refused 3 " ++ decimal line
refusal_line TooLong = codes "refused 4"
refusal_line (Fields (Missing word)) = codes "refused 5 " ++ letters_of_word word
refusal_line (Fields (Repeated word)) = codes "refused 6 " ++ letters_of_word word
refusal_line (Fields (BadValue word)) = codes "refused 7 " ++ letters_of_word word
refusal_line (Fields Function) = codes "refused 8"
