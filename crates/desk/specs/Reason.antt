-- Of which requests a script's reader, or the desk's, tells why they cannot be read.
use Rattle.std.specs.Prelude.{◌≡◌, ℕ, List, Err}
use Rattle.desk_book.specs.Asked.{Asked, mt_of}
use Rattle.desk_book.specs.Command.{SpellsCommand}
use Rattle.desk_book.specs.Lines.{script_lines}
use Rattle.desk_book.specs.Script.{BeginsWith, ask, bad_line}
use Rattle.desk_book.specs.declared.requests.question.Question.TheVariants.{Message, Operator}
use Rattle.desk_book.specs.declared.requests.question.InstructionType.{InstructionType}
use Rattle.desk_msg.specs.declared.mt.Mt.{Mt}
use Rattle.desk_msg.specs.declared.reading.refusal.ReadFault.TheVariants.{Refused}
use Rattle.desk_msg.specs.declared.reading.refusal.TextRefusal.{TextRefusal}
use Rattle.desk_msg.specs.Refused.{ReadsText}
use Rattle.desk_rules.specs.declared.history.entry.Entry.{Entry}

-- the text spells no command
abbrev pub IsNoCommand : List ℕ → Type 0
IsNoCommand text = (entry : Entry) → ¬ SpellsCommand text entry

-- the text is refused as a message of the type
abbrev pub IsNoMessage : Mt → List ℕ → Type 0
IsNoMessage mt text = (refusal : TextRefusal) × ReadsText mt text (Err (Refused refusal))

-- the script begins with what is no request
abbrev pub IsBadLine : List ℕ → Type 0
IsBadLine script = (rest : List ℕ) × BeginsWith (script_lines script) bad_line rest

-- the script begins with what is no request, asks an operator's command that is none, or sends a message that is none
pub data IsUnread (script : List ℕ) : Type 0 where
  bad : IsBadLine script → IsUnread script
  command : (a : Asked) (rest : List ℕ) → BeginsWith (script_lines script) (ask a) rest → a.question ≡ Operator → IsNoCommand a.text → IsUnread script
  message : (a : Asked) (rest sender : List ℕ) (kind : InstructionType) → BeginsWith (script_lines script) (ask a) rest → a.question ≡ Message sender kind → IsNoMessage (mt_of kind) a.text → IsUnread script
