-- What `desk read` answers.
use Rattle.std.specs.Prelude.{◌≡◌, ℕ, ◌<◌, ◌≤◌, Bool, true, List, ◌++◌, length, Option, IfSome, Ok, Err, codes}
use Rattle.desk_text.specs.Seen.{MayBeBlock}
use Rattle.desk_text.specs.declared.limits.TheConstants.{LONGEST_TEXT}
use Rattle.desk_msg.specs.declared.mt.Mt.{Mt}
use Rattle.desk_msg.specs.declared.instruction.Message.{Message}
use Rattle.desk_msg.specs.declared.reading.refusal.TextRefusal.{TextRefusal}
use Rattle.desk_msg.specs.declared.reading.refusal.TextRefusal.TheVariants.{TooLong}
use Rattle.desk_msg.specs.declared.reading.refusal.ReadFault.TheVariants.{Refused}
use Rattle.desk_msg.specs.Refused.{ReadsText, refusal_line}
use Rattle.desk_msg.specs.FieldsText.{message_text}
use Rattle.desk.specs.Input.{Came}
use Rattle.desk.specs.Status.{IsFailureTold}
use Rattle.desk.specs.declared.status.Failure.TheVariants.{Memory, Input}
use Rattle.desk.specs.declared.status.Status.{Status}
use Rattle.desk.specs.declared.status.Status.TheVariants as exit

-- a refusal was told, as refused
abbrev pub IsRefusalTold : TextRefusal → Status → (List ℕ → Type 0) → Type 0
IsRefusalTold refusal status IsPrinted = (status ≡ exit.Refused) × IsPrinted (refusal_line refusal ++ codes "\n")

-- What was told of a text for a type: what the message says, with the status done; the one refusal; or want of memory,
-- which no text is told that is too long or begins otherwise than a block. Each line is ended by a line feed.
pub data IsTextAnswer (mt : Mt) (text : List ℕ) (status : Status) (IsPrinted : List ℕ → Type 0) : Type 0 where
  told_fields : (message : Message) → ReadsText mt text (Ok message) → status ≡ exit.Done → IsPrinted (message_text message ++ codes "\n") → IsTextAnswer mt text status IsPrinted
  told_refusal : (refusal : TextRefusal) → ReadsText mt text (Err (Refused refusal)) → IsRefusalTold refusal status IsPrinted → IsTextAnswer mt text status IsPrinted
  told_memory : MayBeBlock text → IsFailureTold Memory status IsPrinted → IsTextAnswer mt text status IsPrinted

-- What was told of what a reader gives: the answer of the text that came; that it is too long; want of memory, where
-- nothing was read; or the reader's failure, where it may fail.
pub data IsReadAnswer (mt : Mt) (given : Option (List ℕ)) (IsUnread : Type 0) (may_fail : Bool) (status : Status) (IsPrinted : List ℕ → Type 0) : Type 0 where
  told_text : (text : List ℕ) → Came given text → length text ≤ LONGEST_TEXT → IsTextAnswer mt text status IsPrinted → IsReadAnswer mt given IsUnread may_fail status IsPrinted
  told_long : IfSome given (λ input. LONGEST_TEXT < length input) → IsRefusalTold TooLong status IsPrinted → IsReadAnswer mt given IsUnread may_fail status IsPrinted
  told_no_room : IsUnread → IsFailureTold Memory status IsPrinted → IsReadAnswer mt given IsUnread may_fail status IsPrinted
  told_input : may_fail ≡ true → IsFailureTold Input status IsPrinted → IsReadAnswer mt given IsUnread may_fail status IsPrinted
