-- A text that a reader gives, told.
use Rattle.std.proofs.Common.{◌≡◌, ◌≤◌, ℕ, Bool, List, length, Option, Some, None, Result, Ok, Err, sym, subst}
use Rattle.std.specs.Prelude.{IfOk, IfSome}
use Rattle.desk_text.specs.Seen.{MayBeBlock}
use Rattle.desk_text.specs.declared.limits.TheConstants.{LONGEST_TEXT}
use Rattle.desk_msg.specs.declared.mt.Mt.{Mt}
use Rattle.desk_msg.specs.declared.instruction.Message.{Message}
use Rattle.desk_msg.specs.declared.reading.refusal.ReadFault.TheVariants.{Refused}
use Rattle.desk_msg.specs.declared.reading.refusal.TextRefusal.{TextRefusal}
use Rattle.desk_msg.specs.Refused.{ReadsText}
use Rattle.desk.specs.ReadAnswer.{IsReadAnswer, IsRefusalTold, IsTextAnswer, told_refusal, told_text}
use Rattle.desk.specs.declared.status.Status.{Status}

-- what came is the text
pub text_told : {E : Type 0} (r : Result Status E) (mt : Mt) (given : Option (List ℕ)) (U : Type 0) (reads : Bool) (text : List ℕ) (P : List ℕ → Type 0) → IfSome given (λ input. text ≡ input) → length text ≤ LONGEST_TEXT → IfOk r (λ status. IsTextAnswer mt text status P)
    → IfOk r (λ status. IsReadAnswer mt given U reads status P)
text_told (Ok status) mt None U reads text P same short told = told_text text tt short told
text_told (Ok status) mt (Some input) U reads text P same short told = told_text text (sym same) short told
text_told (Err e) mt given U reads text P same short told = told

-- a message's text is a block
pub message_may_be : (mt : Mt) (text : List ℕ) (message : Message) → ReadsText mt text (Ok message) → MayBeBlock text
message_may_be mt text message reads = record { short = reads.short; further = _; lines = reads.block.tree.are }

-- the one refusal of a text, told
pub refusal_told : {E : Type 0} (r : Result Status E) (mt : Mt) (text : List ℕ) (one other : TextRefusal) (P : List ℕ → Type 0) → one ≡ other → IfOk r (λ status. IsRefusalTold one status P) → ReadsText mt text (Err (Refused other))
    → IfOk r (λ status. IsTextAnswer mt text status P)
refusal_told (Ok status) mt text one other P same told reads = let Q : TextRefusal → Type 0 = λ refusal. IsRefusalTold refusal status P in told_refusal other reads (subst Q same told)
refusal_told (Err e) mt text one other P same told reads = told
