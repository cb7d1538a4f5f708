-- The lines in which sequences were opened, line by line.
use Rattle.std.proofs.Common.{◌≡◌, ℕ, ◌+◌, ◌-◌, ◌<◌, ◌≤◌, suc, List, [], ◌∷◌, ◌++◌, length, take, codes, sym, ap, subst, ◌∙◌, arith, Option, Some, None, Result, Ok, Err}
use Rattle.desk_text.specs.declared.limits.TheConstants.{LONGEST_TEXT}
use Rattle.desk_text.specs.declared.faults.TextFault.TheVariants.{BadNesting}
use Rattle.desk_text.specs.BlockFault.{IsFault}
use Rattle.desk_text.specs.Fields.{Found, IsBlock}
use Rattle.desk_text.specs.Lines.{lines_of}
use Rattle.desk_text.specs.Seen.{MayBeBlock, Reads}
use Rattle.desk_text.specs.declared.faults.TextFault.{TextFault}
use Rattle.desk_msg.specs.declared.mt.Mt.{Mt}
use Rattle.desk_msg.specs.declared.instruction.Message.{Message}
use Rattle.desk_msg.specs.declared.fault.MsgFault.{MsgFault}
use Rattle.desk_msg.specs.Reads.{ReadsFields}
use Rattle.desk_msg.specs.declared.reading.refusal.ReadFault.TheVariants.{Refused}
use Rattle.desk_msg.specs.declared.reading.refusal.TextRefusal.{TextRefusal}
use Rattle.desk_msg.specs.Refused.{ReadsText}
use Rattle.desk_reasons.specs.declared.told.Told.{Told}
use Rattle.desk_reasons.specs.Told.{TellsRefusal, TellsText, TellsBlock, TellsRead}
use Rattle.desk_reasons.specs.BlockFaults.{opened_by, opened_from}

pub opened_step : (number at : ℕ) (begun begun' : List ℕ) (lines rest : List (List ℕ)) (line all : List ℕ) → at < number → lines ≡ line ∷ rest → begun' ≡ opened_by at line begun
    → opened_from at begun (take (number - at) lines) ≡ all → opened_from (at + 1) begun' (take (number - (at + 1)) rest) ≡ all
opened_step number at begun begun' lines rest line all below is step before =
    let one_less : number - at ≡ suc (number - (at + 1)) = omega arith in
    ap (λ b. opened_from (at + 1) b (take (number - (at + 1)) rest)) step
    ∙ sym (ap (λ z. opened_from at begun (take (number - at) z)) is ∙ ap (λ k. opened_from at begun (take k (line ∷ rest))) one_less)
    ∙ before

one_more : (lines more rest : List (List ℕ)) (first : List ℕ) → 1 ≤ length lines → take 1 lines ++ more ≡ first ∷ rest → (further : List (List ℕ)) × (lines ≡ first ∷ further)
one_more [] more rest first some is = absurd (omega arith)
one_more (line ∷ lines) more rest first some is = let same : line ≡ first = cc in (lines, ap (λ l. l ∷ lines) same)

misnested_begins : (text : List ℕ) (number : ℕ) → IsFault text (BadNesting number) → MayBeBlock text
misnested_begins text number fault =
    let begins = fault.2.least 1 fault.1 in
    let within : 1 ≤ length (lines_of text) = let a = fault.2.within in let b = fault.1 in omega arith in
    let first = one_more (lines_of text) begins.more _ (codes "{4:") within begins.tree.are in
    record { short = fault.0; further = first.0; lines = first.1 }

-- a text with a misnested line begins with `{4:`
pub misnested_may_be : (text : List ℕ) (number : ℕ) (fault : TextFault) → fault ≡ BadNesting number → Reads text (Err fault) → MayBeBlock text
misnested_may_be text number fault is reads =
    let P : TextFault → Type 0 = λ f. Reads text (Err f) in misnested_begins text number (subst P is reads)

told_by : (mt : Mt) (text : List ℕ) (fields : List Found) (read : Result Message MsgFault) (told : Option Told) → length text ≤ LONGEST_TEXT → IsBlock text fields
    → ReadsFields mt fields read → TellsRead fields read told → TellsText mt text (Ok told)
told_by mt text fields (Ok message) told short block reads tells =
    let P : Option Told → Type 0 = λ t. TellsText mt text (Ok t) in
    subst P (sym tells) (message, record { short = short; fields = fields; block = block; reads = reads })
told_by mt text fields (Err fault) (Some told) short block reads tells =
    let P : TextRefusal → Type 0 = λ refusal. ReadsText mt text (Err (Refused refusal)) × TellsRefusal text refusal told.line told.reason in
    subst P (sym tells.0) (record { short = short; fields = fields; block = block; reads = reads }, (fields, block, tells.1))
told_by mt text fields (Err fault) None short block reads tells = absurd tells

-- what is told of the fields of a block is told of its text
pub block_told : (mt : Mt) (text : List ℕ) (fields : List Found) (told : Option Told) → length text ≤ LONGEST_TEXT → IsBlock text fields → TellsBlock mt fields told → TellsText mt text (Ok told)
block_told mt text fields told short block tells = told_by mt text fields tells.read told short block tells.reads tells.tells
