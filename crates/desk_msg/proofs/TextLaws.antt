-- A text reads as one message or has one refusal.
use Rattle.std.proofs.Common.{◌≡◌, ◌⊎◌, inl, inr, ℕ, List, refl, sym, ◌∙◌, ap, subst}
use Rattle.std.specs.Prelude.{Result, Ok, Err}
use Rattle.desk_text.proofs.LawLemmas.{one-fields, one-fault, block-no_fault}
use Rattle.desk_text.specs.BlockFault.{IsFault}
use Rattle.desk_text.specs.Fields.{Found}
use Rattle.desk_text.specs.declared.faults.TextFault.{TextFault}
use Rattle.desk_text.specs.declared.faults.TextFault.TheVariants as texts
use Rattle.desk_msg.specs.declared.fault.MsgFault.{MsgFault}
use Rattle.desk_msg.specs.declared.instruction.Message.{Message}
use Rattle.desk_msg.specs.declared.mt.Mt.{Mt}
use Rattle.desk_msg.specs.declared.reading.refusal.TextRefusal.{TextRefusal}
use Rattle.desk_msg.specs.declared.reading.refusal.TextRefusal.TheVariants.{NotBlock, BadLine, BadNesting, TooLong, Fields}
use Rattle.desk_msg.specs.declared.reading.refusal.ReadFault.TheVariants.{Refused}
use Rattle.desk_msg.specs.Reads.{ReadsFields}
use Rattle.desk_msg.specs.Refused.{ReadsBlock, ReadsText}
use Rattle.desk_msg.proofs.MessageLaws.{one_reading}

-- what a block reads as

one_block : (mt : Mt) (text : List ℕ) (a b : Result Message MsgFault) → ReadsBlock mt text a → ReadsBlock mt text b → a ≡ b
one_block mt text a b x y =
    let P : List Found → Type 0 = λ fields. ReadsFields mt fields b in
    one_reading mt x.fields a b x.reads (subst P (one-fields text y.fields x.fields y.block x.block) y.reads)

-- the fault of a text that is no block, and back

abbrev fault_of : TextRefusal → TextFault
fault_of NotBlock = texts.NotBlock
fault_of (BadLine line) = texts.BadLine line
fault_of (BadNesting line) = texts.BadNesting line
fault_of TooLong = texts.TooLong
fault_of (Fields fault) = texts.Memory

abbrev refusal_of : TextFault → TextRefusal
refusal_of texts.NotBlock = NotBlock
refusal_of (texts.BadLine line) = BadLine line
refusal_of (texts.BadNesting line) = BadNesting line
refusal_of texts.TooLong = TooLong
refusal_of texts.Memory = NotBlock

abbrev IsOfFields : Mt → List ℕ → TextRefusal → Type 0
IsOfFields mt text refusal = (fault : MsgFault) × (refusal ≡ Fields fault) × ReadsBlock mt text (Err fault)

abbrev IsOfText : List ℕ → TextRefusal → Type 0
IsOfText text refusal = IsFault text (fault_of refusal) × (refusal_of (fault_of refusal) ≡ refusal)

kinds : (mt : Mt) (text : List ℕ) (refusal : TextRefusal) → ReadsText mt text (Err (Refused refusal)) → IsOfFields mt text refusal ⊎ IsOfText text refusal
kinds mt text NotBlock is = inr (is, refl)
kinds mt text (BadLine line) is = inr (is, refl)
kinds mt text (BadNesting line) is = inr (is, refl)
kinds mt text TooLong is = inr (is, refl)
kinds mt text (Fields fault) is = inl (fault, refl, is)

pub one_refusal : (mt : Mt) (text : List ℕ) (a b : TextRefusal) → ReadsText mt text (Err (Refused a)) → ReadsText mt text (Err (Refused b)) → a ≡ b
one_refusal mt text a b x y = elim (kinds mt text a x) [
  | inl p ↦ elim (kinds mt text b y) [
    | inl q ↦ let same = one_block mt text (Err p.0) (Err q.0) p.2 q.2 in let e : p.0 ≡ q.0 = cc in p.1 ∙ ap Fields e ∙ sym q.1
    | inr q ↦ absurd (block-no_fault text p.2.fields (fault_of b) p.2.short p.2.block q.0)
  ]
  | inr p ↦ elim (kinds mt text b y) [
    | inl q ↦ absurd (block-no_fault text q.2.fields (fault_of a) q.2.short q.2.block p.0)
    | inr q ↦ sym p.1 ∙ ap refusal_of (one-fault text (fault_of a) (fault_of b) p.0 q.0) ∙ q.1
  ]
]

pub one_message_of_text : (mt : Mt) (text : List ℕ) (a b : Message) → ReadsText mt text (Ok a) → ReadsText mt text (Ok b) → a ≡ b
one_message_of_text mt text a b x y = let same = one_block mt text (Ok a) (Ok b) x y in cc

pub message_not_refusal : (mt : Mt) (text : List ℕ) (a : Message) (b : TextRefusal) → ReadsText mt text (Ok a) → ReadsText mt text (Err (Refused b)) → ⊥
message_not_refusal mt text a b x y = elim (kinds mt text b y) [
  | inl q ↦ let same = one_block mt text (Ok a) (Err q.0) x q.2 in cc
  | inr q ↦ block-no_fault text x.fields (fault_of b) x.short x.block q.0
]
