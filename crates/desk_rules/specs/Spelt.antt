-- Entries whose texts are codes as the desk spells them.
use Rattle.desk_codes.specs.Account.{IsAccount}
use Rattle.desk_codes.specs.Bic.{IsBic}
use Rattle.desk_codes.specs.CheckDigit.{IsIsin}
use Rattle.desk_codes.specs.Day.{IsDay}
use Rattle.desk_codes.specs.Reference.{IsReference}
use Rattle.desk_msg.specs.Profile.{IsCode}
use Rattle.desk_msg.specs.declared.instruction.Instruction.{Instruction}
use Rattle.desk_rules.specs.declared.history.entry.Movement.{Movement}
use Rattle.desk_rules.specs.declared.history.entry.Payment.{Payment}
use Rattle.desk_rules.specs.declared.history.entry.Entry.{Entry}
use Rattle.desk_rules.specs.declared.history.entry.Entry.TheVariants.{Participant, Account, Security, Issue, Redeem, PayIn, PayOut, Instruct, Cancel, Run}

pub record IsMovementSpelt (movement : Movement) : Type 0 where
  pub reference : IsReference movement.reference
  pub account : IsAccount movement.account
  pub isin : IsIsin movement.isin

pub record IsPaymentSpelt (payment : Payment) : Type 0 where
  pub reference : IsReference payment.reference
  pub bic : IsBic payment.bic

pub record IsInstructionSpelt (instruction : Instruction) : Type 0 where
  pub reference : IsReference instruction.reference
  pub day : IsDay instruction.day
  pub isin : IsIsin instruction.isin
  pub account : IsAccount instruction.account
  pub settlement : IsCode 4 instruction.settlement
  pub counterparty : IsBic instruction.counterparty
  pub place : IsBic instruction.place

abbrev pub IsSpelt : Entry → Type 0
IsSpelt (Participant reference bic) = IsReference reference × IsBic bic
IsSpelt (Account reference bic account) = IsReference reference × IsBic bic × IsAccount account
IsSpelt (Security reference isin kind) = IsReference reference × IsIsin isin
IsSpelt (Issue movement) = IsMovementSpelt movement
IsSpelt (Redeem movement) = IsMovementSpelt movement
IsSpelt (PayIn payment) = IsPaymentSpelt payment
IsSpelt (PayOut payment) = IsPaymentSpelt payment
IsSpelt (Instruct sender instruction) = IsBic sender × IsInstructionSpelt instruction
IsSpelt (Cancel sender order) = IsBic sender × IsReference order.reference × IsReference order.previous
IsSpelt (Run reference day rule) = IsReference reference × IsDay day
