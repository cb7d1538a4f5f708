-- Opposite instructions.
use Rattle.std.specs.Prelude.{◌≡◌, ◌≢◌, ℕ, List}
use Rattle.std.specs.Prelude.{Some}
use Rattle.desk_msg.specs.MessageType.{is_delivery, is_against_payment}
use Rattle.desk_rules.specs.declared.history.entry.Entry.{Entry}
use Rattle.desk_rules.specs.History.{Instructed, instruction_at}

-- One delivers what the other receives: both free or both against payment, the same quantity of the same
-- security on the same day, for the same cash, and each names the other's sender.
pub record AreOpposite (a b : Instructed) : Type 0 where
  pub sides : is_delivery a.instruction.mt ≢ is_delivery b.instruction.mt
  pub payment : is_against_payment a.instruction.mt ≡ is_against_payment b.instruction.mt
  pub isin : a.instruction.isin ≡ b.instruction.isin
  pub quantity : a.instruction.quantity ≡ b.instruction.quantity
  pub kind : a.instruction.kind ≡ b.instruction.kind
  pub day : a.instruction.day ≡ b.instruction.day
  pub cash : a.instruction.cash ≡ b.instruction.cash
  pub names : a.instruction.counterparty ≡ b.sender
  pub is_named : b.instruction.counterparty ≡ a.sender

-- the entries of these numbers are opposite instructions
pub record AreOppositeAt (history : List Entry) (m n : ℕ) : Type 0 where
  pub first : Instructed
  pub second : Instructed
  pub is_first : instruction_at history m ≡ Some first
  pub is_second : instruction_at history n ≡ Some second
  pub opposite : AreOpposite first second
