-- What the parts of a message that was read keep.
use Rattle.std.proofs.Common.{◌≡◌, ◌<◌, ◌≤◌, ◌^◌, ℕ, List, length, sym, Option, Some, None, Ok, is_some, arith}
use Rattle.desk_codes.specs.Number.{written_number}
use Rattle.desk_text.specs.Fields.{Found}
use Rattle.desk_msg.specs.declared.mt.Mt.{Mt}
use Rattle.desk_msg.specs.declared.instruction.Kind.{Kind}
use Rattle.desk_msg.specs.declared.instruction.Cash.{Cash}
use Rattle.desk_msg.specs.MessageType.{is_against_payment}
use Rattle.desk_msg.specs.Profile.{Row, quantity_row, quantity_said}
use Rattle.desk_msg.specs.Reads.{Gives}
use Rattle.desk_msg.specs.Finding.{ReadsPayment}
use Rattle.desk_msg.proofs.FormLemmas.{written_fits}

-- cash is there exactly against payment
pub paid_exactly : (mt : Mt) (fields : List Found) (row : Row) (cash : Option Cash) → ReadsPayment mt fields row (Ok cash) → is_some cash ≡ is_against_payment mt
paid_exactly mt fields row (Some cash) reads = sym reads.0
paid_exactly mt fields row None reads = sym reads

-- a quantity that was read is above 0
pub quantity_some : (fields : List Found) (kind : Kind) (quantity : ℕ) → Gives fields quantity_row (quantity_said kind quantity) → 0 < quantity
quantity_some fields kind quantity gives = gives.says.1.2.2.2

-- and its written form has at most 15 characters
pub quantity_short : (fields : List Found) (kind : Kind) (quantity : ℕ) → quantity < 2 ^ 64 → Gives fields quantity_row (quantity_said kind quantity) → length (written_number quantity 0) ≤ 15
quantity_short fields kind quantity small gives = let number = gives.says.1.2 in written_fits number.0 0 quantity small (omega arith) number.2
