-- The instructions that are opposite to one, whether they wait or not.
use Rattle.std.specs.Prelude.{◌≡◌, ℕ, ◌<◌, pos, List, [], ◌∷◌, Option, Some, None}
use Rattle.sqlite.specs.Order.{Row}
use Rattle.sqlite.specs.declared.types.Value.TheVariants.{Int, Text as Words}
use Rattle.desk_msg.specs.declared.mt.Mt.{Mt}
use Rattle.desk_msg.specs.declared.mt.Mt.TheVariants.{Mt540, Mt541, Mt542, Mt543, Mt544, Mt545, Mt546, Mt547}
use Rattle.desk_msg.specs.MessageType.{number_of_type}
use Rattle.desk_msg.specs.Profile.{code_of_kind}
use Rattle.desk_rules.specs.declared.history.entry.Entry.{Entry}
use Rattle.desk_rules.specs.declared.history.entry.Instructed.{Instructed}
use Rattle.desk_rules.specs.History.{instruction_at}
use Rattle.desk_rules.specs.Opposite.{AreOpposite}
use Rattle.sql_tables.specs.CashColumns.{amount_of, currency_of}

-- the entry of this number is an instruction that is opposite to this one
pub record IsOppositeEntry (history : List Entry) (i : Instructed) (n : ℕ) : Type 0 where
  pub other : Instructed
  pub is_other : instruction_at history n ≡ Some other
  pub opposite : AreOpposite other i

-- the least such number above one, or there is none above it
abbrev pub IsNextOpposite : List Entry → Instructed → ℕ → Option ℕ → Type 0
IsNextOpposite history i after None = (n : ℕ) → after < n → IsOppositeEntry history i n → ⊥
IsNextOpposite history i after (Some n) = (after < n) × IsOppositeEntry history i n × ((k : ℕ) → after < k → k < n → IsOppositeEntry history i k → ⊥)

-- ---- as the table is asked for it

-- the type on the other side: a receipt for a delivery, and against payment where it is
abbrev pub opposite_type : Mt → Mt
opposite_type Mt540 = Mt542
opposite_type Mt541 = Mt543
opposite_type Mt542 = Mt540
opposite_type Mt543 = Mt541
opposite_type Mt544 = Mt546
opposite_type Mt545 = Mt547
opposite_type Mt546 = Mt544
opposite_type Mt547 = Mt545

-- what the columns of an opposite instruction say, whose sender and counterparty are crossed, and what its number is above
abbrev pub asked_for : Instructed → ℕ → Row
asked_for i after =
    Words i.instruction.isin ∷ Words i.instruction.day ∷ Int (pos i.instruction.quantity) ∷ Words i.instruction.counterparty ∷ Words i.sender
    ∷ Int (pos (number_of_type (opposite_type i.instruction.mt))) ∷ Words (code_of_kind i.instruction.kind) ∷ Words (currency_of i.instruction.cash)
    ∷ Int (pos (amount_of i.instruction.cash)) ∷ Int (pos after) ∷ []
