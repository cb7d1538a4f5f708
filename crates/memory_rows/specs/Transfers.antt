-- What a pair moves between its two sides.
use Rattle.std.specs.Prelude.{◌≡◌, ℕ, List, Option, Some}
use Rattle.desk_msg.specs.declared.instruction.Cash.{Cash}
use Rattle.desk_msg.specs.declared.instruction.Instruction.{Instruction}
use Rattle.desk_rules.specs.declared.history.entry.Instructed.{Instructed}
use Rattle.desk_rules.specs.Content.{Content, history_of}
use Rattle.desk_rules.specs.History.{instruction_at}
use Rattle.desk_register.specs.declared.told.KnownPair.{KnownPair}
use Rattle.desk_register.specs.Changes.{delivering_side, receiving_side}

-- an instruction of a sender
abbrev pub as_instructed : List ℕ → Instruction → Instructed
as_instructed sender instruction = record { sender = sender; instruction = instruction }

-- What a pair moves: a quantity of a security from the deliverer's account to the receiver's, and cash, if any is asked for, from
-- the receiver to the deliverer, from its settlement day on.
pub record Transfer : Type 0 where
  pub deliverer : List ℕ
  pub given : List ℕ
  pub receiver : List ℕ
  pub taken : List ℕ
  pub isin : List ℕ
  pub quantity : ℕ
  pub cash : Option Cash
  pub day : List ℕ

-- what goes from one side to another, on the terms of an instruction
abbrev pub transfer_between : Instructed → Instructed → Instruction → Transfer
transfer_between from to terms = record {
  deliverer = from.sender;
  given = from.instruction.account;
  receiver = to.sender;
  taken = to.instruction.account;
  isin = terms.isin;
  quantity = terms.quantity;
  cash = terms.cash;
  day = terms.day;
}

-- what a pair's two instructions move
abbrev pub transfer_of : Instructed → Instructed → Transfer
transfer_of earlier later = transfer_between (delivering_side earlier later) (receiving_side earlier later) later.instruction

abbrev pub moved_by : KnownPair → Transfer
moved_by pair = transfer_of pair.earlier pair.later

-- the pair of a number has this mate, and moves this
pub record IsTransferAt (content : Content) (n mate : ℕ) (t : Transfer) : Type 0 where
  pub has_mate : (content.standing n).mate ≡ Some mate
  pub moves : (earlier later : Instructed) → instruction_at (history_of content) mate ≡ Some earlier → instruction_at (history_of content) n ≡ Some later → t ≡ transfer_of earlier later
