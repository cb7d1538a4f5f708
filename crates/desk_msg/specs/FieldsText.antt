-- What a message says, line by line.
use Rattle.std.specs.Prelude.{ℕ, List, [], ◌∷◌, ◌++◌, codes, Option, Some, None}
use Rattle.std.specs.Str.{byte}
use Rattle.std.specs.List.{join_with_byte}
use Rattle.desk_codes.specs.Number.{written_number}
use Rattle.desk_codes.specs.Currency.{letters_of, decimals_of}
use Rattle.desk_msg.specs.declared.instruction.Cash.{Cash}
use Rattle.desk_msg.specs.declared.instruction.Instruction.{Instruction}
use Rattle.desk_msg.specs.declared.instruction.CancelOrder.{CancelOrder}
use Rattle.desk_msg.specs.declared.instruction.Message.{Message}
use Rattle.desk_msg.specs.declared.instruction.Message.TheVariants.{New, Cancel}
use Rattle.desk_msg.specs.Profile.{code_of_kind}

-- a name, a space and a value
abbrev pub named : List ℕ → List ℕ → List ℕ
named name value = name ++ byte " " ∷ value

-- the amount, against payment
abbrev pub cash_lines : Option Cash → List (List ℕ)
cash_lines None = []
cash_lines (Some cash) = named (codes "amount") (named (letters_of cash.ccy) (written_number cash.amount (decimals_of cash.ccy))) ∷ []

-- what is traded, and when
abbrev pub trade_lines : Instruction → List (List ℕ)
trade_lines i =
    named (codes "reference") i.reference
    ∷ named (codes "date") i.day
    ∷ named (codes "isin") i.isin
    ∷ named (codes "quantity") (named (code_of_kind i.kind) (written_number i.quantity 0))
    ∷ []

-- how it is settled, and with whom
abbrev pub settlement_lines : Instruction → List (List ℕ)
settlement_lines i =
    named (codes "account") i.account
    ∷ named (codes "settlement") i.settlement
    ∷ named (codes "place") i.place
    ∷ named (codes "counterparty") i.counterparty
    ∷ []

abbrev pub lines_of_instruction : Instruction → List (List ℕ)
lines_of_instruction i = named (codes "function") (codes "NEWM") ∷ (trade_lines i ++ settlement_lines i ++ cash_lines i.cash)

abbrev pub lines_of_cancellation : CancelOrder → List (List ℕ)
lines_of_cancellation c =
    named (codes "function") (codes "CANC")
    ∷ named (codes "reference") c.reference
    ∷ named (codes "previous") c.previous
    ∷ []

-- the lines of a message, with a line feed between them and none at the end
unfoldable pub message_text : Message → List ℕ
message_text (New i) = join_with_byte (byte "\n") (lines_of_instruction i)
message_text (Cancel c) = join_with_byte (byte "\n") (lines_of_cancellation c)
