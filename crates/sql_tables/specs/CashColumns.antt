-- What two columns say of a settlement amount: its currency, and how much in minor units.
use Rattle.std.specs.Prelude.{ℕ, List, [], Option, Some, None}
use Rattle.desk_codes.specs.Currency.{letters_of}
use Rattle.desk_msg.specs.declared.instruction.Cash.{Cash}

-- no letters, and 0, of what is free of payment
abbrev pub currency_of : Option Cash → List ℕ
currency_of None = []
currency_of (Some cash) = letters_of cash.ccy

abbrev pub amount_of : Option Cash → ℕ
amount_of None = 0
amount_of (Some cash) = cash.amount
