-- What an entry posts to the tables of amounts.
use Rattle.std.specs.Prelude.{ℕ, ◌+◌, ◌-◌, ◌<◌, ◌≤◌, ◌^◌, Option, Some, None}
use Rattle.sqlite.specs.Effect.{Database}
use Rattle.desk_rules.specs.declared.history.entry.Entry.{Entry}
use Rattle.desk_rules.specs.declared.history.entry.Entry.TheVariants.{Issue, Redeem, PayIn, PayOut}
use Rattle.desk_rules.specs.declared.history.entry.Movement.{Movement}
use Rattle.desk_rules.specs.declared.history.entry.Payment.{Payment}
use Rattle.sql_rows.specs.Changes.{SetsAmount, had}
use Rattle.sql_rows.specs.declared.amounts.key.AmountKey.{AmountKey}
use Rattle.sql_rows.specs.declared.amounts.key.AmountKey.TheVariants.{Balance, Cash, Currency, Security}
use Rattle.sql_register.specs.declared.posting.Direction.{Direction}
use Rattle.sql_register.specs.declared.posting.Direction.TheVariants.{Credit, Debit}
use Rattle.sql_register.specs.declared.posting.Posting.{Posting}

-- a quantity, on an account and on what is outstanding of the security
abbrev pub posting_of_movement : Movement → Direction → Posting
posting_of_movement m direction = record { balance = Balance m.account m.isin; total = Security m.isin; amount = m.quantity; direction = direction }

-- cash, on a participant's balance and on what is paid of the currency
abbrev pub posting_of_payment : Payment → Direction → Posting
posting_of_payment p direction = record { balance = Cash p.bic p.ccy; total = Currency p.ccy; amount = p.amount; direction = direction }

abbrev pub posting_of : Entry → Option Posting
posting_of (Issue movement) = Some (posting_of_movement movement Credit)
posting_of (Redeem movement) = Some (posting_of_movement movement Debit)
posting_of (PayIn payment) = Some (posting_of_payment payment Credit)
posting_of (PayOut payment) = Some (posting_of_payment payment Debit)
posting_of entry = None

-- an amount is put on what is recorded under a key, where the sum can be; or it is taken off, where there is as much
abbrev pub Posts : Direction → Database → Database → AmountKey → ℕ → Type 0
Posts Credit old new key amount = had old key + amount < 2 ^ 63 → SetsAmount old new key (had old key + amount)
Posts Debit old new key amount = (amount ≤ had old key) × SetsAmount old new key (had old key - amount)

-- the sum can be, or there is as much
abbrev pub CanPost : Direction → Database → AmountKey → ℕ → Type 0
CanPost Credit db key amount = had db key + amount < 2 ^ 63
CanPost Debit db key amount = (0 < amount) × (amount ≤ had db key)
