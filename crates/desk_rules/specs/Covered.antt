-- Whether a pair is covered: what each side gives is there.
use Rattle.std.specs.Prelude.{ℕ, ◌+◌, nat_le, Bool, true, false, ◌&&◌, if◌then◌else◌, List, Option, Some, None}
use Rattle.desk_msg.specs.declared.instruction.Cash.{Cash}
use Rattle.desk_rules.specs.declared.history.entry.Entry.{Entry}
use Rattle.desk_rules.specs.declared.history.pair.Pair.{Pair}
use Rattle.desk_rules.specs.declared.history.pair.Settled.{Settled}
use Rattle.desk_rules.specs.declared.history.pair.Lack.{Lack}
use Rattle.desk_rules.specs.declared.history.pair.Lack.TheVariants.{Securities, Money}
use Rattle.desk_rules.specs.History.{Instructed}
use Rattle.desk_rules.specs.Balances.{credits, debits, cash_credits, cash_debits, delivery_of, receipt_of}

-- the account of a delivery holds its quantity
abbrev pub can_deliver : List Entry → List Settled → Option Instructed → Bool
can_deliver history settled None = false
can_deliver history settled (Some i) =
    let account = i.instruction.account in
    let isin = i.instruction.isin in
    nat_le (debits history settled account isin + i.instruction.quantity) (credits history settled account isin)

-- a participant has so much cash; where no cash is asked for, it has
abbrev pub can_pay_cash : List Entry → List Settled → List ℕ → Option Cash → Bool
can_pay_cash history settled bic None = true
can_pay_cash history settled bic (Some cash) =
    nat_le (cash_debits history settled bic cash.ccy + cash.amount) (cash_credits history settled bic cash.ccy)

-- the sender of a receipt has the cash for it
abbrev pub can_pay : List Entry → List Settled → Option Instructed → Bool
can_pay history settled None = false
can_pay history settled (Some i) = can_pay_cash history settled i.sender i.instruction.cash

abbrev pub has_securities : List Entry → List Settled → Pair → Bool
has_securities history settled p = can_deliver history settled (delivery_of history p)

abbrev pub has_cash : List Entry → List Settled → Pair → Bool
has_cash history settled p = can_pay history settled (receipt_of history p)

-- what a pair lacks: securities, whatever the cash, else money
abbrev pub lack_of : List Entry → List Settled → Pair → Option Lack
lack_of history settled p =
    if has_securities history settled p then (if has_cash history settled p then None else Some Money) else Some Securities

abbrev pub is_covered : List Entry → List Settled → Pair → Bool
is_covered history settled p = has_securities history settled p && has_cash history settled p
