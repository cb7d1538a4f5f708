-- What a register holds adds up. Only the invariant of the register, private contracts and proofs speak of it.
use Rattle.std.specs.Prelude.{ℕ, ◌+◌, ◌≤◌, List}
use Rattle.desk_codes.specs.declared.currency.Ccy.{Ccy}
use Rattle.desk_rules.specs.declared.history.entry.Entry.{Entry}
use Rattle.desk_rules.specs.declared.limits.TheConstants.{MOST_PAID, MOST_QUANTITY}
use Rattle.desk_rules.specs.Balances.{issued, paid_in, paid_out, redeemed}
use Rattle.desk_rules.specs.Content.{Content, history_of}
use Rattle.desk_register.specs.AddsUp.{AddsUp}
use Rattle.memory_rows.specs.Lists.{Listed, TotalsAreKept, content_in}

-- what is outstanding, and what is paid in less what is paid out, is within the limits
pub record IsWithinLimits (history : List Entry) : Type 0 where
  pub securities : (isin : List ℕ) → issued history isin ≤ redeemed history isin + MOST_QUANTITY
  pub currencies : (ccy : Ccy) → paid_in history ccy ≤ paid_out history ccy + MOST_PAID

-- what is held adds up, within the limits
pub record IsBalanced (content : Content) : Type 0 where
  pub sums : AddsUp content
  pub within : IsWithinLimits (history_of content)

-- the totals are those of the entries, and what is held adds up
pub record IsSound (l : Listed) : Type 0 where
  pub totals : TotalsAreKept l
  pub balanced : IsBalanced (content_in l)
