-- What the accounts hold: each with its owner, in the order of their registration, and each security that it holds, in the
-- order of the ISINs.
use Rattle.std.specs.Prelude.{◌≡◌, ℕ, false, List, [], ◌∷◌, map, flat_map, Some, None}
use Rattle.desk_msg.specs.declared.writing.statement_row.StatementRow.{StatementRow}
use Rattle.desk_rules.specs.declared.history.entry.Entry.{Entry}
use Rattle.desk_rules.specs.declared.history.entry.Entry.TheVariants.{Account}
use Rattle.desk_rules.specs.Content.{Content, history_of}
use Rattle.desk_holdings.specs.Holdings.{AreHoldings, HoldsRegistered}
use Rattle.desk_book.specs.Sums.{rows_text}
use Rattle.desk_report.specs.RowData.{account_data}
use Rattle.desk_report.specs.declared.rows.balances.AccountRow.{AccountRow}

-- a security that the account holds
abbrev pub holding_row : (owner account : List ℕ) → StatementRow → AccountRow
holding_row owner account held = record { account = account; owner = owner; holding = Some held }

-- the one row of an account that holds nothing
abbrev pub empty_row : (owner account : List ℕ) → AccountRow
empty_row owner account = record { account = account; owner = owner; holding = None }

-- The rows of an account with these holdings: one for each, in their order, or one that tells that there are none.
abbrev pub rows_of : (owner account : List ℕ) → List StatementRow → List AccountRow
rows_of owner account [] = empty_row owner account ∷ []
rows_of owner account held = map (holding_row owner account) held

-- the rows of the account that an entry registers, if it registers one, where `held` tells what each account holds
abbrev pub account_rows : (held : List ℕ → List StatementRow) → Entry → List AccountRow
account_rows held (Account reference owner account) = rows_of owner account (held account)
account_rows held entry = []

-- what each account holds
pub record AreHeld (content : Content) (held : List ℕ → List StatementRow) : Type 0 where
  pub each : (account : List ℕ) → AreHoldings content account (held account)

-- The rows of all accounts, account by account in the order of the entries that registered them. (There is one such list,
-- where accounts hold none but registered securities: `one_accounts`.)
pub record AreAccounts (content : Content) (rows : List AccountRow) : Type 0 where
  pub held : List ℕ → List StatementRow
  pub are_held : AreHeld content held
  pub in_order : rows ≡ flat_map (account_rows held) (history_of content)

-- each account holds none but registered securities
pub record HoldRegistered (content : Content) : Type 0 where
  pub each : (account : List ℕ) → HoldsRegistered content account

-- the rows as compact JSON, a comma between two, without the brackets of the array
pub record IsAccountsText (content : Content) (text : List ℕ) : Type 0 where
  pub rows : List AccountRow
  pub are : AreAccounts content rows
  pub is : text ≡ rows_text false (map account_data rows)
