-- What the participants have in cash: participant by participant, in the order of their registration, and each currency of
-- which one has some, in the order of the letters.
use Rattle.std.specs.Prelude.{◌≡◌, ℕ, nat_lt, false, if◌then◌else◌, List, [], ◌∷◌, map, flat_map, filter_map, Option, Some, None}
use Rattle.desk_codes.specs.declared.currency.Ccy.{Ccy}
use Rattle.desk_codes.specs.declared.currency.TheConstants.{CURRENCIES}
use Rattle.desk_rules.specs.declared.history.entry.Entry.{Entry}
use Rattle.desk_rules.specs.declared.history.entry.Entry.TheVariants.{Participant}
use Rattle.desk_rules.specs.Content.{Content, history_of}
use Rattle.desk_book.specs.Sums.{rows_text}
use Rattle.desk_report.specs.RowData.{cash_data}
use Rattle.desk_report.specs.declared.rows.balances.CashRow.{CashRow}

-- the desk's currencies, in the order of their letters
unfoldable pub currencies : List Ccy
currencies = CURRENCIES

-- the row of a currency, of which the participant has so much in minor units; none where it has nothing of it
abbrev pub balance_row : List ℕ → Ccy → ℕ → Option CashRow
balance_row bic ccy amount = if nat_lt 0 amount then Some (record { bic = bic; ccy = ccy; amount = amount }) else None

-- what the participant has of these currencies
abbrev pub balance_rows : Content → List ℕ → List Ccy → List CashRow
balance_rows content bic ccys = filter_map (λ ccy. balance_row bic ccy (content.cash bic ccy)) ccys

-- the rows of the participant that an entry registers, if it registers one
abbrev pub cash_rows : Content → Entry → List CashRow
cash_rows content (Participant reference bic) = balance_rows content bic currencies
cash_rows content entry = []

-- the rows of all participants, in the order of the entries that registered them
abbrev pub cash_of : Content → List CashRow
cash_of content = flat_map (cash_rows content) (history_of content)

-- the rows as compact JSON, a comma between two, without the brackets of the array
abbrev pub IsCashText : Content → List ℕ → Type 0
IsCashText content text = text ≡ rows_text false (map cash_data (cash_of content))
