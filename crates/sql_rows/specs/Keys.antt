-- Where an amount is recorded.
use Rattle.std.specs.Prelude.{ℕ, Bool, true, false, ◌&&◌, List, bytes_eq, codes}
use Rattle.desk_codes.specs.Currency.{letters_of}
use Rattle.sql_rows.specs.declared.amounts.key.Ledger.{Ledger}
use Rattle.sql_rows.specs.declared.amounts.key.Ledger.TheVariants.{Balance, Cash, Total}
use Rattle.sql_rows.specs.declared.amounts.key.AmountKey.{AmountKey}
use Rattle.sql_rows.specs.declared.amounts.key.AmountKey.TheVariants.{Security, Currency}
use Rattle.sql_rows.specs.declared.amounts.key.AmountKey.TheVariants as keys

-- the table
abbrev pub ledger_of : AmountKey → Ledger
ledger_of (keys.Balance account isin) = Balance
ledger_of (keys.Cash bic ccy) = Cash
ledger_of (Security isin) = Total
ledger_of (Currency ccy) = Total

-- the tree of the table
abbrev pub tree_of : Ledger → ℕ
tree_of Balance = 0
tree_of Cash = 2
tree_of Total = 4

-- the two texts by which a row is found
abbrev pub Texts : Type 0
Texts = List ℕ × List ℕ

abbrev pub same_texts : Texts → Texts → Bool
same_texts a b = bytes_eq a.0 b.0 && bytes_eq a.1 b.1

abbrev pub texts_of : AmountKey → Texts
texts_of (keys.Balance account isin) = (account, isin)
texts_of (keys.Cash bic ccy) = (bic, letters_of ccy)
texts_of (Security isin) = (codes "security", isin)
texts_of (Currency ccy) = (codes "currency", letters_of ccy)

abbrev pub same_ledger : Ledger → Ledger → Bool
same_ledger Balance Balance = true
same_ledger Cash Cash = true
same_ledger Total Total = true
same_ledger a b = false

-- whether an amount of this table and of these two texts is the key's
abbrev pub is_of : AmountKey → Ledger → List ℕ → List ℕ → Bool
is_of key ledger first second = same_ledger (ledger_of key) ledger && same_texts (texts_of key) (first, second)
