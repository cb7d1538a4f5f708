-- The statements on the tables of amounts, as texts of SQL.
use Rattle.std.specs.Prelude.{ℕ, List, codes}
use Rattle.sql_rows.specs.declared.amounts.key.Ledger.{Ledger}
use Rattle.sql_rows.specs.declared.amounts.key.Ledger.TheVariants.{Balance, Cash, Total}

abbrev pub amount_text : Ledger → List ℕ
amount_text Balance = codes "SELECT quantity FROM balance WHERE account = ?1 AND isin = ?2"
amount_text Cash = codes "SELECT amount FROM cash WHERE bic = ?1 AND currency = ?2"
amount_text Total = codes "SELECT amount FROM total WHERE subject = ?1 AND code = ?2"

abbrev pub take_text : Ledger → List ℕ
take_text Balance = codes "UPDATE balance SET quantity = quantity - ?3 WHERE account = ?1 AND isin = ?2 AND quantity >= ?3"
take_text Cash = codes "UPDATE cash SET amount = amount - ?3 WHERE bic = ?1 AND currency = ?2 AND amount >= ?3"
take_text Total = codes "UPDATE total SET amount = amount - ?3 WHERE subject = ?1 AND code = ?2 AND amount >= ?3"

abbrev pub put_text : Ledger → List ℕ
put_text Balance = codes "UPDATE balance SET quantity = quantity + ?3 WHERE account = ?1 AND isin = ?2"
put_text Cash = codes "UPDATE cash SET amount = amount + ?3 WHERE bic = ?1 AND currency = ?2"
put_text Total = codes "UPDATE total SET amount = amount + ?3 WHERE subject = ?1 AND code = ?2"

abbrev pub first_text : Ledger → List ℕ
first_text Balance = codes "INSERT INTO balance (account, isin, quantity) VALUES (?1, ?2, ?3)"
first_text Cash = codes "INSERT INTO cash (bic, currency, amount) VALUES (?1, ?2, ?3)"
first_text Total = codes "INSERT INTO total (subject, code, amount) VALUES (?1, ?2, ?3)"

abbrev pub next_text : List ℕ
next_text = codes "SELECT isin, quantity FROM balance WHERE account = ?1 AND isin > ?2 AND quantity > 0 ORDER BY isin LIMIT 1"

abbrev pub held_text : List ℕ
held_text = codes "SELECT quantity FROM balance WHERE isin = ?1"

abbrev pub held_cash_text : List ℕ
held_cash_text = codes "SELECT amount FROM cash WHERE currency = ?1"
