use Rattle.sql_rows.proofs.AmountComparedRows.{by_balance, by_cash, by_total}
use Rattle.sql_rows.proofs.amounts.compared.row.key_shown.Goals as goal

pub returns-in-Balance-clause-all : goal.returns-in-Balance-clause-all
returns-in-Balance-clause-all c = rw c.in-Balance.is (by_balance c.args.row.now c.balance_key.result c.balance_key.ensures.all)

pub returns-in-Cash-clause-all : goal.returns-in-Cash-clause-all
returns-in-Cash-clause-all c = rw c.in-Cash.is (by_cash c.args.row.now c.cash_key.result c.cash_key.ensures.all)

pub returns-in-Total-clause-all : goal.returns-in-Total-clause-all
returns-in-Total-clause-all c = rw c.in-Total.is (by_total c.args.row.now c.total_key.result c.total_key.ensures.securities c.total_key.ensures.currencies)
