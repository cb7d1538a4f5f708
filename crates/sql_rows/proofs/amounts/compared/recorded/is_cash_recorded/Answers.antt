use Rattle.sql_rows.proofs.AmountWalkLemmas.{each_cash}
use Rattle.sql_rows.proofs.amounts.compared.recorded.is_cash_recorded.Goals as goal

pub returns-clause-says : goal.returns-clause-says
returns-clause-says g c = λ clean is_open has honest sure amounts. each_cash (g.S.Session.state c.args.conn.now).now (g.R.Register.view c.args.register.now).content c.are_cash_recorded.result c.args.bic (c.are_cash_recorded.ensures.says clean is_open has honest sure amounts)
