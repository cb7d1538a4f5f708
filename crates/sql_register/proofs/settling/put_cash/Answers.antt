use Rattle.std.proofs.Common.{rules, Option, OnOk, ◌<◌, ◌^◌, arith, lit<, sym, subst}
use Rattle.desk_msg.specs.declared.instruction.Cash.{Cash}
use Rattle.desk_register.specs.Changes.{FitsCash}
use Rattle.desk_rules.proofs.ShortNumbers.{short_amount}
use Rattle.sql_register.specs.Content.{content_in}
use Rattle.sql_register.specs.Settling.{AmountsSo, more_cash}
use Rattle.sql_register.proofs.LegLemmas.{puts_cash}
use Rattle.sql_register.proofs.settling.put_cash.Goals as goal

pub put-requires : goal.put-requires
put-requires g c =
    let asked = c.in-Some.field-0 in
    let short = short_amount asked.ccy asked.amount (search rules) asked.short in
    let room : 10 ^ 18 < 2 ^ 63 = lit< tt in
    record { small = omega (arith, short, room) }

pub returns-in-Some-clause-changed : goal.returns-in-Some-clause-changed
returns-in-Some-clause-changed g c clean is_open has amounts fits =
    let old = (g.S.Session.state c.args.conn.now).now in
    let new = (g.S.Session.state c.put.new.conn).now in
    subst (λ (o : Option Cash). OnOk c.put.result (AmountsSo old new (content_in old).position (more_cash (content_in old).cash c.args.bic o))) (sym c.in-Some.is)
    (puts_cash old new c.args.bic c.in-Some.field-0 c.put.result (c.put.ensures.changed clean is_open has amounts (subst (λ (o : Option Cash). FitsCash (content_in old).cash c.args.bic o) c.in-Some.is fits)))

pub returns-in-Some-clause-blame : goal.returns-in-Some-clause-blame
returns-in-Some-clause-blame g c clean is_open has amounts fits =
    let old = (g.S.Session.state c.args.conn.now).now in
    c.put.ensures.blame clean is_open has amounts (subst (λ (o : Option Cash). FitsCash (content_in old).cash c.args.bic o) c.in-Some.is fits)
