use Rattle.std.proofs.Common.{rules, Option, IfOk, ◌<◌, ◌^◌, arith, lit<, sym, subst}
use Rattle.std.proofs.lemmas.Result.{IfOk-weaker}
use Rattle.desk_msg.specs.declared.instruction.Cash.{Cash}
use Rattle.desk_rules.proofs.ShortNumbers.{short_amount}
use Rattle.sql_register.specs.Settling.{TakesCash}
use Rattle.sql_register.proofs.LegLemmas.{takes_cash}
use Rattle.sql_register.proofs.settling.take_cash.Goals as goal

pub take-requires : goal.take-requires
take-requires g c =
    let asked = c.in-Some.field-0 in
    let short = short_amount asked.ccy asked.amount (search rules) asked.short in
    let room : 10 ^ 18 < 2 ^ 63 = lit< tt in
    record { small = omega (arith, short, room) }

pub returns-in-Some-clause-changed : goal.returns-in-Some-clause-changed
returns-in-Some-clause-changed g c clean is_open has amounts =
    subst (λ (o : Option Cash). IfOk c.take.result (TakesCash (g.S.Session.state c.args.conn.now).now (g.S.Session.state c.take.new.conn).now c.args.bic o)) (sym c.in-Some.is)
    (IfOk-weaker c.take.result _ _ (takes_cash (g.S.Session.state c.args.conn.now).now (g.S.Session.state c.take.new.conn).now c.args.bic c.in-Some.field-0) (c.take.ensures.changed clean is_open has amounts))
