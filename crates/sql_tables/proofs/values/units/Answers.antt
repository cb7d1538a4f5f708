use Rattle.std.proofs.Common.{◌<◌, ◌^◌, arith}
use Rattle.desk_rules.proofs.ShortNumbers.{short_amount}
use Rattle.sql_tables.proofs.values.units.Goals as goal

pub returns-clause-fits : goal.returns-clause-fits
returns-clause-fits c =
    let small : c.args.cash.now.amount < 2 ^ 64 = omega arith in
    omega (arith, short_amount c.args.cash.now.ccy c.args.cash.now.amount small c.args.cash.now.short)
