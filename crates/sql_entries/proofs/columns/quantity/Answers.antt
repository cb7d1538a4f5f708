use Rattle.std.proofs.Common.{◌<◌, ◌^◌, arith}
use Rattle.desk_rules.proofs.ShortNumbers.{short_quantity}
use Rattle.sql_entries.proofs.columns.quantity.Goals as goal

pub returns-clause-fits : goal.returns-clause-fits
returns-clause-fits c =
    let small : c.args.instruction.now.quantity < 2 ^ 64 = omega arith in
    omega (arith, short_quantity c.args.instruction.now.quantity small c.args.instruction.now.short)
