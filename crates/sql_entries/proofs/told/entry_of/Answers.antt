use Rattle.std.proofs.Common.{◌≡◌, Some, None, arith}
use Rattle.sql_entries.proofs.ToldLemmas.{entry_read, long, run_read}
use Rattle.sql_entries.proofs.told.entry_of.Goals as goal

pub returns-in-Some-clause-exact : goal.returns-in-Some-clause-exact
returns-in-Some-clause-exact c entry rest is spelt =
    let far = long c.args.version c.args.row.now rest entry is spelt in
    let tells = (c.rule_told.ensures (omega (arith, far)) c.in-Some.rule).0 c.in-Some.is in
    run_read c.args.version c.args.row.now rest entry is spelt c.in-Some.rule tells c.run_of.result c.run_of.ensures.says c.run_of.ensures.all

pub returns-in-None-clause-exact : goal.returns-in-None-clause-exact
returns-in-None-clause-exact c entry rest is spelt =
    let far = long c.args.version c.args.row.now rest entry is spelt in
    entry_read c.args.version c.args.row.now rest entry is spelt (λ rule tells. let some = (c.rule_told.ensures (omega (arith, far)) rule).1 tells in let none = c.in-None.is in absurd cc) c.entry_in.result c.entry_in.ensures.kind c.entry_in.ensures.says c.entry_in.ensures.all
