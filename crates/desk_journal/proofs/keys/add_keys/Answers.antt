use Rattle.std.proofs.Common.{arith}
use Rattle.desk_register.proofs.BrokenWalks.{walk_broke_off}
use Rattle.desk_journal.proofs.KeyLemmas.{keying_ends, keying_goes_on, keying_known}
use Rattle.desk_journal.proofs.keys.add_keys.Goals as goal

pub add_key-requires-clause-known : goal.add_key-requires-clause-known
add_key-requires-clause-known g c =
    keying_known (g.R.Register.view c.args.register.now) (g.R.Register.view c.notices.register) c.notices.index c.args.notices.now c.notices.counts c.notices.keys.items c.notices.invariant _ c.notices-test.true c.requires.known

pub returns-in_err-add_key-clause-read : goal.returns-in_err-add_key-clause-read
returns-in_err-add_key-clause-read g c =
    walk_broke_off c.in_err-add_key.field-0.0 c.from_residual.result (g.R.Register.view c.args.register.now) (g.R.Register.view c.notices.register) (g.R.Register.view c.add_key.new.register) c.from_residual.ensures.1
    c.notices.invariant.read c.in_err-add_key.ensures.read

pub notices-preserved : goal.notices-preserved
notices-preserved g c =
    let e = c.in_ok-add_key.ensures in
    keying_goes_on (g.R.Register.view c.args.register.now) (g.R.Register.view c.notices.register) c.notices.index c.args.notices.now c.notices.counts c.notices.keys.items c.notices.invariant
    (g.R.Register.view c.add_key.new.register) _ c.add_key.new.counts c.add_key.new.keys.items c.notices-test.true e.read e.keyed

pub returns-clause-keyed : goal.returns-clause-keyed
returns-clause-keyed g c =
    keying_ends (g.R.Register.view c.args.register.now) (g.R.Register.view c.notices.register) c.notices.index c.args.notices.now c.notices.counts c.notices.keys.items c.notices.invariant (omega (arith, c.notices-test.false))
