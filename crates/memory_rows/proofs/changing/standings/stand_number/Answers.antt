use Rattle.std.proofs.Common.{◌≤◌, length, arith}
use Rattle.memory_rows.specs.Lists.{listed}
use Rattle.memory_rows.proofs.AppendLemmas.{stands_well}
use Rattle.memory_rows.proofs.changing.standings.stand_number.Goals as goal

pub returns-clause-stands : goal.returns-clause-stands
returns-clause-stands c =
    let l = c.args.lists.now in
    let within : c.args.number ≤ length l.standings.items = omega (arith, l.standing_each, c.requires.known) in
    stands_well c.stand.result (listed l) (listed c.stand.new.lists) c.args.number c.args.standing c.requires.some within c.stand.ensures.stands
