use Rattle.memory_rows.specs.Lists.{listed, standing_in}
use Rattle.memory_rows.proofs.AppendLemmas.{both_well}
use Rattle.memory_rows.proofs.changing.standings.stand_both.Goals as goal

pub returns-clause-stands : goal.returns-clause-stands
returns-clause-stands c =
    both_well c.stand_number-2.result (standing_in (listed c.args.lists.now).standings) (standing_in (listed c.stand_number.new.lists).standings) (standing_in (listed c.stand_number-2.new.lists).standings)
    c.args.earlier c.args.later c.args.state c.standing.result c.standing-2.result c.standing.ensures c.standing-2.ensures c.in_ok-stand_number.ensures.stands c.stand_number-2.ensures.stands
