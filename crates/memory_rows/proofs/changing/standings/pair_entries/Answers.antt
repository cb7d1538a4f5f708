use Rattle.memory_rows.specs.Lists.{listed}
use Rattle.memory_rows.proofs.AppendLemmas.{stood_well}
use Rattle.memory_rows.proofs.LookingLemmas.{instruction_within}
use Rattle.memory_rows.proofs.changing.standings.pair_entries.Goals as goal

pub stand_both-requires-clause-some : goal.stand_both-requires-clause-some
stand_both-requires-clause-some c = let within = instruction_within c.args.lists.now.kept.items c.args.earlier c.requires.earlier c.requires.is_earlier in within.0

pub stand_both-requires-clause-known : goal.stand_both-requires-clause-known
stand_both-requires-clause-known c = let within = instruction_within c.args.lists.now.kept.items c.args.earlier c.requires.earlier c.requires.is_earlier in within.1

pub stand_both-requires-clause-later_some : goal.stand_both-requires-clause-later_some
stand_both-requires-clause-later_some c = let within = instruction_within c.args.lists.now.kept.items c.args.later c.requires.later c.requires.is_later in within.0

pub stand_both-requires-clause-later_known : goal.stand_both-requires-clause-later_known
stand_both-requires-clause-later_known c = let within = instruction_within c.args.lists.now.kept.items c.args.later c.requires.later c.requires.is_later in within.1

pub returns-clause-paired : goal.returns-clause-paired
returns-clause-paired c = stood_well c.stand_both.result (listed c.args.lists.now) (listed c.stand_both.new.lists) _ c.stand_both.ensures.rest c.stand_both.ensures.stands
