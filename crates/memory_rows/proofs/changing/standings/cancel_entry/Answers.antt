use Rattle.memory_rows.specs.Lists.{listed}
use Rattle.memory_rows.proofs.AppendLemmas.{stood_well}
use Rattle.memory_rows.proofs.LookingLemmas.{instruction_within}
use Rattle.memory_rows.proofs.changing.standings.cancel_entry.Goals as goal

pub stand_number-requires-clause-some : goal.stand_number-requires-clause-some
stand_number-requires-clause-some c = let within = instruction_within c.args.lists.now.kept.items c.args.number c.requires.instructed c.requires.is_instruction in within.0

pub stand_number-requires-clause-known : goal.stand_number-requires-clause-known
stand_number-requires-clause-known c = let within = instruction_within c.args.lists.now.kept.items c.args.number c.requires.instructed c.requires.is_instruction in within.1

pub returns-clause-cancelled : goal.returns-clause-cancelled
returns-clause-cancelled c = stood_well c.stand_number.result (listed c.args.lists.now) (listed c.stand_number.new.lists) _ c.stand_number.ensures.rest (rw c.standing.ensures at c.stand_number.ensures.stands)
