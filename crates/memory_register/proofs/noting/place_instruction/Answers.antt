use Rattle.desk_rules.specs.Content.{history_of}
use Rattle.desk_rules.specs.History.{instruction_at}
use Rattle.memory_rows.specs.RowsView.{view_of_rows}
use Rattle.memory_register.proofs.OnlyLemmas.{opened_all, others_of, placed_with}
use Rattle.memory_register.proofs.noting.place_instruction.Goals as goal

pub returns-in-Some-clause-opened : goal.returns-in-Some-clause-opened
returns-in-Some-clause-opened c =
    opened_all c.put_key.result c.put_key.new.keys (instruction_at (history_of (view_of_rows c.args.held.now).content) c.args.number) c.args.number c.yyyymmdd.result c.in-Some.day c.in-Some.ensures c.yyyymmdd.ensures c.put_key.ensures.there

pub returns-in-Some-clause-placed : goal.returns-in-Some-clause-placed
returns-in-Some-clause-placed c =
    placed_with c.args.places.now c.put_key.new.keys (history_of (view_of_rows c.args.held.now).content) c.args.number c.yyyymmdd.result c.in-Some.day c.in-Some.ensures c.yyyymmdd.ensures c.put_key.ensures.others

pub returns-in-Some-clause-others : goal.returns-in-Some-clause-others
returns-in-Some-clause-others c = others_of c.args.places.now c.put_key.new.keys c.args.number c.yyyymmdd.result c.put_key.ensures.others
