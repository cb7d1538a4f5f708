use Rattle.std.proofs.Common.{ap}
use Rattle.desk_rules.specs.History.{instructed}
use Rattle.memory_register.proofs.OnlyLemmas.{fewer_due, no_instruction, placed_before, placed_without}
use Rattle.memory_register.proofs.TidyLemmas.{due_without_later}
use Rattle.memory_register.proofs.tidying.forget_place.Goals as goal

pub returns-in-Instruct-clause-due : goal.returns-in-Instruct-clause-due
returns-in-Instruct-clause-due c = due_without_later c.args.places.now c.drop_key.new.keys c.yyyymmdd.result c.args.number c.drop_key.ensures.others

pub returns-in-Instruct-clause-placed : goal.returns-in-Instruct-clause-placed
returns-in-Instruct-clause-placed c = λ history is placed.
    placed_without c.args.places.now c.drop_key.new.keys history c.args.entry.now _ c.yyyymmdd.result c.args.number is (ap instructed c.in-Instruct.is) c.yyyymmdd.ensures (fewer_due c.args.places.now c.drop_key.new.keys c.drop_key.ensures.all) c.drop_key.ensures.gone placed

pub returns-in-Instruct-clause-fewer : goal.returns-in-Instruct-clause-fewer
returns-in-Instruct-clause-fewer c = fewer_due c.args.places.now c.drop_key.new.keys c.drop_key.ensures.all

pub returns-in_default : goal.returns-in_default
returns-in_default c = record {
  due = λ mark fewer has. has;
  placed = λ history is placed. placed_before c.args.places.now history c.args.entry.now c.args.number is (no_instruction c.args.entry.now (λ sender i same. c.in_default.not-Instruct sender i same)) placed;
  fewer = λ q there. there;
}
