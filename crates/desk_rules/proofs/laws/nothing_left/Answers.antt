use Rattle.desk_rules.proofs.NothingLeft as laws
use Rattle.desk_rules.proofs.laws.nothing_left.Goals as goal

pub returns-clause-left : goal.returns-clause-left
returns-clause-left c = laws.nothing_left

pub returns-clause-passes : goal.returns-clause-passes
returns-clause-passes c = λ books run are. laws.few_passes books.history books.pairs books.settled are.settlement run

pub returns-clause-counted : goal.returns-clause-counted
returns-clause-counted c = λ books run pass are. (
  laws.begins_counted books.history books.pairs books.settled are.settlement run pass,
  λ within. laws.counted_begins books.history books.pairs books.settled are.settlement run pass within.0 within.1,
)
