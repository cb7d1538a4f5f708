use Rattle.desk_rules.proofs.Decided.{In-from_Contains}
use Rattle.desk_rules.proofs.LegsConfirmed as confirmed
use Rattle.desk_rules.proofs.LegsMoved as moved
use Rattle.desk_rules.proofs.laws.both_legs.Goals as goal

pub returns-clause-in_twos : goal.returns-clause-in_twos
returns-clause-in_twos c = confirmed.in_twos

pub returns-clause-together : goal.returns-clause-together
returns-clause-together c = λ books s are formed member. confirmed.stand_together books are formed s (In-from_Contains books.settled s member)

pub returns-clause-neighbours : goal.returns-clause-neighbours
returns-clause-neighbours c = confirmed.neighbours_are_of_one

pub returns-clause-once : goal.returns-clause-once
returns-clause-once c = λ books n are. confirmed.confirmed_once books are n

pub returns-clause-moved : goal.returns-clause-moved
returns-clause-moved c = moved.moves
