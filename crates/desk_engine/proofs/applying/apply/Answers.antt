use Rattle.desk_engine.proofs.applying.apply.Goals as goal

pub returns-in-Instruct-clause-applied : goal.returns-in-Instruct-clause-applied
returns-in-Instruct-clause-applied g c = rw c.in-Instruct.is c.apply_instruction.ensures.applied

pub returns-in-Run-clause-applied : goal.returns-in-Run-clause-applied
returns-in-Run-clause-applied g c = rw c.in-Run.is c.apply_run.ensures.applied

pub returns-in-Cancel-clause-applied : goal.returns-in-Cancel-clause-applied
returns-in-Cancel-clause-applied g c = rw c.in-Cancel.is c.apply_cancellation.ensures.applied

pub apply_instruction-requires-clause-accepted : goal.apply_instruction-requires-clause-accepted
apply_instruction-requires-clause-accepted g c = rw c.in-Instruct.is at c.requires.accepted

pub apply_run-requires-clause-accepted : goal.apply_run-requires-clause-accepted
apply_run-requires-clause-accepted g c = rw c.in-Run.is at c.requires.accepted

pub apply_cancellation-requires-clause-accepted : goal.apply_cancellation-requires-clause-accepted
apply_cancellation-requires-clause-accepted g c = rw c.in-Cancel.is at c.requires.accepted
