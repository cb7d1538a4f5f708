use Rattle.desk_engine.proofs.checks.refuse.Goals as goal

pub returns-in-Participant-clause-value : goal.returns-in-Participant-clause-value
returns-in-Participant-clause-value g c = λ honest sure well. rw c.in-Participant.is (c.refuse_participant.ensures.value honest sure well)

pub returns-in-Account-clause-value : goal.returns-in-Account-clause-value
returns-in-Account-clause-value g c = λ honest sure well. rw c.in-Account.is (c.refuse_account.ensures.value honest sure well)

pub returns-in-Security-clause-value : goal.returns-in-Security-clause-value
returns-in-Security-clause-value g c = λ honest sure well. rw c.in-Security.is (c.refuse_security.ensures.value honest sure well)

pub returns-in-Instruct-clause-value : goal.returns-in-Instruct-clause-value
returns-in-Instruct-clause-value g c = λ honest sure well. rw c.in-Instruct.is (c.refuse_instruction.ensures.value honest sure well)

pub returns-in-Cancel-clause-value : goal.returns-in-Cancel-clause-value
returns-in-Cancel-clause-value g c = λ honest sure well. rw c.in-Cancel.is (c.refuse_cancellation.ensures.value honest sure well)

pub returns-in-Run-clause-value : goal.returns-in-Run-clause-value
returns-in-Run-clause-value g c = λ honest sure well. rw c.in-Run.is (c.refuse_run.ensures.value honest sure well)
