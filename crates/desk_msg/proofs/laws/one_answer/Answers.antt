use Rattle.desk_msg.proofs.TextLaws as laws
use Rattle.desk_msg.proofs.laws.one_answer.Goals as goal

pub returns-clause-message : goal.returns-clause-message
returns-clause-message c = laws.one_message_of_text

pub returns-clause-refusal : goal.returns-clause-refusal
returns-clause-refusal c = laws.one_refusal

pub returns-clause-never_both : goal.returns-clause-never_both
returns-clause-never_both c = laws.message_not_refusal
