use Rattle.desk_rules.proofs.WellFormedLemmas.{readable, readable_cancellation}
use Rattle.desk_book.proofs.FormedLemmas.{command_formed, formed_by}
use Rattle.desk_book.proofs.laws.reads_well_formed.Goals as goal

pub returns-clause-commands : goal.returns-clause-commands
returns-clause-commands c = command_formed

pub returns-clause-instructions : goal.returns-clause-instructions
returns-clause-instructions c = λ sender text mt i bic is. (bic, readable mt text i is)

pub returns-clause-cancellations : goal.returns-clause-cancellations
returns-clause-cancellations c = λ sender text mt order bic is. (bic, readable_cancellation mt text order is)

pub returns-clause-decided : goal.returns-clause-decided
returns-clause-decided c = formed_by
