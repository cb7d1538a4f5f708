use Rattle.desk_book.proofs.ConfirmedRuns as laws
use Rattle.desk_book.proofs.laws.accepted_stays.Goals as goal

pub returns-clause-none : goal.returns-clause-none
returns-clause-none c = laws.none_accepted

pub returns-clause-stays : goal.returns-clause-stays
returns-clause-stays c = laws.ran
