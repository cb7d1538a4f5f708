use Rattle.desk_book.proofs.ConfirmedRuns as laws
use Rattle.desk_book.proofs.laws.changes_are_confirmed.Goals as goal

pub returns : goal.returns
returns c = laws.changes_are_confirmed
