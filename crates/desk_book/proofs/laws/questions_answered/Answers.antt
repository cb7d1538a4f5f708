use Rattle.desk_book.proofs.QuestionLaws.{holdings_told, sent_told, status_told}
use Rattle.desk_book.proofs.laws.questions_answered.Goals as goal

pub returns-clause-status : goal.returns-clause-status
returns-clause-status c = status_told

pub returns-clause-sent : goal.returns-clause-sent
returns-clause-sent c = sent_told

pub returns-clause-holdings : goal.returns-clause-holdings
returns-clause-holdings c = holdings_told
