use Rattle.desk_rules.proofs.SentNumbers.{sent_counted, sent_few, sent_numbered}
use Rattle.desk_rules.proofs.laws.sent_in_order.Goals as goal

pub returns-clause-numbered : goal.returns-clause-numbered
returns-clause-numbered c = λ books n message are is. sent_numbered books are n message is

pub returns-clause-counted : goal.returns-clause-counted
returns-clause-counted c = sent_counted

pub returns-clause-few : goal.returns-clause-few
returns-clause-few c = sent_few
