use Rattle.desk_rules.proofs.AskedAgain.{asked_again, confirmed_still}
use Rattle.desk_rules.proofs.SentFronts.{sent_front}
use Rattle.desk_rules.proofs.laws.sent_for_good.Goals as goal

pub returns-clause-sent : goal.returns-clause-sent
returns-clause-sent c = sent_front

pub returns-clause-asked : goal.returns-clause-asked
returns-clause-asked c = asked_again

pub returns-clause-confirmed : goal.returns-clause-confirmed
returns-clause-confirmed c = confirmed_still
