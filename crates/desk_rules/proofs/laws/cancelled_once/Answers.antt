use Rattle.desk_rules.proofs.Requests.{names_one, requested_for, one_request, settled_uncancelled}
use Rattle.desk_rules.proofs.laws.cancelled_once.Goals as goal

pub returns-clause-names : goal.returns-clause-names
returns-clause-names c = λ limit history m sender order was at. names_one limit history was m sender order at

pub returns-clause-requested : goal.returns-clause-requested
returns-clause-requested c = λ limit history k was. requested_for limit history was k

pub returns-clause-once : goal.returns-clause-once
returns-clause-once c = λ limit history m n k was a b. one_request limit history was m n k a b

pub returns-clause-not_settled : goal.returns-clause-not_settled
returns-clause-not_settled c = λ limit books s was are inside. settled_uncancelled limit books.history was books.pairs books.settled are.pairing are.settlement s inside
