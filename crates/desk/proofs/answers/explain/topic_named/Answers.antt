use Rattle.desk.proofs.ExplainLemmas.{http_explained, input_explained}
use Rattle.desk.proofs.answers.explain.topic_named.Goals as goal

pub returns-clause-http : goal.returns-clause-http
returns-clause-http c = http_explained

pub returns-clause-input : goal.returns-clause-input
returns-clause-input c = input_explained
