use Rattle.desk_words.specs.Causes.{catalogue}
use Rattle.desk_words.proofs.TopicLemmas.{none_with, told_with}
use Rattle.desk_words.proofs.topics.topic_with.Goals as goal

pub returns-in-Some : goal.returns-in-Some
unfolding catalogue
returns-in-Some c = told_with c.args.key.now c.spelled_among.result c.spelled_among.ensures c.args.name.now c.in-Some.cause _ c.in-Some.is c.named_topic.ensures

pub returns-in-None : goal.returns-in-None
unfolding catalogue
returns-in-None c = none_with c.args.key.now c.spelled_among.result c.spelled_among.ensures c.args.name.now c.in-None.is
