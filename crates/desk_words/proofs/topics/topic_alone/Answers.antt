use Rattle.std.proofs.Common.{◌∙◌, ap, option_map}
use Rattle.desk_words.specs.Causes.{catalogue}
use Rattle.desk_words.specs.Topics.{other_text, others}
use Rattle.desk_words.proofs.TopicLemmas.{cause_alone, other_alone}
use Rattle.desk_words.proofs.topics.topic_alone.Goals as goal

pub returns-in-Some : goal.returns-in-Some
unfolding catalogue
returns-in-Some c = cause_alone c.args.key.now c.spelled_among.result c.spelled_among.ensures c.in-Some.cause c.in-Some.is

pub returns-in-None : goal.returns-in-None
unfolding catalogue others
returns-in-None c = other_alone c.args.key.now c.spelled_among.result c.spelled_among.ensures _ c.in-None.is (c.other_topic.ensures ∙ ap (option_map other_text) c.other_among.ensures)
