use Rattle.std.proofs.Common.{subst}
use Rattle.std.specs.Io.KnownBytes.{Appends}
use Rattle.desk_words.specs.Topics.{words_quoted}
use Rattle.desk.proofs.ExplainLemmas.{explained_by, unexplained}
use Rattle.desk.proofs.answers.explain.answer_explain.Goals as goal

pub returns-in_ok-write_topic-in-Some-clause-told : goal.returns-in_ok-write_topic-in-Some-clause-told
returns-in_ok-write_topic-in-Some-clause-told g c =
    let P = Appends (g.W.Write.contents c.args.writer.now) (g.W.Write.contents c.write_topic.new.writer) in
    explained_by (words_quoted c.args.quoted) c.topic_named.result P c.topic_named.ensures.value c.in-Some.topic c.in-Some.is c.in_ok-write_topic-in-Some.ensures.written

pub returns-in_ok-put-in-None-clause-told : goal.returns-in_ok-put-in-None-clause-told
returns-in_ok-put-in-None-clause-told g c =
    let P = Appends (g.W.Write.contents c.args.writer.now) (g.W.Write.contents c.put.new.self) in
    unexplained (words_quoted c.args.quoted) c.topic_named.result P c.topic_named.ensures.value c.in-None.is (subst P c.as_bytes.ensures.value c.in_ok-put-in-None.ensures.bytes)
