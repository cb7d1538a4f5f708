use Rattle.std.proofs.Common.{arith}
use Rattle.desk_words.proofs.TopicLemmas.{spelled, unspelled}
use Rattle.desk_words.proofs.topics.spells.Goals as goal

pub returns-in-Ok : goal.returns-in-Ok
returns-in-Ok c = spelled c.args.number c.in-Ok.read c.args.text.now c.in-Ok.ensures.value.0.0.0 c.in-Ok.ensures.value.0.1

pub returns-in-Err : goal.returns-in-Err
returns-in-Err c = unspelled c.args.number c.args.text.now (omega arith) c.in-Err.ensures.value.0
