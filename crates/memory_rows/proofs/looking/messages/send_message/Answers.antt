use Rattle.std.proofs.Common.{ap}
use Rattle.memory_rows.specs.Lists.{content_in, listed}
use Rattle.memory_rows.proofs.BalanceLemmas.{on_ok}
use Rattle.memory_rows.proofs.SoundLemmas.{sound_sent}
use Rattle.memory_rows.proofs.looking.messages.send_message.Goals as goal

pub returns-clause-sent : goal.returns-clause-sent
returns-clause-sent c = on_ok c.push_sent.result (ap content_in) (rw c.trimmed_message.ensures at c.push_sent.ensures.sent)

pub returns-clause-sound : goal.returns-clause-sound
returns-clause-sound c sound = on_ok c.push_sent.result (sound_sent (listed c.args.lists.now) (listed c.push_sent.new.lists) c.args.message sound) (rw c.trimmed_message.ensures at c.push_sent.ensures.sent)
