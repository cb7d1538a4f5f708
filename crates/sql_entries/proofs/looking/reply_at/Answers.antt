use Rattle.desk_register.specs.Looked.{kept_at}
use Rattle.sql_entries.proofs.CauseLemmas.{memory_caused}
use Rattle.std.proofs.Common.{◌∙◌}
use Rattle.sql_entries.specs.Shown.{HasShortNumbers}
use Rattle.sql_entries.proofs.FormedLemmas.{at_number}
use Rattle.sql_entries.proofs.looking.reply_at.Goals as goal

pub returns-clause-blame : goal.returns-clause-blame
returns-clause-blame g c clean is_open has register are formed =
    memory_caused (g.S.Session.state c.args.conn.now) (g.S.Session.state c.reply_rows.new.conn) c.first_reply.result
    (c.first_reply.ensures.all (kept_at register c.args.number) (c.deref.ensures.value ∙ c.in_ok-rows.ensures.shown clean is_open has register are) (at_number (λ kept. HasShortNumbers kept.reply) register c.args.number formed))
