use Rattle.std.proofs.Common.{◌≡◌, IfSome, unwrap_or, sym, ap, subst, ◌∙◌, arith}
use Rattle.sqlite.specs.State.{HasCleanDisk}
use Rattle.desk_rules.specs.Questions.{sent_at}
use Rattle.sql_tables.proofs.LookLemmas.{look_then}
use Rattle.sql_rows.specs.Messages.{sent_to, IsSendable}
use Rattle.sql_rows.proofs.LookedLemmas.{caused_later, sent_still}
use Rattle.sql_rows.proofs.sent.messages.sent_at.Goals as goal

pub returns-clause-look : goal.returns-clause-look
returns-clause-look g c =
    look_then c.in_ok-number.field-0 c.message_numbered.result (g.S.Session.state c.args.conn.now) (g.S.Session.state c.number_to.new.conn) (g.S.Session.state c.message_numbered.new.conn) c.in_ok-number.ensures.look c.message_numbered.ensures.look

pub returns-clause-blame : goal.returns-clause-blame
returns-clause-blame g c clean is_open has messages are sendable =
    let s0 = g.S.Session.state c.args.conn.now in
    let s1 = g.S.Session.state c.number_to.new.conn in
    let s2 = g.S.Session.state c.message_numbered.new.conn in
    let walk = c.in_ok-number.ensures in
    let found = c.message_numbered.ensures in
    let clean1 : HasCleanDisk s1 = omega (arith, clean, found.look.later.clean) in
    let still = sent_still c.in_ok-number.field-0 s0 s1 s2 walk.look found.look.later clean is_open has messages are in
    let at : sent_at messages (unwrap_or c.in_ok-number.field-0 0) ≡ sent_at (sent_to messages c.args.bic) c.args.place = walk.value clean1 is_open has messages are in
    let its : sent_at messages c.in-Some.number ≡ sent_at (sent_to messages c.args.bic) c.args.place = sym (ap (λ o. sent_at messages (unwrap_or o 0)) c.in-Some.is) ∙ at in
    caused_later c.message_numbered.result s0 s1 s2 walk.look.later found.look.later
    (found.blame clean still.is_open still.schema messages still.sent (subst (λ o. IfSome o IsSendable) (sym its) sendable))
