use Rattle.std.proofs.Common.{◌≡◌, not, unwrap_or, sym, ap, ◌∙◌, arith}
use Rattle.desk_rules.specs.Questions.{sent_at}
use Rattle.sql_tables.specs.Ends.{ForCause}
use Rattle.sql_tables.proofs.EndLemmas.{cause_onward}
use Rattle.sql_tables.proofs.LookLemmas.{look_more, look_none, look_ok}
use Rattle.sql_tables.proofs.ResultLemmas.{on_error}
use Rattle.sql_rows.specs.Messages.{sent_to}
use Rattle.sql_rows.proofs.LookedLemmas.{look_failed, stands_at}
use Rattle.sql_rows.proofs.SentWalkLemmas.{none_more, none_passed, one_more_passed}
use Rattle.sql_rows.proofs.sent.messages.number_to.Goals as goal

pub loop-passed-init : goal.loop-passed-init
loop-passed-init g c = record { look = look_none tt (g.S.Session.state c.args.conn.now); walked = λ clean is_open has messages are. none_passed messages c.args.bic }

pub loop-passed-preserved : goal.loop-passed-preserved
loop-passed-preserved g c =
    let s0 = g.S.Session.state c.args.conn.now in
    let s1 = g.S.Session.state c.loop-passed.conn in
    let s2 = g.S.Session.state c.next_to.new.conn in
    let i = c.loop-passed.invariant in
    let e = c.in_ok-last.ensures in
    let number = unwrap_or c.loop-passed.last 0 in
    record {
      look = look_more _ s0 s1 s2 i.look e.look;
      walked = λ clean is_open has messages are.
          let at = stands_at s0 s1 s2 i.look e.look.later c.args.bic number c.loop-passed._passed i.walked clean is_open has messages are in
          let next = rw c.unwrap_or.ensures at (e.value clean at.still.is_open at.still.schema messages at.still.sent) in
          one_more_passed messages c.args.bic number c.loop-passed._passed at.passed c.in_ok-last.last (c.is_none.ensures ∙ ap not c.if-is_none.false) (next at.small);
    }

pub returns-then-is_none-clause-value : goal.returns-then-is_none-clause-value
returns-then-is_none-clause-value g c clean is_open has messages are =
    let s0 = g.S.Session.state c.args.conn.now in
    let s1 = g.S.Session.state c.loop-passed.conn in
    let s2 = g.S.Session.state c.next_to.new.conn in
    let i = c.loop-passed.invariant in
    let e = c.in_ok-last.ensures in
    let number = unwrap_or c.loop-passed.last 0 in
    let at = stands_at s0 s1 s2 i.look e.look.later c.args.bic number c.loop-passed._passed i.walked clean is_open has messages are in
    let next = rw c.unwrap_or.ensures at (e.value clean at.still.is_open at.still.schema messages at.still.sent) in
    sym (none_more messages c.args.bic number c.loop-passed._passed at.passed c.in_ok-last.last c.if-is_none.ensures (next at.small) c.args.place c.loop-passed-test.true)

pub returns-then-is_none-clause-look : goal.returns-then-is_none-clause-look
returns-then-is_none-clause-look g c =
    let s0 = g.S.Session.state c.args.conn.now in
    let s2 = g.S.Session.state c.next_to.new.conn in
    look_ok _ _ s0 s2 (look_more _ s0 (g.S.Session.state c.loop-passed.conn) s2 c.loop-passed.invariant.look c.in_ok-last.ensures.look)

pub returns-in_err-last-clause-look : goal.returns-in_err-last-clause-look
returns-in_err-last-clause-look g c =
    look_failed c.in_err-last.field-0.0 c.from_residual.result c.from_residual.ensures.1
    (g.S.Session.state c.args.conn.now) (g.S.Session.state c.loop-passed.conn) (g.S.Session.state c.next_to.new.conn) c.loop-passed.invariant.look c.in_err-last.ensures.look

pub returns-in_err-last-clause-blame : goal.returns-in_err-last-clause-blame
returns-in_err-last-clause-blame g c clean is_open has messages are =
    let s0 = g.S.Session.state c.args.conn.now in
    let s1 = g.S.Session.state c.loop-passed.conn in
    let s2 = g.S.Session.state c.next_to.new.conn in
    let i = c.loop-passed.invariant in
    let e = c.in_err-last.ensures in
    let fault = c.in_err-last.field-0.0 in
    let at = stands_at s0 s1 s2 i.look e.look.later c.args.bic (unwrap_or c.loop-passed.last 0) c.loop-passed._passed i.walked clean is_open has messages are in
    let why = rw c.unwrap_or.ensures at (e.blame clean at.still.is_open at.still.schema messages at.still.sent) in
    on_error c.from_residual.result fault (ForCause s0 s2) c.from_residual.ensures.1 (cause_onward s0 s1 s2 fault i.look.later e.look.later (why at.small))

pub returns-clause-value : goal.returns-clause-value
returns-clause-value g c clean is_open has messages are =
    let all : c.loop-passed._passed ≡ c.args.place = omega arith in
    (c.loop-passed.invariant.walked clean is_open has messages are).message ∙ ap (sent_at (sent_to messages c.args.bic)) all

pub returns-clause-look : goal.returns-clause-look
returns-clause-look g c = look_ok _ _ (g.S.Session.state c.args.conn.now) (g.S.Session.state c.loop-passed.conn) c.loop-passed.invariant.look
