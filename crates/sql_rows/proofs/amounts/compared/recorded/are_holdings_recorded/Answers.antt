use Rattle.std.proofs.Common.{None, Some, subst, sym, ◌∙◌, arith}
use Rattle.desk_rules.specs.Content.{Content, history_of}
use Rattle.desk_register.specs.Looked.{IsHoldingAfter}
use Rattle.desk_register.proofs.ViewLemmas.{idle_goes}
use Rattle.desk_holdings.proofs.AboveLemmas.{left_most}
use Rattle.sql_rows.specs.declared.amounts.key.AmountKey.TheVariants.{Balance}
use Rattle.sql_rows.specs.Amounts.{AreAmounts}
use Rattle.desk_register.specs.View.{HasRead}
use Rattle.sql_tables.specs.declared.fault.AuditFault.TheVariants.{Register}
use Rattle.sql_tables.proofs.LookLemmas.{look_more, look_none}
use Rattle.desk_register.proofs.ReadLemmas.{read_idle, read_more, read_none}
use Rattle.sql_rows.specs.Recorded.{AreRecordedTo, IsRecorded, SaysAll}
use Rattle.sql_rows.proofs.StepLemmas.{cause_later_so, cause_unasked, look_unasked, none_left, none_told, read_fault_later}
use Rattle.sql_rows.proofs.AmountWalkLemmas.{fewer_left, found_so, in_turn, is_so, look_failed, no_more, none_beyond, none_yet, one_more, read_failed}
use Rattle.sql_rows.proofs.amounts.compared.recorded.are_holdings_recorded.Goals as goal

pub loop-told-init : goal.loop-told-init
loop-told-init g c =
    let db = (g.S.Session.state c.args.conn.now).now in
    let content = (g.R.Register.view c.args.register.now).content in
    record {
      look = look_none tt (g.S.Session.state c.args.conn.now);
      read = read_none (g.R.Register.view c.args.register.now);
      said = λ clean is_open has honest sure amounts. none_yet db content c.args.account;
      few = λ honest sure known. (let most = left_most (history_of content) None in omega (arith, most));
    }

pub returns-in_err-is_recorded-clause-look : goal.returns-in_err-is_recorded-clause-look
returns-in_err-is_recorded-clause-look g c =
    look_failed c.in_err-is_recorded.field-0.0 c.from_residual-in_err-is_recorded.result c.from_residual-in_err-is_recorded.ensures.1
    (g.S.Session.state c.args.conn.now) (g.S.Session.state c.loop-told.conn) (g.S.Session.state c.is_recorded.new.conn) c.loop-told.invariant.look c.in_err-is_recorded.ensures.look

pub returns-in_err-is_recorded-clause-read : goal.returns-in_err-is_recorded-clause-read
returns-in_err-is_recorded-clause-read g c =
    let v0 = g.R.Register.view c.args.register.now in
    let v1 = g.R.Register.view c.loop-told.register in
    let v2 = g.R.Register.view c.holding_after.new.self in
    read_failed c.in_err-is_recorded.field-0.0 c.from_residual-in_err-is_recorded.result c.from_residual-in_err-is_recorded.ensures.1 v0 v2 (g.R.Register.view c.is_recorded.new.register)
    (read_more c.in_ok-holding.field-0 v0 v1 v2 c.loop-told.invariant.read c.in_ok-holding.ensures.read) c.in_err-is_recorded.ensures.read

pub loop-told-preserved : goal.loop-told-preserved
loop-told-preserved g c =
    let s0 = g.S.Session.state c.args.conn.now in
    let s1 = g.S.Session.state c.loop-told.conn in
    let s2 = g.S.Session.state c.is_recorded.new.conn in
    let v0 = g.R.Register.view c.args.register.now in
    let v1 = g.R.Register.view c.loop-told.register in
    let v2 = g.R.Register.view c.holding_after.new.self in
    let v3 = g.R.Register.view c.is_recorded.new.register in
    let i = c.loop-told.invariant in
    let found = c.in_ok-holding.ensures in
    let so = c.in_ok-is_recorded.ensures in
    let holding = c.in-Some.holding in
    let read02 : HasRead v0 v2 = read_more c.in_ok-holding.field-0 v0 v1 v2 i.read found.read in
    record {
      look = look_more _ s0 s1 s2 i.look so.look;
      read = read_more _ v0 v2 v3 read02 so.read;
      said = λ clean is_open has honest sure amounts.
          let honest1 = found.read.later.honest (so.read.later.honest honest) in
          let sure1 = i.read.ok.sure honest1 sure in
          let idle1 = read_idle v0 v1 i.read c.requires.stage in
          let next1 = subst (IsHoldingAfter v1.content c.args.account c.loop-told.last) c.in-Some.is (found.value (so.read.later.honest honest) sure1 (idle_goes v1.stage idle1)) in
          let next = subst (λ (x : Content). IsHoldingAfter x c.args.account c.loop-told.last (Some holding)) (i.read.same honest1 sure) next1 in
          let both = in_turn s0 s1 s2 v0 v2 v3 i.look read02 so.look.later so.read.later
          (λ db content. AreAmounts db → AreRecordedTo db content c.args.account c.loop-told.last) (λ db content. AreAmounts db → IsRecorded db content (Balance c.args.account holding.isin))
          (λ clean is_open has honest sure. i.said clean is_open has (found.read.later.honest honest) sure)
          (λ clean is_open has honest sure amounts. so.says clean is_open has honest sure amounts c.if-not-branch.false) clean is_open has honest sure in
          one_more s0.now v0.content c.args.account c.loop-told.last (both.0 amounts) holding next (both.1 amounts);
      few = λ honest sure known.
          let honest1 = found.read.later.honest (so.read.later.honest honest) in
          let sure1 = i.read.ok.sure honest1 sure in
          let idle1 = read_idle v0 v1 i.read c.requires.stage in
          let next1 = subst (IsHoldingAfter v1.content c.args.account c.loop-told.last) c.in-Some.is (found.value (so.read.later.honest honest) sure1 (idle_goes v1.stage idle1)) in
          let next = subst (λ (x : Content). IsHoldingAfter x c.args.account c.loop-told.last (Some holding)) (i.read.same honest1 sure) next1 in
          fewer_left v0.content c.args.account c.loop-told.last holding known next c.loop-told._told (i.few honest1 sure known);
    }

pub returns-then-not-branch-clause-exact : goal.returns-then-not-branch-clause-exact
returns-then-not-branch-clause-exact g c = λ clean is_open has honest sure all few.
    let v0 = g.R.Register.view c.args.register.now in
    let v1 = g.R.Register.view c.loop-told.register in
    let v2 = g.R.Register.view c.holding_after.new.self in
    let i = c.loop-told.invariant in
    let so = c.in_ok-is_recorded.ensures in
    let read02 : HasRead v0 v2 = read_more c.in_ok-holding.field-0 v0 v1 v2 i.read c.in_ok-holding.ensures.read in
    sym c.if-not-branch.true ∙ found_so (g.S.Session.state c.args.conn.now) (g.S.Session.state c.loop-told.conn) (g.S.Session.state c.is_recorded.new.conn)
    v0 v2 (g.R.Register.view c.is_recorded.new.register) i.look read02 so.look.later so.read.later SaysAll so.exact clean is_open has honest sure all

pub returns-clause-exact : goal.returns-clause-exact
returns-clause-exact g c = λ clean is_open has honest sure all few.
    let v0 = g.R.Register.view c.args.register.now in
    let v1 = g.R.Register.view c.loop-told.register in
    let i = c.loop-told.invariant in
    let found = c.in_ok-beyond.ensures in
    let honest1 = found.read.later.honest honest in
    let next1 = found.value honest (i.read.ok.sure honest1 sure) (idle_goes v1.stage (read_idle v0 v1 i.read c.requires.stage)) in
    let next = subst (λ (x : Content). IsHoldingAfter x c.args.account c.loop-told.last c.in_ok-beyond.beyond) (i.read.same honest1 sure) next1 in
    let known = all.readable.registered c.args.account in
    is_so c.is_none.result (sym c.is_none.ensures ∙ none_beyond v0.content c.args.account c.loop-told.last c.in_ok-beyond.beyond c.loop-told._told known next (i.few honest1 sure known) (omega arith))

pub is_recorded-requires : goal.is_recorded-requires
is_recorded-requires g c = record { stage = read_idle (g.R.Register.view c.args.register.now) (g.R.Register.view c.holding_after.new.self) (read_more c.in_ok-holding.field-0 (g.R.Register.view c.args.register.now) (g.R.Register.view c.loop-told.register) (g.R.Register.view c.holding_after.new.self) c.loop-told.invariant.read c.in_ok-holding.ensures.read) c.requires.stage }

pub returns-in_err-holding-clause-says : goal.returns-in_err-holding-clause-says
returns-in_err-holding-clause-says g c = λ clean is_open has honest sure amounts. none_told (Register c.in_err-holding.field-0.0) c.from_residual.result c.from_residual.ensures.1 _

pub returns-in_err-holding-clause-exact : goal.returns-in_err-holding-clause-exact
returns-in_err-holding-clause-exact g c = λ clean is_open has honest sure all few. none_told (Register c.in_err-holding.field-0.0) c.from_residual.result c.from_residual.ensures.1 _

pub returns-in_err-holding-clause-look : goal.returns-in_err-holding-clause-look
returns-in_err-holding-clause-look g c = look_unasked c.in_err-holding.field-0.0 c.from_residual.result c.from_residual.ensures.1 (g.S.Session.state c.args.conn.now) (g.S.Session.state c.loop-told.conn) c.loop-told.invariant.look

pub returns-in_err-holding-clause-blame : goal.returns-in_err-holding-clause-blame
returns-in_err-holding-clause-blame g c = λ clean is_open has amounts. cause_unasked c.in_err-holding.field-0.0 c.from_residual.result c.from_residual.ensures.1 (g.S.Session.state c.args.conn.now) (g.S.Session.state c.loop-told.conn)

pub returns-in_err-holding-clause-read : goal.returns-in_err-holding-clause-read
returns-in_err-holding-clause-read g c = read_fault_later c.in_err-holding.field-0.0 c.from_residual.result c.from_residual.ensures.1 (g.R.Register.view c.args.register.now) (g.R.Register.view c.loop-told.register) (g.R.Register.view c.holding_after.new.self) c.loop-told.invariant.read c.in_err-holding.ensures.read

pub returns-in_default-clause-read : goal.returns-in_default-clause-read
returns-in_default-clause-read g c = read_more c.in_ok-holding.field-0 (g.R.Register.view c.args.register.now) (g.R.Register.view c.loop-told.register) (g.R.Register.view c.holding_after.new.self) c.loop-told.invariant.read c.in_ok-holding.ensures.read

pub returns-in_err-is_recorded-clause-says : goal.returns-in_err-is_recorded-clause-says
returns-in_err-is_recorded-clause-says g c = λ clean is_open has honest sure amounts. none_told c.in_err-is_recorded.field-0.0 c.from_residual-in_err-is_recorded.result c.from_residual-in_err-is_recorded.ensures.1 _

pub returns-in_err-is_recorded-clause-exact : goal.returns-in_err-is_recorded-clause-exact
returns-in_err-is_recorded-clause-exact g c = λ clean is_open has honest sure all few. none_told c.in_err-is_recorded.field-0.0 c.from_residual-in_err-is_recorded.result c.from_residual-in_err-is_recorded.ensures.1 _

pub returns-in_err-is_recorded-clause-blame : goal.returns-in_err-is_recorded-clause-blame
returns-in_err-is_recorded-clause-blame g c = cause_later_so AreAmounts c.in_err-is_recorded.field-0.0 c.from_residual-in_err-is_recorded.result c.from_residual-in_err-is_recorded.ensures.1 (g.S.Session.state c.args.conn.now) (g.S.Session.state c.loop-told.conn) (g.S.Session.state c.is_recorded.new.conn) c.loop-told.invariant.look c.in_err-is_recorded.ensures.look.later c.in_err-is_recorded.ensures.blame

pub returns-then-not-branch-clause-look : goal.returns-then-not-branch-clause-look
returns-then-not-branch-clause-look g c = look_more tt (g.S.Session.state c.args.conn.now) (g.S.Session.state c.loop-told.conn) (g.S.Session.state c.is_recorded.new.conn) c.loop-told.invariant.look c.in_ok-is_recorded.ensures.look

pub returns-then-not-branch-clause-read : goal.returns-then-not-branch-clause-read
returns-then-not-branch-clause-read g c =
    let v0 = g.R.Register.view c.args.register.now in
    let v2 = g.R.Register.view c.holding_after.new.self in
    let read02 : HasRead v0 v2 = read_more c.in_ok-holding.field-0 v0 (g.R.Register.view c.loop-told.register) v2 c.loop-told.invariant.read c.in_ok-holding.ensures.read in
    read_more tt v0 v2 (g.R.Register.view c.is_recorded.new.register) read02 c.in_ok-is_recorded.ensures.read

pub returns-in_err-beyond-clause-says : goal.returns-in_err-beyond-clause-says
returns-in_err-beyond-clause-says g c = λ clean is_open has honest sure amounts. none_told (Register c.in_err-beyond.field-0.0) c.from_residual-in_err-beyond.result c.from_residual-in_err-beyond.ensures.1 _

pub returns-in_err-beyond-clause-exact : goal.returns-in_err-beyond-clause-exact
returns-in_err-beyond-clause-exact g c = λ clean is_open has honest sure all few. none_told (Register c.in_err-beyond.field-0.0) c.from_residual-in_err-beyond.result c.from_residual-in_err-beyond.ensures.1 _

pub returns-in_err-beyond-clause-look : goal.returns-in_err-beyond-clause-look
returns-in_err-beyond-clause-look g c = look_unasked c.in_err-beyond.field-0.0 c.from_residual-in_err-beyond.result c.from_residual-in_err-beyond.ensures.1 (g.S.Session.state c.args.conn.now) (g.S.Session.state c.loop-told.conn) c.loop-told.invariant.look

pub returns-in_err-beyond-clause-blame : goal.returns-in_err-beyond-clause-blame
returns-in_err-beyond-clause-blame g c = λ clean is_open has amounts. cause_unasked c.in_err-beyond.field-0.0 c.from_residual-in_err-beyond.result c.from_residual-in_err-beyond.ensures.1 (g.S.Session.state c.args.conn.now) (g.S.Session.state c.loop-told.conn)

pub returns-in_err-beyond-clause-read : goal.returns-in_err-beyond-clause-read
returns-in_err-beyond-clause-read g c = read_fault_later c.in_err-beyond.field-0.0 c.from_residual-in_err-beyond.result c.from_residual-in_err-beyond.ensures.1 (g.R.Register.view c.args.register.now) (g.R.Register.view c.loop-told.register) _ c.loop-told.invariant.read c.in_err-beyond.ensures.read

pub returns-clause-says : goal.returns-clause-says
returns-clause-says g c = λ clean is_open has honest sure amounts yes.
    let v0 = g.R.Register.view c.args.register.now in
    let v1 = g.R.Register.view c.loop-told.register in
    let i = c.loop-told.invariant in
    let found = c.in_ok-beyond.ensures in
    let beyond = c.in_ok-beyond.beyond in
    let honest1 = found.read.later.honest honest in
    let next1 = found.value honest (i.read.ok.sure honest1 sure) (idle_goes v1.stage (read_idle v0 v1 i.read c.requires.stage)) in
    let next = subst (λ (x : Content). IsHoldingAfter x c.args.account c.loop-told.last beyond) (i.read.same honest1 sure) next1 in
    no_more (g.S.Session.state c.args.conn.now).now v0.content c.args.account c.loop-told.last (i.said clean is_open has honest1 sure amounts)
    (none_left v0.content c.args.account c.loop-told.last beyond c.is_none.result c.is_none.ensures yes next)

pub returns-clause-read : goal.returns-clause-read
returns-clause-read g c = read_more c.in_ok-beyond.beyond (g.R.Register.view c.args.register.now) (g.R.Register.view c.loop-told.register) _ c.loop-told.invariant.read c.in_ok-beyond.ensures.read
