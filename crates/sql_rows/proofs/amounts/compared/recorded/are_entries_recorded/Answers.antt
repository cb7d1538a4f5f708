use Rattle.std.proofs.Common.{◌≡◌, ◌+◌, ◌≤◌, length, IsTrue, sym, ◌∙◌, arith}
use Rattle.desk_rules.specs.Content.{history_of}
use Rattle.desk_register.proofs.ViewLemmas.{idle_goes}
use Rattle.desk_register.proofs.ReadLemmas.{read_idle, read_more, read_one}
use Rattle.sql_tables.specs.declared.fault.AuditFault.TheVariants.{Register}
use Rattle.sql_tables.proofs.LookLemmas.{look_more, look_none}
use Rattle.sql_rows.specs.Amounts.{AreAmounts}
use Rattle.sql_rows.specs.Recorded.{AreFirstRecorded, IsNumberRecorded, SaysAll}
use Rattle.sql_rows.proofs.StepLemmas.{cause_later_so, cause_unasked, look_unasked, none_told, read_fault}
use Rattle.sql_rows.proofs.AmountWalkLemmas.{all_first, as_many, in_turn, look_failed, moved, next_first, none_first, read_failed}
use Rattle.sql_rows.proofs.amounts.compared.recorded.are_entries_recorded.Goals as goal

pub returns-then-not-branch-clause-exact : goal.returns-then-not-branch-clause-exact
returns-then-not-branch-clause-exact g c = λ clean is_open has honest sure all.
    let v0 = g.R.Register.view c.args.register.now in
    let i = c.loop-before.invariant in
    let so = c.in_ok-is_number_recorded.ensures in
    let counted = as_many v0.content c.in_ok-count.count (i.counted (so.read.later.honest honest) sure) in
    sym c.if-not-branch.true ∙ moved (g.S.Session.state c.args.conn.now) (g.S.Session.state c.loop-before.conn) (g.S.Session.state c.is_number_recorded.new.conn)
    v0 (g.R.Register.view c.loop-before.register) (g.R.Register.view c.is_number_recorded.new.register) so.look.later so.read.later
    (λ db content. SaysAll db content → length (history_of content) ≤ c.in_ok-count.count → IsTrue c.in_ok-is_number_recorded.field-0) i.look i.read so.exact clean is_open has honest sure all counted

pub loop-before-init : goal.loop-before-init
loop-before-init g c =
    let s0 = g.S.Session.state c.args.conn.now in
    let v0 = g.R.Register.view c.args.register.now in
    let counted = c.in_ok-count.ensures in
    record {
      look = look_none tt s0;
      read = read_one c.in_ok-count.count v0 (g.R.Register.view c.count.new.self) counted.read;
      counted = λ honest sure. counted.value honest sure (idle_goes v0.stage c.requires.stage);
      said = λ clean is_open has honest sure amounts. none_first s0.now v0.content;
    }

pub is_number_recorded-requires : goal.is_number_recorded-requires
is_number_recorded-requires g c = record { stage = read_idle (g.R.Register.view c.args.register.now) (g.R.Register.view c.loop-before.register) c.loop-before.invariant.read c.requires.stage }

pub returns-in_err-count-clause-says : goal.returns-in_err-count-clause-says
returns-in_err-count-clause-says g c = λ clean is_open has honest sure amounts. none_told (Register c.in_err-count.field-0.0) c.from_residual.result c.from_residual.ensures.1 _

pub returns-in_err-count-clause-exact : goal.returns-in_err-count-clause-exact
returns-in_err-count-clause-exact g c = λ clean is_open has honest sure all. none_told (Register c.in_err-count.field-0.0) c.from_residual.result c.from_residual.ensures.1 _

pub returns-in_err-count-clause-look : goal.returns-in_err-count-clause-look
returns-in_err-count-clause-look g c = look_unasked c.in_err-count.field-0.0 c.from_residual.result c.from_residual.ensures.1 (g.S.Session.state c.args.conn.now) (g.S.Session.state c.args.conn.now) (look_none tt (g.S.Session.state c.args.conn.now))

pub returns-in_err-count-clause-blame : goal.returns-in_err-count-clause-blame
returns-in_err-count-clause-blame g c = λ clean is_open has amounts. cause_unasked c.in_err-count.field-0.0 c.from_residual.result c.from_residual.ensures.1 (g.S.Session.state c.args.conn.now) (g.S.Session.state c.args.conn.now)

pub returns-in_err-count-clause-read : goal.returns-in_err-count-clause-read
returns-in_err-count-clause-read g c = read_fault c.in_err-count.field-0.0 c.from_residual.result c.from_residual.ensures.1 (g.R.Register.view c.args.register.now) (g.R.Register.view c.count.new.self) c.in_err-count.ensures.read

pub returns-in_err-is_number_recorded-clause-says : goal.returns-in_err-is_number_recorded-clause-says
returns-in_err-is_number_recorded-clause-says g c = λ clean is_open has honest sure amounts. none_told c.in_err-is_number_recorded.field-0.0 c.from_residual-in_err-is_number_recorded.result c.from_residual-in_err-is_number_recorded.ensures.1 _

pub returns-in_err-is_number_recorded-clause-exact : goal.returns-in_err-is_number_recorded-clause-exact
returns-in_err-is_number_recorded-clause-exact g c = λ clean is_open has honest sure all. none_told c.in_err-is_number_recorded.field-0.0 c.from_residual-in_err-is_number_recorded.result c.from_residual-in_err-is_number_recorded.ensures.1 _

pub returns-in_err-is_number_recorded-clause-look : goal.returns-in_err-is_number_recorded-clause-look
returns-in_err-is_number_recorded-clause-look g c = look_failed c.in_err-is_number_recorded.field-0.0 c.from_residual-in_err-is_number_recorded.result c.from_residual-in_err-is_number_recorded.ensures.1 (g.S.Session.state c.args.conn.now) (g.S.Session.state c.loop-before.conn) (g.S.Session.state c.is_number_recorded.new.conn) c.loop-before.invariant.look c.in_err-is_number_recorded.ensures.look

pub returns-in_err-is_number_recorded-clause-blame : goal.returns-in_err-is_number_recorded-clause-blame
returns-in_err-is_number_recorded-clause-blame g c = cause_later_so AreAmounts c.in_err-is_number_recorded.field-0.0 c.from_residual-in_err-is_number_recorded.result c.from_residual-in_err-is_number_recorded.ensures.1 (g.S.Session.state c.args.conn.now) (g.S.Session.state c.loop-before.conn) (g.S.Session.state c.is_number_recorded.new.conn) c.loop-before.invariant.look c.in_err-is_number_recorded.ensures.look.later c.in_err-is_number_recorded.ensures.blame

pub returns-in_err-is_number_recorded-clause-read : goal.returns-in_err-is_number_recorded-clause-read
returns-in_err-is_number_recorded-clause-read g c = read_failed c.in_err-is_number_recorded.field-0.0 c.from_residual-in_err-is_number_recorded.result c.from_residual-in_err-is_number_recorded.ensures.1 (g.R.Register.view c.args.register.now) (g.R.Register.view c.loop-before.register) (g.R.Register.view c.is_number_recorded.new.register) c.loop-before.invariant.read c.in_err-is_number_recorded.ensures.read

pub returns-then-not-branch-clause-look : goal.returns-then-not-branch-clause-look
returns-then-not-branch-clause-look g c = look_more tt (g.S.Session.state c.args.conn.now) (g.S.Session.state c.loop-before.conn) (g.S.Session.state c.is_number_recorded.new.conn) c.loop-before.invariant.look c.in_ok-is_number_recorded.ensures.look

pub returns-then-not-branch-clause-read : goal.returns-then-not-branch-clause-read
returns-then-not-branch-clause-read g c = read_more tt (g.R.Register.view c.args.register.now) (g.R.Register.view c.loop-before.register) (g.R.Register.view c.is_number_recorded.new.register) c.loop-before.invariant.read c.in_ok-is_number_recorded.ensures.read

pub loop-before-preserved : goal.loop-before-preserved
loop-before-preserved g c =
    let s0 = g.S.Session.state c.args.conn.now in
    let s1 = g.S.Session.state c.loop-before.conn in
    let s2 = g.S.Session.state c.is_number_recorded.new.conn in
    let v0 = g.R.Register.view c.args.register.now in
    let v1 = g.R.Register.view c.loop-before.register in
    let v2 = g.R.Register.view c.is_number_recorded.new.register in
    let i = c.loop-before.invariant in
    let so = c.in_ok-is_number_recorded.ensures in
    let n = c.loop-before.before in
    record {
      look = look_more tt s0 s1 s2 i.look so.look;
      read = read_more tt v0 v1 v2 i.read so.read;
      counted = λ honest sure. i.counted (so.read.later.honest honest) sure;
      said = λ clean is_open has honest sure amounts.
          let both = in_turn s0 s1 s2 v0 v1 v2 i.look i.read so.look.later so.read.later
          (λ db content. AreAmounts db → AreFirstRecorded db content n) (λ db content. AreAmounts db → IsNumberRecorded db content (n + 1))
          i.said
          (λ clean is_open has honest sure amounts. so.says clean is_open has honest sure amounts c.if-not-branch.false) clean is_open has honest sure in
          next_first s0.now v0.content n (both.0 amounts) (both.1 amounts);
    }

pub returns-clause-says : goal.returns-clause-says
returns-clause-says g c = λ clean is_open has honest sure amounts yes.
    let v0 = g.R.Register.view c.args.register.now in
    let i = c.loop-before.invariant in
    let counted = i.counted honest sure in
    let last : c.loop-before.before ≡ length v0.content.register = omega (arith, counted) in
    all_first (g.S.Session.state c.args.conn.now).now v0.content c.loop-before.before last (i.said clean is_open has honest sure amounts)
