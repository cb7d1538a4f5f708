use Rattle.std.proofs.Common.{◌≡◌, ◌+◌, ◌∙◌, ap, sym, subst, arith}
use Rattle.std.specs.List.{AllByRecursion}
use Rattle.sqlite.specs.Effect.{Database}
use Rattle.sqlite.specs.State.{HasCleanDisk}
use Rattle.desk_rules.specs.Content.{Content}
use Rattle.sql_tables.specs.Ends.{IsSame}
use Rattle.sql_tables.specs.Schema.{desk_schema, sent_table}
use Rattle.sql_tables.specs.Forms.{HasForm}
use Rattle.sql_tables.proofs.LookLemmas.{look_more, look_none}
use Rattle.desk_register.proofs.ReadLemmas.{read_idle, read_more, read_none}
use Rattle.sql_rows.specs.SentTold.{IsTold}
use Rattle.sql_rows.proofs.SentComparedTable.{told_next}
use Rattle.sql_rows.proofs.StepLemmas.{cause_later, look_later, none_told, read_later}
use Rattle.sql_rows.proofs.sent.compared.are_told.Goals as goal

pub loop-before-preserved : goal.loop-before-preserved
loop-before-preserved g c =
    let s0 = g.S.Session.state c.args.conn.now in
    let s1 = g.S.Session.state c.loop-before.conn in
    let s2 = g.S.Session.state c.is_told.new.conn in
    let v0 = g.R.Register.view c.args.register.now in
    let v1 = g.R.Register.view c.loop-before.register in
    let v2 = g.R.Register.view c.is_told.new.register in
    let i = c.loop-before.invariant in
    let e = c.in_ok-is_told.ensures in
    let n = c.loop-before.before in
    record {
      look = look_more tt s0 s1 s2 i.look e.look;
      read = read_more tt v0 v1 v2 i.read e.read;
      told = λ clean is_open has honest sure formed.
          let clean1 : HasCleanDisk s1 = (let less = e.look.later.clean in omega arith) in
          let same : IsSame s0 s1 = i.look.ok clean1 is_open has in
          let has1 : s1.now.schema ≡ desk_schema = ap (λ (d : Database). d.schema) same.now ∙ has in
          let honest1 = e.read.later.honest honest in
          let so = i.told clean1 is_open has honest1 sure formed in
          let formed1 = subst (λ (d : Database). AllByRecursion (HasForm sent_table) (d.trees 9)) (sym same.now) formed in
          let here = e.told clean same.is_open has1 honest (i.read.ok.sure honest1 sure) formed1 c.if-not-branch.false in
          let here0 = subst (λ (d : Database). IsTold (d.trees 9) v1.content.sent (n + 1)) same.now here in
          told_next (s0.now.trees 9) v0.content.sent n so (subst (λ (x : Content). IsTold (s0.now.trees 9) x.sent (n + 1)) (i.read.same honest1 sure) here0);
    }

pub loop-before-init : goal.loop-before-init
loop-before-init g c = record {
  look = look_none tt (g.S.Session.state c.args.conn.now);
  read = read_none (g.R.Register.view c.args.register.now);
  told = λ clean is_open has honest sure formed number some low. absurd (omega (arith, some, low));
}

pub is_told-requires-clause-stage : goal.is_told-requires-clause-stage
is_told-requires-clause-stage g c = read_idle (g.R.Register.view c.args.register.now) (g.R.Register.view c.loop-before.register) c.loop-before.invariant.read c.requires.stage

pub returns-in_err-is_told-clause-told : goal.returns-in_err-is_told-clause-told
returns-in_err-is_told-clause-told g c = λ clean is_open has honest sure formed. none_told c.in_err-is_told.field-0.0 c.from_residual.result c.from_residual.ensures.1 _

pub returns-in_err-is_told-clause-exact : goal.returns-in_err-is_told-clause-exact
returns-in_err-is_told-clause-exact g c = λ clean is_open has honest sure. none_told c.in_err-is_told.field-0.0 c.from_residual.result c.from_residual.ensures.1 _

pub returns-in_err-is_told-clause-look : goal.returns-in_err-is_told-clause-look
returns-in_err-is_told-clause-look g c = look_later c.in_err-is_told.field-0.0 c.from_residual.result c.from_residual.ensures.1 (g.S.Session.state c.args.conn.now) (g.S.Session.state c.loop-before.conn) (g.S.Session.state c.is_told.new.conn) c.loop-before.invariant.look c.in_err-is_told.ensures.look

pub returns-in_err-is_told-clause-blame : goal.returns-in_err-is_told-clause-blame
returns-in_err-is_told-clause-blame g c = cause_later c.in_err-is_told.field-0.0 c.from_residual.result c.from_residual.ensures.1 (g.S.Session.state c.args.conn.now) (g.S.Session.state c.loop-before.conn) (g.S.Session.state c.is_told.new.conn) c.loop-before.invariant.look c.in_err-is_told.ensures.look.later c.in_err-is_told.ensures.blame

pub returns-in_err-is_told-clause-read : goal.returns-in_err-is_told-clause-read
returns-in_err-is_told-clause-read g c = read_later c.in_err-is_told.field-0.0 c.from_residual.result c.from_residual.ensures.1 (g.R.Register.view c.args.register.now) (g.R.Register.view c.loop-before.register) (g.R.Register.view c.is_told.new.register) c.loop-before.invariant.read c.in_err-is_told.ensures.read

pub returns-then-not-branch-clause-exact : goal.returns-then-not-branch-clause-exact
returns-then-not-branch-clause-exact g c = λ clean is_open has honest sure told.
    let s0 = g.S.Session.state c.args.conn.now in
    let s1 = g.S.Session.state c.loop-before.conn in
    let v0 = g.R.Register.view c.args.register.now in
    let v1 = g.R.Register.view c.loop-before.register in
    let i = c.loop-before.invariant in
    let e = c.in_ok-is_told.ensures in
    let n = c.loop-before.before in
    let clean1 : HasCleanDisk s1 = (let less = e.look.later.clean in omega (arith, clean)) in
    let same : IsSame s0 s1 = i.look.ok clean1 is_open has in
    let has1 : s1.now.schema ≡ desk_schema = ap (λ (d : Database). d.schema) same.now ∙ has in
    let honest1 = e.read.later.honest honest in
    let here0 = told (n + 1) (omega arith) (omega arith) in
    let here1 = subst (λ (x : Content). IsTold (s0.now.trees 9) x.sent (n + 1)) (sym (i.read.same honest1 sure)) here0 in
    let here = subst (λ (d : Database). IsTold (d.trees 9) v1.content.sent (n + 1)) (sym same.now) here1 in
    sym c.if-not-branch.true ∙ e.exact clean same.is_open has1 honest (i.read.ok.sure honest1 sure) here

pub returns-then-not-branch-clause-look : goal.returns-then-not-branch-clause-look
returns-then-not-branch-clause-look g c = look_more tt (g.S.Session.state c.args.conn.now) (g.S.Session.state c.loop-before.conn) (g.S.Session.state c.is_told.new.conn) c.loop-before.invariant.look c.in_ok-is_told.ensures.look

pub returns-then-not-branch-clause-read : goal.returns-then-not-branch-clause-read
returns-then-not-branch-clause-read g c = read_more tt (g.R.Register.view c.args.register.now) (g.R.Register.view c.loop-before.register) (g.R.Register.view c.is_told.new.register) c.loop-before.invariant.read c.in_ok-is_told.ensures.read

pub returns-clause-told : goal.returns-clause-told
returns-clause-told g c = λ clean is_open has honest sure formed yes number some low. c.loop-before.invariant.told clean is_open has honest sure formed number some (omega (arith, low))
