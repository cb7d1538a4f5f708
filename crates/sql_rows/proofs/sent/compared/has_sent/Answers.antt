use Rattle.std.proofs.Common.{◌≡◌, ◌<◌, ◌^◌, ◌∙◌, IfOk, IsTrue, ap, sym, subst, length, arith}
use Rattle.sqlite.specs.Effect.{Database}
use Rattle.sqlite.specs.State.{HasCleanDisk}
use Rattle.desk_rules.specs.Content.{Content}
use Rattle.desk_register.specs.View.{HasRead}
use Rattle.desk_register.proofs.ViewLemmas.{idle_goes}
use Rattle.desk_register.proofs.ReadLemmas.{read_idle, read_one, read_then}
use Rattle.sql_tables.specs.Ends.{HasLooked, IsSame}
use Rattle.sql_tables.specs.Audits.{of_register, of_tables}
use Rattle.sql_tables.specs.declared.fault.AuditFault.TheVariants.{Register, Tables}
use Rattle.sql_tables.proofs.LookLemmas.{cause_after, look_none, look_ok, look_then}
use Rattle.sql_tables.specs.Schema.{desk_schema}
use Rattle.sql_tables.specs.Forms.{AreAllFormed}
use Rattle.sql_tables.specs.ByNumber.{HasNoOther}
use Rattle.sql_rows.specs.SentTold.{AreTold}
use Rattle.sql_rows.proofs.SentComparedTable.{finish, found, no_other}
use Rattle.sql_rows.proofs.StepLemmas.{cause_error, cause_unasked, look_error, look_unasked, none_told, read_fault, read_still}
use Rattle.sql_rows.proofs.sent.compared.has_sent.Goals as goal

pub returns-clause-sent : goal.returns-clause-sent
returns-clause-sent g c = λ clean is_open has honest sure order formed.
    let s0 = g.S.Session.state c.args.conn.now in
    let s1 = g.S.Session.state c.has_no_other.new.conn in
    let v0 = g.R.Register.view c.args.register.now in
    let v1 = g.R.Register.view c.sent_count.new.self in
    let n = c.in_ok-has_no_other.ensures in
    let a = c.are_told.ensures in
    let e = c.in_ok-count.ensures in
    let count = c.in_ok-count.count in
    let clean1 : HasCleanDisk s1 = (let less = a.look.later.clean in omega arith) in
    let same : IsSame s0 s1 = n.look.ok clean1 is_open has in
    let has1 : s1.now.schema ≡ desk_schema = ap (λ (d : Database). d.schema) same.now ∙ has in
    let honest1 = a.read.later.honest honest in
    let sure1 = e.read.ok.sure honest1 sure in
    let few : count < 2 ^ 63 = omega arith in
    let is : count ≡ length v0.content.sent = e.value honest1 sure (idle_goes v0.stage c.requires.stage) in
    let none = (n.none clean1 is_open has).0 c.if-not-branch.false in
    let formed1 = subst (λ (d : Database). AreAllFormed d.trees) (sym same.now) formed in
    let told = a.told clean same.is_open has1 honest sure1 formed1.1.1.1.1.1.0.each in
    finish s0.now v0.content count c.are_told.result is few order formed none
    (subst (λ (x : Content). IfOk c.are_told.result (λ ok. IsTrue ok → AreTold (s0.now.trees 9) x.sent count)) (e.read.same honest1 sure)
    (subst (λ (d : Database). IfOk c.are_told.result (λ ok. IsTrue ok → AreTold (d.trees 9) v1.content.sent count)) same.now told))

pub returns-then-not-branch-clause-exact : goal.returns-then-not-branch-clause-exact
returns-then-not-branch-clause-exact g c = λ clean is_open has honest sure are.
    let db = (g.S.Session.state c.args.conn.now).now in
    let v0 = g.R.Register.view c.args.register.now in
    let is : c.in_ok-count.count ≡ length v0.content.sent = c.in_ok-count.ensures.value honest sure (idle_goes v0.stage c.requires.stage) in
    sym c.if-not-branch.true ∙ (c.in_ok-has_no_other.ensures.none clean is_open has).1 (subst (HasNoOther (db.trees 9)) (sym is) (no_other db v0.content.sent are))

pub returns-clause-exact : goal.returns-clause-exact
returns-clause-exact g c = λ clean is_open has honest sure.
    let s0 = g.S.Session.state c.args.conn.now in
    let s1 = g.S.Session.state c.has_no_other.new.conn in
    let v0 = g.R.Register.view c.args.register.now in
    let v1 = g.R.Register.view c.sent_count.new.self in
    let a = c.are_told.ensures in
    let e = c.in_ok-count.ensures in
    let clean1 : HasCleanDisk s1 = (let less = a.look.later.clean in omega arith) in
    let same : IsSame s0 s1 = c.in_ok-has_no_other.ensures.look.ok clean1 is_open has in
    let has1 : s1.now.schema ≡ desk_schema = ap (λ (d : Database). d.schema) same.now ∙ has in
    let honest1 = a.read.later.honest honest in
    let is : c.in_ok-count.count ≡ length v0.content.sent = e.value honest1 sure (idle_goes v0.stage c.requires.stage) in
    let told = a.exact clean same.is_open has1 honest (e.read.ok.sure honest1 sure) in
    found s0.now v0.content c.in_ok-count.count c.are_told.result is
    (subst (λ (x : Content). IfOk c.are_told.result (λ ok. AreTold (s0.now.trees 9) x.sent c.in_ok-count.count → IsTrue ok)) (e.read.same honest1 sure)
    (subst (λ (d : Database). IfOk c.are_told.result (λ ok. AreTold (d.trees 9) v1.content.sent c.in_ok-count.count → IsTrue ok)) same.now told))

pub returns-in_err-count-clause-sent : goal.returns-in_err-count-clause-sent
returns-in_err-count-clause-sent g c = λ clean is_open has honest sure order formed. none_told (Register c.in_err-count.field-0.0) c.from_residual.result c.from_residual.ensures.1 _

pub returns-in_err-count-clause-exact : goal.returns-in_err-count-clause-exact
returns-in_err-count-clause-exact g c = λ clean is_open has honest sure. none_told (Register c.in_err-count.field-0.0) c.from_residual.result c.from_residual.ensures.1 _

pub returns-in_err-count-clause-look : goal.returns-in_err-count-clause-look
returns-in_err-count-clause-look g c = look_unasked c.in_err-count.field-0.0 c.from_residual.result c.from_residual.ensures.1 (g.S.Session.state c.args.conn.now) (g.S.Session.state c.args.conn.now) (look_none tt (g.S.Session.state c.args.conn.now))

pub returns-in_err-count-clause-blame : goal.returns-in_err-count-clause-blame
returns-in_err-count-clause-blame g c = λ clean is_open has. cause_unasked c.in_err-count.field-0.0 c.from_residual.result c.from_residual.ensures.1 (g.S.Session.state c.args.conn.now) (g.S.Session.state c.args.conn.now)

pub returns-in_err-count-clause-read : goal.returns-in_err-count-clause-read
returns-in_err-count-clause-read g c = read_fault c.in_err-count.field-0.0 c.from_residual.result c.from_residual.ensures.1 (g.R.Register.view c.args.register.now) (g.R.Register.view c.sent_count.new.self) c.in_err-count.ensures.read

pub returns-then-count-gt-MOST-clause-look : goal.returns-then-count-gt-MOST-clause-look
returns-then-count-gt-MOST-clause-look g c = look_none tt (g.S.Session.state c.args.conn.now)

pub returns-then-count-gt-MOST-clause-read : goal.returns-then-count-gt-MOST-clause-read
returns-then-count-gt-MOST-clause-read g c = read_one c.in_ok-count.count (g.R.Register.view c.args.register.now) (g.R.Register.view c.sent_count.new.self) c.in_ok-count.ensures.read

pub returns-in_err-has_no_other-clause-sent : goal.returns-in_err-has_no_other-clause-sent
returns-in_err-has_no_other-clause-sent g c = λ clean is_open has honest sure order formed. none_told (Tables c.in_err-has_no_other.field-0.0) c.from_residual-in_err-has_no_other.result c.from_residual-in_err-has_no_other.ensures.1 _

pub returns-in_err-has_no_other-clause-exact : goal.returns-in_err-has_no_other-clause-exact
returns-in_err-has_no_other-clause-exact g c = λ clean is_open has honest sure. none_told (Tables c.in_err-has_no_other.field-0.0) c.from_residual-in_err-has_no_other.result c.from_residual-in_err-has_no_other.ensures.1 _

pub returns-in_err-has_no_other-clause-look : goal.returns-in_err-has_no_other-clause-look
returns-in_err-has_no_other-clause-look g c = look_error c.in_err-has_no_other.field-0.0 c.from_residual-in_err-has_no_other.result c.from_residual-in_err-has_no_other.ensures.1 (g.S.Session.state c.args.conn.now) (g.S.Session.state c.has_no_other.new.conn) c.in_err-has_no_other.ensures.look

pub returns-in_err-has_no_other-clause-blame : goal.returns-in_err-has_no_other-clause-blame
returns-in_err-has_no_other-clause-blame g c = λ clean is_open has. cause_error c.in_err-has_no_other.field-0.0 c.from_residual-in_err-has_no_other.result c.from_residual-in_err-has_no_other.ensures.1 (g.S.Session.state c.args.conn.now) (g.S.Session.state c.has_no_other.new.conn) (c.in_err-has_no_other.ensures.blame clean is_open has)

pub returns-in_err-has_no_other-clause-read : goal.returns-in_err-has_no_other-clause-read
returns-in_err-has_no_other-clause-read g c = read_still c.in_err-has_no_other.field-0.0 c.from_residual-in_err-has_no_other.result c.from_residual-in_err-has_no_other.ensures.1 (g.R.Register.view c.args.register.now) (g.R.Register.view c.sent_count.new.self) (read_one c.in_ok-count.count (g.R.Register.view c.args.register.now) (g.R.Register.view c.sent_count.new.self) c.in_ok-count.ensures.read)

pub returns-then-not-branch-clause-look : goal.returns-then-not-branch-clause-look
returns-then-not-branch-clause-look g c = look_ok _ tt (g.S.Session.state c.args.conn.now) (g.S.Session.state c.has_no_other.new.conn) c.in_ok-has_no_other.ensures.look

pub returns-then-not-branch-clause-read : goal.returns-then-not-branch-clause-read
returns-then-not-branch-clause-read g c = read_one c.in_ok-count.count (g.R.Register.view c.args.register.now) (g.R.Register.view c.sent_count.new.self) c.in_ok-count.ensures.read

pub are_told-requires-clause-stage : goal.are_told-requires-clause-stage
are_told-requires-clause-stage g c = read_idle (g.R.Register.view c.args.register.now) (g.R.Register.view c.sent_count.new.self) (read_one c.in_ok-count.count (g.R.Register.view c.args.register.now) (g.R.Register.view c.sent_count.new.self) c.in_ok-count.ensures.read) c.requires.stage

pub returns-clause-look : goal.returns-clause-look
returns-clause-look g c =
    let s0 = g.S.Session.state c.args.conn.now in
    let s1 = g.S.Session.state c.has_no_other.new.conn in
    let looked : HasLooked s0 s1 = look_ok _ tt s0 s1 c.in_ok-has_no_other.ensures.look in
    look_then tt (of_tables c.are_told.result) s0 s1 (g.S.Session.state c.are_told.new.conn) looked c.are_told.ensures.look

pub returns-clause-blame : goal.returns-clause-blame
returns-clause-blame g c =
    let s0 = g.S.Session.state c.args.conn.now in
    let s1 = g.S.Session.state c.has_no_other.new.conn in
    let looked : HasLooked s0 s1 = look_ok _ tt s0 s1 c.in_ok-has_no_other.ensures.look in
    cause_after (of_tables c.are_told.result) s0 s1 (g.S.Session.state c.are_told.new.conn) looked c.are_told.ensures.look.later c.are_told.ensures.blame

pub returns-clause-read : goal.returns-clause-read
returns-clause-read g c =
    let v0 = g.R.Register.view c.args.register.now in
    let v1 = g.R.Register.view c.sent_count.new.self in
    let read : HasRead v0 v1 = read_one c.in_ok-count.count v0 v1 c.in_ok-count.ensures.read in
    read_then v0 v1 (g.R.Register.view c.are_told.new.register) read (of_register c.are_told.result) c.are_told.ensures.read
