use Rattle.std.proofs.Common.{Bool, Ok, Err, ◌≡◌, ◌∙◌, ap, refl, subst, sym, arith}
use Rattle.std.proofs.lemmas.Bool.{both_ways}
use Rattle.sqlite.specs.Effect.{Database}
use Rattle.sqlite.specs.Schema.{Schema}
use Rattle.sqlite.specs.State.{HasCleanDisk}
use Rattle.sql_tables.specs.Ends.{IsSame}
use Rattle.sql_tables.specs.Versions.{schema_in, AreAllFormedIn}
use Rattle.sql_tables.specs.Order.{AreInOrder}
use Rattle.sql_rows.proofs.AmountWalkLemmas.{cause_on}
use Rattle.sql_tables.specs.Audits.{of_tables}
use Rattle.sql_tables.proofs.LookLemmas.{look_none, look_ok, look_then}
use Rattle.desk_file.proofs.HandedLemmas.{blame_none, blame_told, cause_told, done_none, later_none, look_told, no_answer, not_done}
use Rattle.desk_file.proofs.KeptLemmas.{kept_by}
use Rattle.desk_file.proofs.RestLemmas.{audit_whole, filled_again}
use Rattle.desk_file.proofs.audit.auditing.audit_version.Goals as goal

pub returns-clause-whole : goal.returns-clause-whole
returns-clause-whole g c = λ clean is_open honest sure order.
    let s0 = g.S.Session.state c.args.conn.now in
    let s1 = g.S.Session.state c.has_version.new.conn in
    let v0 = g.R.Register.view c.args.register.now in
    let v2 = g.R.Register.view c.fill.new.register in
    let desk = c.if-not-has_desk_tables.ensures in
    let e1 = c.in_ok-has_version.ensures in
    let e2 = c.fill.ensures in
    let schema : s0.now.schema ≡ schema_in c.args.version = desk.exact.0 refl in
    let order0 : AreInOrder (schema_in c.args.version) s0.now.trees = subst (λ (x : Schema). AreInOrder x s0.now.trees) schema order in
    let formed0 : AreAllFormedIn c.args.version s0.now.trees = desk.formed refl is_open order0 in
    let clean1 : HasCleanDisk s1 = (let less = e2.look.later.clean in omega (arith, less, clean)) in
    let same : IsSame s0 s1 = e1.look.ok clean1 is_open schema in
    let schema1 : s1.now.schema ≡ schema_in c.args.version = ap (λ (d : Database). d.schema) same.now ∙ schema in
    let version = e1.says clean1 is_open schema formed0 c.if-not-branch.false in
    let order1 = subst (λ (d : Database). AreInOrder (schema_in c.args.version) d.trees) (sym same.now) order0 in
    let formed1 = subst (λ (d : Database). AreAllFormedIn c.args.version d.trees) (sym same.now) formed0 in
    audit_whole c.args.version s0.now s1.now v0.room v2.content c.fill.result same.now schema version (e2.filled clean same.is_open schema1 honest sure order1 formed1)

pub returns-then-not-has_desk_tables-clause-exact : goal.returns-then-not-has_desk_tables-clause-exact
returns-then-not-has_desk_tables-clause-exact g c clean is_open honest sure content audited = absurd (let desk = c.if-not-has_desk_tables.ensures.exact.1 audited.schema in cc)

pub returns-in_err-has_version-clause-exact : goal.returns-in_err-has_version-clause-exact
returns-in_err-has_version-clause-exact g c clean is_open honest sure content audited = no_answer c.from_residual.result _ _ c.from_residual.ensures.1

pub returns-then-not-branch-clause-exact : goal.returns-then-not-branch-clause-exact
returns-then-not-branch-clause-exact g c clean is_open honest sure content audited =
    absurd (both_ways _ c.if-not-branch.true (c.in_ok-has_version.ensures.all clean is_open audited.schema audited.says))

pub returns-clause-exact : goal.returns-clause-exact
returns-clause-exact g c = λ clean is_open honest sure content audited.
    let s0 = g.S.Session.state c.args.conn.now in
    let s1 = g.S.Session.state c.has_version.new.conn in
    let v0 = g.R.Register.view c.args.register.now in
    let schema = audited.schema in
    let e1 = c.in_ok-has_version.ensures in
    let e2 = c.fill.ensures in
    let clean1 : HasCleanDisk s1 = (let less = e2.look.later.clean in omega (arith, less, clean)) in
    let same : IsSame s0 s1 = e1.look.ok clean1 is_open schema in
    e2.exact clean same.is_open (ap (λ (d : Database). d.schema) same.now ∙ schema) honest sure content (filled_again c.args.version s0.now s1.now v0.room content same.now audited)

pub returns-clause-cause : goal.returns-clause-cause
returns-clause-cause g c = λ clean is_open honest sure order.
    let s0 = g.S.Session.state c.args.conn.now in
    let s1 = g.S.Session.state c.has_version.new.conn in
    let s2 = g.S.Session.state c.fill.new.conn in
    let desk = c.if-not-has_desk_tables.ensures in
    let e1 = c.in_ok-has_version.ensures in
    let e2 = c.fill.ensures in
    let schema : s0.now.schema ≡ schema_in c.args.version = desk.exact.0 refl in
    let order0 : AreInOrder (schema_in c.args.version) s0.now.trees = subst (λ (x : Schema). AreInOrder x s0.now.trees) schema order in
    let formed0 : AreAllFormedIn c.args.version s0.now.trees = desk.formed refl is_open order0 in
    let clean1 : HasCleanDisk s1 = (let less = e2.look.later.clean in omega (arith, less, clean)) in
    let same : IsSame s0 s1 = e1.look.ok clean1 is_open schema in
    let schema1 : s1.now.schema ≡ schema_in c.args.version = ap (λ (d : Database). d.schema) same.now ∙ schema in
    let order1 = subst (λ (d : Database). AreInOrder (schema_in c.args.version) d.trees) (sym same.now) order0 in
    let formed1 = subst (λ (d : Database). AreAllFormedIn c.args.version d.trees) (sym same.now) formed0 in
    cause_on c.fill.result s0 s1 s2 e1.look.later e2.look.later (e2.cause clean same.is_open schema1 honest sure order1 formed1)

pub returns-then-not-has_desk_tables-clause-look : goal.returns-then-not-has_desk_tables-clause-look
returns-then-not-has_desk_tables-clause-look g c = look_none tt (g.S.Session.state c.args.conn.now)

pub returns-then-not-has_desk_tables-clause-done : goal.returns-then-not-has_desk_tables-clause-done
returns-then-not-has_desk_tables-clause-done g c = done_none _ c.requires.stage

pub returns-then-not-has_desk_tables-clause-later : goal.returns-then-not-has_desk_tables-clause-later
returns-then-not-has_desk_tables-clause-later g c = later_none _

pub returns-then-not-has_desk_tables-clause-blame : goal.returns-then-not-has_desk_tables-clause-blame
returns-then-not-has_desk_tables-clause-blame g c kept = blame_none tt _ _

pub returns-then-not-has_desk_tables-clause-kept : goal.returns-then-not-has_desk_tables-clause-kept
returns-then-not-has_desk_tables-clause-kept g c clean is_open now = refl

pub returns-in_err-has_version-clause-whole : goal.returns-in_err-has_version-clause-whole
returns-in_err-has_version-clause-whole g c clean is_open honest sure order = no_answer c.from_residual.result _ _ c.from_residual.ensures.1

pub returns-in_err-has_version-clause-holds : goal.returns-in_err-has_version-clause-holds
returns-in_err-has_version-clause-holds g c honest sure = no_answer c.from_residual.result _ _ c.from_residual.ensures.1

pub returns-in_err-has_version-clause-other_tables : goal.returns-in_err-has_version-clause-other_tables
returns-in_err-has_version-clause-other_tables g c = no_answer c.from_residual.result _ _ c.from_residual.ensures.1

pub returns-in_err-has_version-clause-look : goal.returns-in_err-has_version-clause-look
returns-in_err-has_version-clause-look g c =
    let s0 = g.S.Session.state c.args.conn.now in
    let s1 = g.S.Session.state c.has_version.new.conn in
    look_told c.in_err-has_version.field-0.0 c.from_residual.result c.from_residual.ensures.1 Bool s0 s1 c.in_err-has_version.ensures.look

pub returns-in_err-has_version-clause-kept : goal.returns-in_err-has_version-clause-kept
returns-in_err-has_version-clause-kept g c clean is_open =
    let s0 = g.S.Session.state c.args.conn.now in
    let s1 = g.S.Session.state c.has_version.new.conn in
    let schema : s0.now.schema ≡ schema_in c.args.version = c.if-not-has_desk_tables.ensures.exact.0 refl in
    kept_by {X = Bool} (Err c.in_err-has_version.field-0.0) s0 s1 c.in_err-has_version.ensures.look clean is_open schema

pub returns-in_err-has_version-clause-cause : goal.returns-in_err-has_version-clause-cause
returns-in_err-has_version-clause-cause g c clean is_open honest sure order =
    let s0 = g.S.Session.state c.args.conn.now in
    let s1 = g.S.Session.state c.has_version.new.conn in
    let schema : s0.now.schema ≡ schema_in c.args.version = c.if-not-has_desk_tables.ensures.exact.0 refl in
    cause_told c.in_err-has_version.field-0.0 c.from_residual.result c.from_residual.ensures.1 s0 s1 (c.in_err-has_version.ensures.blame clean is_open schema)

pub returns-in_err-has_version-clause-done : goal.returns-in_err-has_version-clause-done
returns-in_err-has_version-clause-done g c = not_done c.from_residual.result _ _ c.from_residual.ensures.1

pub returns-in_err-has_version-clause-later : goal.returns-in_err-has_version-clause-later
returns-in_err-has_version-clause-later g c = later_none _

pub returns-in_err-has_version-clause-blame : goal.returns-in_err-has_version-clause-blame
returns-in_err-has_version-clause-blame g c kept = blame_told c.in_err-has_version.field-0.0 c.from_residual.result c.from_residual.ensures.1 _ _

pub returns-then-not-branch-clause-look : goal.returns-then-not-branch-clause-look
returns-then-not-branch-clause-look g c =
    let s0 = g.S.Session.state c.args.conn.now in
    let s1 = g.S.Session.state c.has_version.new.conn in
    look_ok c.in_ok-has_version.field-0 tt s0 s1 c.in_ok-has_version.ensures.look

pub returns-then-not-branch-clause-kept : goal.returns-then-not-branch-clause-kept
returns-then-not-branch-clause-kept g c clean is_open =
    let s0 = g.S.Session.state c.args.conn.now in
    let s1 = g.S.Session.state c.has_version.new.conn in
    let schema : s0.now.schema ≡ schema_in c.args.version = c.if-not-has_desk_tables.ensures.exact.0 refl in
    kept_by (Ok c.in_ok-has_version.field-0) s0 s1 c.in_ok-has_version.ensures.look clean is_open schema

pub returns-then-not-branch-clause-done : goal.returns-then-not-branch-clause-done
returns-then-not-branch-clause-done g c = done_none _ c.requires.stage

pub returns-then-not-branch-clause-later : goal.returns-then-not-branch-clause-later
returns-then-not-branch-clause-later g c = later_none _

pub returns-then-not-branch-clause-blame : goal.returns-then-not-branch-clause-blame
returns-then-not-branch-clause-blame g c kept = blame_none tt _ _

pub returns-clause-look : goal.returns-clause-look
returns-clause-look g c =
    let s0 = g.S.Session.state c.args.conn.now in
    let s1 = g.S.Session.state c.has_version.new.conn in
    let s2 = g.S.Session.state c.fill.new.conn in
    look_then {X = Unit {0}} tt (of_tables c.fill.result) s0 s1 s2 (look_ok c.in_ok-has_version.field-0 tt s0 s1 c.in_ok-has_version.ensures.look) c.fill.ensures.look

pub returns-clause-kept : goal.returns-clause-kept
returns-clause-kept g c clean is_open =
    let s0 = g.S.Session.state c.args.conn.now in
    let s1 = g.S.Session.state c.has_version.new.conn in
    let s2 = g.S.Session.state c.fill.new.conn in
    let schema : s0.now.schema ≡ schema_in c.args.version = c.if-not-has_desk_tables.ensures.exact.0 refl in
    kept_by (of_tables c.fill.result) s0 s2 (look_then {X = Unit {0}} tt (of_tables c.fill.result) s0 s1 s2 (look_ok c.in_ok-has_version.field-0 tt s0 s1 c.in_ok-has_version.ensures.look) c.fill.ensures.look) clean is_open schema
