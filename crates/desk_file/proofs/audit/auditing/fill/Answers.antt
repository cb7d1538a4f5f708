use Rattle.std.proofs.Common.{Option, Err, ◌∙◌, ap, refl, subst, sym, arith}
use Rattle.sqlite.specs.Effect.{Database}
use Rattle.sqlite.specs.State.{HasCleanDisk}
use Rattle.sql_tables.specs.Audits.{of_register}
use Rattle.sql_tables.specs.Ends.{IsSame}
use Rattle.sql_tables.specs.Versions.{schema_in, AreAllFormedIn}
use Rattle.sql_tables.specs.Order.{AreInOrder}
use Rattle.sql_tables.proofs.LookLemmas.{look_more}
use Rattle.sql_rows.proofs.AmountWalkLemmas.{cause_failed}
use Rattle.desk_file.specs.declared.audit.register.Reading.{Reading}
use Rattle.desk_file.specs.declared.audit.rest.Table.{Table}
use Rattle.desk_engine.specs.KeptHistory.{HoldsKept}
use Rattle.desk_file.specs.Reading.{HoldsFormed}
use Rattle.desk_file.proofs.HandedLemmas.{blame_fell, blame_handed, blame_none, blame_read, cause_handed, done_read, later_more, look_fell, look_handed, no_answer, not_done}
use Rattle.desk_file.proofs.RestLemmas.{filled, none_or_some, rest_again, whole_or_stops}
use Rattle.desk_file.proofs.audit.auditing.fill.Goals as goal

pub returns-in-None-clause-filled : goal.returns-in-None-clause-filled
returns-in-None-clause-filled g c = λ clean is_open has honest sure order formed whole.
    let s0 = g.S.Session.state c.args.conn.now in
    let s1 = g.S.Session.state c.read_register.new.conn in
    let v0 = g.R.Register.view c.args.register.now in
    let v1 = g.R.Register.view c.read_register.new.register in
    let v2 = g.R.Register.view c.first_other.new.register in
    let e1 = c.in_ok-read_register.ensures in
    let e2 = c.in_ok-table.ensures in
    let clean1 : HasCleanDisk s1 = (let less = e2.look.later.clean in omega (arith, less, clean)) in
    let same : IsSame s0 s1 = e1.look.ok clean1 is_open has in
    let has1 = ap (λ (d : Database). d.schema) same.now ∙ has in
    let honest1 = e2.read.later.honest honest in
    let sure1 = e1.done.sure honest1 sure in
    let read = e1.entries clean1 is_open has honest1 sure order formed c.in-Whole.is in
    let order1 = subst (λ (d : Database). AreInOrder (schema_in c.args.version) d.trees) (sym same.now) order in
    let formed1 = subst (λ (d : Database). AreAllFormedIn c.args.version d.trees) (sym same.now) formed in
    let held1 = subst (λ r. HoldsKept r v1.content.register v1.content) (sym e1.later.room) read.held in
    let rest = e2.says clean same.is_open has1 honest sure1 order1 formed1 held1 c.in-None.is in
    filled c.args.version s0.now s1.now v0.room v1.content v2.content same.now (e2.read.same honest sure1) read rest

pub returns-in_err-read_register-clause-exact : goal.returns-in_err-read_register-clause-exact
returns-in_err-read_register-clause-exact g c clean is_open has honest sure content filled = no_answer c.from_residual.result _ _ c.from_residual.ensures.1

pub returns-in-Stops-clause-exact : goal.returns-in-Stops-clause-exact
returns-in-Stops-clause-exact g c clean is_open has honest sure content filled = absurd (whole_or_stops _ _ (c.in_ok-read_register.ensures.exact clean is_open has honest sure content filled.read).0 c.in-Stops.is)

pub returns-in_err-table-clause-exact : goal.returns-in_err-table-clause-exact
returns-in_err-table-clause-exact g c clean is_open has honest sure content filled = no_answer c.from_residual-in_err-table.result _ _ c.from_residual-in_err-table.ensures.1

pub returns-in-Some-clause-exact : goal.returns-in-Some-clause-exact
returns-in-Some-clause-exact g c = λ clean is_open has honest sure content filled.
    let s0 = g.S.Session.state c.args.conn.now in
    let s1 = g.S.Session.state c.read_register.new.conn in
    let v0 = g.R.Register.view c.args.register.now in
    let v1 = g.R.Register.view c.read_register.new.register in
    let e1 = c.in_ok-read_register.ensures in
    let e2 = c.in_ok-table.ensures in
    let clean1 : HasCleanDisk s1 = (let less = e2.look.later.clean in omega (arith, less, clean)) in
    let same : IsSame s0 s1 = e1.look.ok clean1 is_open has in
    let has1 = ap (λ (d : Database). d.schema) same.now ∙ has in
    let honest1 = e2.read.later.honest honest in
    let read = e1.exact clean1 is_open has honest1 sure content filled.read in
    let holds = e1.holds honest1 sure read.0 in
    let held = subst (λ r. HoldsKept r v1.content.register v1.content) (sym e1.later.room) holds.held in
    let rest = rest_again c.args.version s0.now s1.now v0.room v1.room v1.content content same.now held read.1 filled in
    absurd (none_or_some _ _ (e2.exact clean same.is_open has1 honest (e1.done.sure honest1 sure) held holds.formed rest) c.in-Some.is)

pub returns-in-None-clause-holds : goal.returns-in-None-clause-holds
returns-in-None-clause-holds g c = λ honest sure whole.
    let v0 = g.R.Register.view c.args.register.now in
    let e1 = c.in_ok-read_register.ensures in
    let e2 = c.in_ok-table.ensures in
    let honest1 = e2.read.later.honest honest in
    subst (HoldsFormed v0.room) (sym (e2.read.same honest (e1.done.sure honest1 sure))) (e1.holds honest1 sure c.in-Whole.is)

pub returns-in_err-read_register-clause-filled : goal.returns-in_err-read_register-clause-filled
returns-in_err-read_register-clause-filled g c clean is_open has honest sure order formed = no_answer c.from_residual.result _ _ c.from_residual.ensures.1

pub returns-in_err-read_register-clause-holds : goal.returns-in_err-read_register-clause-holds
returns-in_err-read_register-clause-holds g c honest sure = no_answer c.from_residual.result _ _ c.from_residual.ensures.1

pub returns-in_err-read_register-clause-not_other : goal.returns-in_err-read_register-clause-not_other
returns-in_err-read_register-clause-not_other g c = no_answer c.from_residual.result _ _ c.from_residual.ensures.1

pub returns-in_err-read_register-clause-look : goal.returns-in_err-read_register-clause-look
returns-in_err-read_register-clause-look g c =
    let s0 = g.S.Session.state c.args.conn.now in
    let s1 = g.S.Session.state c.read_register.new.conn in
    look_handed Reading c.in_err-read_register.field-0.0 c.from_residual.result c.from_residual.ensures.1 s0 s1 c.in_err-read_register.ensures.look

pub returns-in_err-read_register-clause-cause : goal.returns-in_err-read_register-clause-cause
returns-in_err-read_register-clause-cause g c clean is_open has honest sure order formed =
    let s0 = g.S.Session.state c.args.conn.now in
    let s1 = g.S.Session.state c.read_register.new.conn in
    cause_handed Reading c.in_err-read_register.field-0.0 c.from_residual.result c.from_residual.ensures.1 s0 s1 (c.in_err-read_register.ensures.cause clean is_open has)

pub returns-in_err-read_register-clause-done : goal.returns-in_err-read_register-clause-done
returns-in_err-read_register-clause-done g c = not_done c.from_residual.result _ _ c.from_residual.ensures.1

pub returns-in_err-read_register-clause-blame : goal.returns-in_err-read_register-clause-blame
returns-in_err-read_register-clause-blame g c kept =
    let v0 = g.R.Register.view c.args.register.now in
    let v1 = g.R.Register.view c.read_register.new.register in
    blame_handed Reading c.in_err-read_register.field-0.0 c.from_residual.result c.from_residual.ensures.1 v0 v1 (c.in_err-read_register.ensures.blame kept)

pub returns-in-Stops-clause-blame : goal.returns-in-Stops-clause-blame
returns-in-Stops-clause-blame g c kept = blame_none tt _ _

pub returns-in_err-table-clause-filled : goal.returns-in_err-table-clause-filled
returns-in_err-table-clause-filled g c clean is_open has honest sure order formed = no_answer c.from_residual-in_err-table.result _ _ c.from_residual-in_err-table.ensures.1

pub returns-in_err-table-clause-holds : goal.returns-in_err-table-clause-holds
returns-in_err-table-clause-holds g c honest sure = no_answer c.from_residual-in_err-table.result _ _ c.from_residual-in_err-table.ensures.1

pub returns-in_err-table-clause-not_other : goal.returns-in_err-table-clause-not_other
returns-in_err-table-clause-not_other g c = no_answer c.from_residual-in_err-table.result _ _ c.from_residual-in_err-table.ensures.1

pub returns-in_err-table-clause-look : goal.returns-in_err-table-clause-look
returns-in_err-table-clause-look g c =
    let s0 = g.S.Session.state c.args.conn.now in
    let s1 = g.S.Session.state c.read_register.new.conn in
    let s2 = g.S.Session.state c.first_other.new.conn in
    look_fell (Option Table) c.in_err-table.field-0.0 c.from_residual-in_err-table.result c.from_residual-in_err-table.ensures.1 s0 s1 s2 c.in_ok-read_register.ensures.look c.in_err-table.ensures.look

pub returns-in_err-table-clause-cause : goal.returns-in_err-table-clause-cause
returns-in_err-table-clause-cause g c clean is_open has honest sure order formed =
    let s0 = g.S.Session.state c.args.conn.now in
    let s1 = g.S.Session.state c.read_register.new.conn in
    let s2 = g.S.Session.state c.first_other.new.conn in
    let v1 = g.R.Register.view c.read_register.new.register in
    let later = c.first_other.ensures.look.later in
    let clean1 : HasCleanDisk s1 = (let less = later.clean in omega (arith, less, clean)) in
    let same : IsSame s0 s1 = c.in_ok-read_register.ensures.look.ok clean1 is_open has in
    let order1 = subst (λ (d : Database). AreInOrder (schema_in c.args.version) d.trees) (sym same.now) order in
    let formed1 = subst (λ (d : Database). AreAllFormedIn c.args.version d.trees) (sym same.now) formed in
    cause_failed (Option Table) c.in_err-table.field-0.0 c.from_residual-in_err-table.result c.from_residual-in_err-table.ensures.1 s0 s1 s2 c.in_ok-read_register.ensures.look.later later
    (c.in_err-table.ensures.cause clean same.is_open (ap (λ (d : Database). d.schema) same.now ∙ has) honest (c.in_ok-read_register.ensures.done.sure (c.first_other.ensures.read.later.honest honest) sure) order1 formed1)

pub returns-in_err-table-clause-done : goal.returns-in_err-table-clause-done
returns-in_err-table-clause-done g c = not_done c.from_residual-in_err-table.result _ _ c.from_residual-in_err-table.ensures.1

pub returns-in_err-table-clause-later : goal.returns-in_err-table-clause-later
returns-in_err-table-clause-later g c =
    let v0 = g.R.Register.view c.args.register.now in
    let v1 = g.R.Register.view c.read_register.new.register in
    let v2 = g.R.Register.view c.first_other.new.register in
    later_more v0 v1 v2 c.in_ok-read_register.ensures.later c.first_other.ensures.read.later

pub returns-in_err-table-clause-blame : goal.returns-in_err-table-clause-blame
returns-in_err-table-clause-blame g c kept =
    let v0 = g.R.Register.view c.args.register.now in
    let v1 = g.R.Register.view c.read_register.new.register in
    let v2 = g.R.Register.view c.first_other.new.register in
    let read = c.in_err-table.ensures.read in
    blame_fell (Option Table) c.in_err-table.field-0.0 c.from_residual-in_err-table.result c.from_residual-in_err-table.ensures.1 v0 v1 v2 c.in_ok-read_register.ensures.done c.in_ok-read_register.ensures.later read.later (blame_read (of_register {X = Option Table} (Err c.in_err-table.field-0.0)) v1 v2 c.in_ok-read_register.ensures.done.stage read.blame)

pub returns-in-Some-clause-look : goal.returns-in-Some-clause-look
returns-in-Some-clause-look g c =
    let s0 = g.S.Session.state c.args.conn.now in
    let s1 = g.S.Session.state c.read_register.new.conn in
    let s2 = g.S.Session.state c.first_other.new.conn in
    look_more tt s0 s1 s2 c.in_ok-read_register.ensures.look c.in_ok-table.ensures.look

pub returns-in-Some-clause-done : goal.returns-in-Some-clause-done
returns-in-Some-clause-done g c =
    let v0 = g.R.Register.view c.args.register.now in
    let v1 = g.R.Register.view c.read_register.new.register in
    let v2 = g.R.Register.view c.first_other.new.register in
    done_read v0 v1 v2 c.in_ok-read_register.ensures.done c.in_ok-table.ensures.read

pub returns-in-Some-clause-later : goal.returns-in-Some-clause-later
returns-in-Some-clause-later g c =
    let v0 = g.R.Register.view c.args.register.now in
    let v1 = g.R.Register.view c.read_register.new.register in
    let v2 = g.R.Register.view c.first_other.new.register in
    later_more v0 v1 v2 c.in_ok-read_register.ensures.later c.in_ok-table.ensures.read.later

pub returns-in-Some-clause-blame : goal.returns-in-Some-clause-blame
returns-in-Some-clause-blame g c kept = blame_none tt _ _

pub returns-in-None-clause-look : goal.returns-in-None-clause-look
returns-in-None-clause-look g c =
    let s0 = g.S.Session.state c.args.conn.now in
    let s1 = g.S.Session.state c.read_register.new.conn in
    let s2 = g.S.Session.state c.first_other.new.conn in
    look_more tt s0 s1 s2 c.in_ok-read_register.ensures.look c.in_ok-table.ensures.look

pub returns-in-None-clause-done : goal.returns-in-None-clause-done
returns-in-None-clause-done g c =
    let v0 = g.R.Register.view c.args.register.now in
    let v1 = g.R.Register.view c.read_register.new.register in
    let v2 = g.R.Register.view c.first_other.new.register in
    done_read v0 v1 v2 c.in_ok-read_register.ensures.done c.in_ok-table.ensures.read

pub returns-in-None-clause-later : goal.returns-in-None-clause-later
returns-in-None-clause-later g c =
    let v0 = g.R.Register.view c.args.register.now in
    let v1 = g.R.Register.view c.read_register.new.register in
    let v2 = g.R.Register.view c.first_other.new.register in
    later_more v0 v1 v2 c.in_ok-read_register.ensures.later c.in_ok-table.ensures.read.later

pub returns-in-None-clause-blame : goal.returns-in-None-clause-blame
returns-in-None-clause-blame g c kept = blame_none tt _ _
