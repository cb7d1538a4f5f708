use Rattle.std.proofs.Common.{ℕ, refl, subst, sym}
use Rattle.desk_engine.specs.Applied.{Keeps}
use Rattle.desk.proofs.LeftLemmas.{have_same, have_stage}
use Rattle.desk.proofs.OverviewLemmas.{told_overview}
use Rattle.desk.proofs.answers.report.tell_overview.Goals as goal

pub returns-clause-told : goal.returns-clause-told
returns-clause-told g c = λ books honest most keeps.
    let contents = g.W.Write.contents in
    let v0 = g.D.Register.view c.args.register.now in
    let w = c.write_shown-written.ensures in
    let sure = c.requires.ready.sure refl (w.read.later.honest honest) in
    let in_room : Keeps v0.room books v0.content = subst (λ (k : ℕ). Keeps k books v0.content) (sym most) keeps.tables in
    told_overview (contents c.args.writer.now) (contents c.write_shown-written.new.writer) (contents c.tell_end.new.writer) c.args.shown books v0.content keeps.tables c.tell_end.result c.args.format c.write_shown-written.result
    (λ is. w.written is books honest sure in_room) c.tell_end.ensures.told

pub returns-clause-stage : goal.returns-clause-stage
returns-clause-stage g c = have_stage (g.D.Register.view c.args.register.now) (g.D.Register.view c.write_shown-written.new.register) _ (c.requires.ready.stage refl) c.write_shown-written.ensures.read

pub returns-clause-same : goal.returns-clause-same
returns-clause-same g c = have_same (g.D.Register.view c.args.register.now) (g.D.Register.view c.write_shown-written.new.register) _ (c.requires.ready.stage refl) c.write_shown-written.ensures.read

pub returns-clause-later : goal.returns-clause-later
returns-clause-later g c = c.write_shown-written.ensures.read.later
