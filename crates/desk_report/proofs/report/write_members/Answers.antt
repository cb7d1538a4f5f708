use Rattle.std.proofs.Common.{◌<◌, ◌≤◌, refl, sym, ◌∙◌, arith}
use Rattle.desk_report.proofs.PartLemmas.{step_asked, step_broke, step_end, step_unasked, writing_begins}
use Rattle.desk_report.proofs.PieceLemmas.{ready_still}
use Rattle.desk_report.proofs.report.write_members.Goals as goal
use Rattle.desk_report.proofs.report.write_members.Goals.{then-asks+in_ok-write_member, else-asks}

pub parts-init : goal.parts-init
parts-init g c = writing_begins c.args.parts (g.R.Register.view c.args.register.now) (g.W.Write.contents c.args.writer.now)

pub write_member-requires : goal.write_member-requires
write_member-requires g c = record { ready = ready_still (g.R.Register.view c.args.register.now) (g.R.Register.view c.parts.register) c.requires.ready c.parts.invariant.read }

pub returns-in_err-write_member-clause-written : goal.returns-in_err-write_member-clause-written
returns-in_err-write_member-clause-written g c =
    let view = g.R.Register.view in
    let within : c.parts.index < 5 = omega (arith, c.parts-test.true) in
    step_broke c.args.parts (view c.args.register.now) (view c.parts.register) c.parts.index c.parts.is_later (g.W.Write.contents c.args.writer.now) (g.W.Write.contents c.parts.writer) c.parts.invariant _ within refl c.requires.ready
    (sym c.asks.ensures ∙ c.if-asks.true) (view c.write_member.new.register) (g.W.Write.contents c.write_member.new.writer) c.in_err-write_member.field-0.0 c.from_residual.result c.from_residual.ensures.1 c.in_err-write_member.ensures.read.later
    c.in_err-write_member.ensures.written

pub parts-preserved : goal.parts-preserved
parts-preserved g c =
    let view = g.R.Register.view in
    let contents = g.W.Write.contents in
    let within : c.parts.index < 5 = omega (arith, c.parts-test.true) in
    elim c.if-asks.branch [
      | then-asks+in_ok-write_member w ↦
          rw (w.register-is, w.writer-is, w.is_later-is)
          (step_asked c.args.parts (view c.args.register.now) (view c.parts.register) c.parts.index c.parts.is_later (contents c.args.writer.now) (contents c.parts.writer) c.parts.invariant _ within refl (sym c.asks.ensures ∙ w.if-asks.true)
          (view w.write_member.new.register) (contents w.write_member.new.writer) w.in_ok-write_member.ensures.read w.in_ok-write_member.ensures.written)
      | else-asks w ↦
          rw (w.register-is, w.writer-is, w.is_later-is)
          (step_unasked c.args.parts (view c.args.register.now) (view c.parts.register) c.parts.index c.parts.is_later (contents c.args.writer.now) (contents c.parts.writer) c.parts.invariant _ within refl (sym c.asks.ensures ∙ w.if-asks.false))
    ]

pub returns-clause-written : goal.returns-clause-written
returns-clause-written g c =
    let enough : 5 ≤ c.parts.index = omega (arith, c.parts-test.false) in
    step_end c.args.parts (g.R.Register.view c.args.register.now) (g.R.Register.view c.parts.register) c.parts.index c.parts.is_later (g.W.Write.contents c.args.writer.now) (g.W.Write.contents c.parts.writer) c.parts.invariant enough
