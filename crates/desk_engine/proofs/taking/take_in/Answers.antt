use Rattle.desk_register.proofs.ViewLemmas.{idle_goes}
use Rattle.desk_engine.proofs.NextLemmas.{can_apply, decided_so}
use Rattle.desk_engine.proofs.ReplayLemmas.{blames_no_step, later_done}
use Rattle.desk_engine.proofs.TakenLemmas.{refused, repeated}
use Rattle.desk_engine.proofs.TakingLemmas.{blames_so, done_so, left_so, recovered_blame, recovered_later, recovered_left, stays_done}
use Rattle.desk_engine.proofs.taking.take_in.Goals as goal

pub returns-in-Ok-Repeat-clause-decided : goal.returns-in-Ok-Repeat-clause-decided
returns-in-Ok-Repeat-clause-decided g c books honest sure keeps =
    let v0 = g.R.Register.view c.args.register.now in
    let d = c.in-Ok-Repeat.ensures in record {
      verdict = repeated v0.room books c.args.entry c.in-Ok-Repeat.field-0 c.in-Ok-Repeat.field-0-0 (d.verdict books honest sure (idle_goes v0.stage c.requires.stage) keeps.tables) c.in-Ok-Repeat.field-0-is;
      same = d.read.same honest sure;
    }

pub returns-in-Ok-Refuse-clause-decided : goal.returns-in-Ok-Refuse-clause-decided
returns-in-Ok-Refuse-clause-decided g c books honest sure keeps =
    let v0 = g.R.Register.view c.args.register.now in
    let d = c.in-Ok-Refuse.ensures in record {
      verdict = refused v0.room books c.args.entry c.in-Ok-Refuse.field-0 c.in-Ok-Refuse.field-0-0 (d.verdict books honest sure (idle_goes v0.stage c.requires.stage) keeps.tables) c.in-Ok-Refuse.field-0-is;
      same = d.read.same honest sure;
    }

pub returns-in-Ok-Repeat-clause-ok : goal.returns-in-Ok-Repeat-clause-ok
returns-in-Ok-Repeat-clause-ok g c =
    let v0 = g.R.Register.view c.args.register.now in
    let v1 = g.R.Register.view c.decide.new.register in
    stays_done v0 v1 c.requires.stage c.in-Ok-Repeat.ensures.read.ok

pub returns-in-Ok-Repeat-clause-blame : goal.returns-in-Ok-Repeat-clause-blame
returns-in-Ok-Repeat-clause-blame g c =
    let v0 = g.R.Register.view c.args.register.now in
    let v1 = g.R.Register.view c.decide.new.register in
    blames_no_step _ v0 v1

pub returns-in-Ok-Refuse-clause-ok : goal.returns-in-Ok-Refuse-clause-ok
returns-in-Ok-Refuse-clause-ok g c =
    let v0 = g.R.Register.view c.args.register.now in
    let v1 = g.R.Register.view c.decide.new.register in
    stays_done v0 v1 c.requires.stage c.in-Ok-Refuse.ensures.read.ok

pub returns-in-Ok-Refuse-clause-blame : goal.returns-in-Ok-Refuse-clause-blame
returns-in-Ok-Refuse-clause-blame g c =
    let v0 = g.R.Register.view c.args.register.now in
    let v1 = g.R.Register.view c.decide.new.register in
    blames_no_step _ v0 v1

pub take_accepted-requires-clause-accepted : goal.take_accepted-requires-clause-accepted
take_accepted-requires-clause-accepted g c = λ honest sure.
    let v0 = g.R.Register.view c.args.register.now in
    let v1 = g.R.Register.view c.decide.new.register in
    let d = c.in-Ok-Accept.ensures in
    let honest0 = d.read.later.honest honest in
    let sure0 = d.read.later.sure honest sure in
    can_apply v0.content v1.content (d.read.same honest sure0) v0.room v1.room c.args.entry c.in-Ok-Accept.field-0 d.read.later.room c.in-Ok-Accept.field-0-is (c.requires.keeps honest0 sure0)
    (λ books tables. d.verdict books honest sure0 (idle_goes v0.stage c.requires.stage) tables)

pub returns-in-Ok-Accept-clause-decided : goal.returns-in-Ok-Accept-clause-decided
returns-in-Ok-Accept-clause-decided g c = λ books honest sure keeps.
    let v0 = g.R.Register.view c.args.register.now in
    let v1 = g.R.Register.view c.decide.new.register in
    let v2 = g.R.Register.view c.take_accepted.new.register in
    let d = c.in-Ok-Accept.ensures.read in
    let t = c.take_accepted.ensures in
    let honest1 = t.later.honest honest in
    decided_so v0.content v1.content (d.same honest1 sure) v0.room v1.room books c.args.entry v2.content c.take_accepted.result d.later.room (λ kept. t.decided books honest (d.ok.sure honest1 sure) kept) keeps

pub returns-in-Ok-Accept-clause-ok : goal.returns-in-Ok-Accept-clause-ok
returns-in-Ok-Accept-clause-ok g c =
    let v0 = g.R.Register.view c.args.register.now in
    let v1 = g.R.Register.view c.decide.new.register in
    let v2 = g.R.Register.view c.take_accepted.new.register in
    let d = c.in-Ok-Accept.ensures.read in
    let t = c.take_accepted.ensures in
    done_so v0 v1 v2 (stays_done v0 v1 c.requires.stage d.ok) d.later t.later c.take_accepted.result t.ok

pub returns-in-Ok-Accept-clause-err : goal.returns-in-Ok-Accept-clause-err
returns-in-Ok-Accept-clause-err g c =
    let v0 = g.R.Register.view c.args.register.now in
    let v1 = g.R.Register.view c.decide.new.register in
    let v2 = g.R.Register.view c.take_accepted.new.register in
    let d = c.in-Ok-Accept.ensures.read in
    let t = c.take_accepted.ensures in
    left_so v0 v1 v2 v0.content d.later t.later (λ h s. d.same h (d.later.sure h s)) c.take_accepted.result t.err

pub returns-in-Ok-Accept-clause-later : goal.returns-in-Ok-Accept-clause-later
returns-in-Ok-Accept-clause-later g c =
    let v0 = g.R.Register.view c.args.register.now in
    let v1 = g.R.Register.view c.decide.new.register in
    let v2 = g.R.Register.view c.take_accepted.new.register in
    let d = c.in-Ok-Accept.ensures.read in
    let t = c.take_accepted.ensures in
    later_done v0 v1 v2 (stays_done v0 v1 c.requires.stage d.ok) d.later t.later

pub returns-in-Ok-Accept-clause-blame : goal.returns-in-Ok-Accept-clause-blame
returns-in-Ok-Accept-clause-blame g c =
    let v0 = g.R.Register.view c.args.register.now in
    let v1 = g.R.Register.view c.decide.new.register in
    let v2 = g.R.Register.view c.take_accepted.new.register in
    let d = c.in-Ok-Accept.ensures.read in
    let t = c.take_accepted.ensures in
    blames_so v0 v1 v2 (stays_done v0 v1 c.requires.stage d.ok) d.later t.later c.take_accepted.result t.blame

pub returns-in-Err-clause-err : goal.returns-in-Err-clause-err
returns-in-Err-clause-err g c =
    let v0 = g.R.Register.view c.args.register.now in
    let v1 = g.R.Register.view c.decide.new.register in
    let v2 = g.R.Register.view c.recover.new.register in
    let d = c.in-Err.ensures.read in
    recovered_left v0 v1 v2 c.in-Err.fault c.recover.result c.requires.stage d.err d.later c.recover.ensures.recovers

pub returns-in-Err-clause-later : goal.returns-in-Err-clause-later
returns-in-Err-clause-later g c =
    let v0 = g.R.Register.view c.args.register.now in
    let v1 = g.R.Register.view c.decide.new.register in
    let v2 = g.R.Register.view c.recover.new.register in
    let d = c.in-Err.ensures.read in
    recovered_later v0 v1 v2 c.in-Err.fault c.recover.result c.requires.stage d.err d.later c.recover.ensures.recovers

pub returns-in-Err-clause-blame : goal.returns-in-Err-clause-blame
returns-in-Err-clause-blame g c =
    let v0 = g.R.Register.view c.args.register.now in
    let v1 = g.R.Register.view c.decide.new.register in
    let v2 = g.R.Register.view c.recover.new.register in
    let d = c.in-Err.ensures.read in
    recovered_blame v0 v1 v2 c.in-Err.fault c.recover.result c.requires.stage d.err d.later c.recover.ensures.recovers d.blame
