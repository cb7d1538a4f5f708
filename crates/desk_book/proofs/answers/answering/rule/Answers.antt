use Rattle.std.proofs.Common.{refl}
use Rattle.desk_book.proofs.AnsweringLemmas.{decides_put_at, decides_repeat_at, not_failed}
use Rattle.desk_book.proofs.answers.answering.rule.Goals as goal

pub returns-in-Ok-Accept-clause-decides : goal.returns-in-Ok-Accept-clause-decides
returns-in-Ok-Accept-clause-decides g c = λ books honest keeps.
    let v0 = g.R.Register.view c.args.register.now in
    let d = c.in-Ok-Accept.ensures in
    let a = c.take_in.ensures in
    let honest1 = a.ends.later.honest honest in
    let honest0 = d.read.later.honest honest1 in
    let sure = c.requires.ready.sure refl honest0 in
    decides_put_at v0 (g.R.Register.view c.decide.new.register) (g.R.Register.view c.take_in.new.register) books c.args.entry c.take_in.result
    (d.read.same honest1 sure) d.read.later.room keeps
    (rw c.in-Ok-Accept.field-0-is at (d.verdict books honest1 sure (not_failed v0.stage (c.requires.ready.stage refl)) keeps.tables)) (a.put books honest)

pub returns-in-Ok-Repeat-clause-decides : goal.returns-in-Ok-Repeat-clause-decides
returns-in-Ok-Repeat-clause-decides g c = λ books honest keeps.
    let v0 = g.R.Register.view c.args.register.now in
    let d = c.in-Ok-Repeat.ensures in
    let a = c.repeat.ensures in
    let honest1 = a.ends.later.honest honest in
    let honest0 = d.read.later.honest honest1 in
    let sure = c.requires.ready.sure refl honest0 in
    decides_repeat_at v0 (g.R.Register.view c.decide.new.register) (g.R.Register.view c.repeat.new.register) books c.args.entry c.in-Ok-Repeat.number c.repeat.result
    (d.read.same honest1 sure) d.read.later.room keeps
    (rw c.in-Ok-Repeat.field-0-is at (d.verdict books honest1 sure (not_failed v0.stage (c.requires.ready.stage refl)) keeps.tables)) (a.repeated books honest) (a.same honest)
