use Rattle.std.proofs.Common.{refl}
use Rattle.desk_register.proofs.ViewLemmas.{idle_goes}
use Rattle.desk_book.proofs.AnsweringLemmas.{kept_reply, reply_known}
use Rattle.desk_book.proofs.answers.answering.repeat.Goals as goal

pub returns-in-Ok-Some-clause-repeated : goal.returns-in-Ok-Some-clause-repeated
returns-in-Ok-Some-clause-repeated g c = λ books honest keeps at.
    let v0 = g.R.Register.view c.args.register.now in
    let b = c.in-Ok-Some.ensures in
    let sure = c.requires.ready.sure refl (b.read.later.honest honest) in
    kept_reply v0.room books v0.content c.args.number c.in-Ok-Some.reply keeps (rw c.in-Ok-Some.field-0-is at (b.value honest sure (idle_goes _ (c.requires.ready.stage refl))))

pub returns-in-Ok-None-clause-repeated : goal.returns-in-Ok-None-clause-repeated
returns-in-Ok-None-clause-repeated g c = λ books honest keeps at.
    let v0 = g.R.Register.view c.args.register.now in
    let b = c.in-Ok-None.ensures in
    let honest1 = c.refuse.ensures.ends.later.honest honest in
    let sure = c.requires.ready.sure refl (b.read.later.honest honest1) in
    absurd (reply_known v0.room books v0.content c.args.number c.args.entry.now keeps at (rw c.in-Ok-None.field-0-is at (b.value honest1 sure (idle_goes _ (c.requires.ready.stage refl)))))
