use Rattle.std.proofs.Common.{refl, arith}
use Rattle.desk_register.proofs.ViewLemmas.{idle_goes}
use Rattle.desk_book.proofs.AnsweringLemmas.{count_shown}
use Rattle.desk_book.proofs.answers.answering.refuse.Goals as goal

pub returns-in_ok-refused_reply-in-Ok-clause-refused : goal.returns-in_ok-refused_reply-in-Ok-clause-refused
returns-in_ok-refused_reply-in-Ok-clause-refused g c = λ books honest keeps.
    let read = c.in-Ok.ensures.read in
    let v0 = g.R.Register.view c.args.register.now in
    let sure = c.requires.ready.sure refl (read.later.honest honest) in
    c.in_ok-refused_reply-in-Ok.ensures.reply books
    (count_shown v0 books c.in-Ok.count c.limit-limit.result c.min.result keeps (c.in-Ok.ensures.value honest sure (idle_goes _ (c.requires.ready.stage refl))) c.limit-limit.ensures.limit (λ le. (let is = c.min.ensures in omega arith)))
