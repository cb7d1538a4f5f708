use Rattle.desk_engine.proofs.KeptHistoryLemmas.{next}
use Rattle.desk_engine.proofs.taking.take_kept.Goals as goal

pub returns-clause-next : goal.returns-clause-next
returns-clause-next g c before honest sure held =
    let v0 = g.R.Register.view c.args.register.now in
    let v1 = g.R.Register.view c.take_in.new.register in
    next v0.room before c.args.kept.now c.is_reply.result v0.content v1.content held (record {
      reply = c.in_ok-reply.reply;
      decided = c.in_ok-reply.ensures.decided held.books honest sure held.keeps;
      compared = c.is_reply.ensures;
    })
