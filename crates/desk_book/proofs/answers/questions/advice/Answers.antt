-- The number that is shown is that of the entries.
use Rattle.std.proofs.Common.{◌∙◌, ap, arith}
use Rattle.desk_msg.specs.declared.writing.status.Own.TheVariants.{Answer}
use Rattle.desk_msg.specs.StatusText.{advice}
use Rattle.desk_register.proofs.ViewLemmas.{idle_goes}
use Rattle.desk_rules.specs.Reply.{advice_reply}
use Rattle.desk_book.proofs.AnsweringLemmas.{count_shown}
use Rattle.desk_book.proofs.answers.questions.advice.Goals as goal

pub returns-clause-told : goal.returns-clause-told
returns-clause-told g c = λ books honest sure keeps.
    let v0 = g.R.Register.view c.args.register.now in
    let shown = count_shown v0 books c.in_ok-count.count c.limit-limit.result c.min.result keeps (c.in_ok-count.ensures.value honest sure (idle_goes _ c.requires.stage)) c.limit-limit.ensures.limit
    (λ le. (let is = c.min.ensures in omega arith)) in
    c.in_ok-message_reply.ensures ∙ ap (λ n. advice_reply 200 (advice (Answer n) c.args.mt c.args.reference.now c.args.about)) shown
