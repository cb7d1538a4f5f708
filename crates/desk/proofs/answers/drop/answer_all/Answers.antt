use Rattle.std.proofs.Common.{refl}
use Rattle.desk.proofs.DropLemmas.{taken_or_not, untouched_some}
use Rattle.desk.proofs.answers.drop.answer_all.Goals as goal

pub returns-in_default-clause-left : goal.returns-in_default-clause-left
returns-in_default-clause-left g c = λ books honest holds. untouched_some g.D.Register.view c.args.desk.now c.args.desk.now books c.requires holds refl

pub returns-clause-left : goal.returns-clause-left
returns-clause-left g c = λ books honest holds.
    let taken = c.take_on-taken.ensures in
    taken_or_not g.D.Register.view c.args.desk.now c.take_on-taken.new.desk books c.requires holds (λ replies. replies.items) _ c.take_on-taken.result (taken.taken books honest holds) taken.untaken
