use Rattle.desk_book.proofs.AnsweringLemmas.{answers_decided}
use Rattle.desk_book.proofs.answers.answering.answer.Goals as goal

pub returns-in-Decide-clause-answered : goal.returns-in-Decide-clause-answered
returns-in-Decide-clause-answered g c = λ books honest keeps.
    rw c.in-Decide.is
    (answers_decided (g.R.Register.view c.args.register.now).room books c.in-Decide.entry (g.R.Register.view c.rule.new.register).content c.rule.result
    (rw c.in-Decide.is at c.requires.formed) keeps.formed (c.rule.ensures.decides books honest keeps.tables))
