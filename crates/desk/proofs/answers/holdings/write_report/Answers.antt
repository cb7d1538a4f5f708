use Rattle.desk.proofs.answers.holdings.write_report.Goals as goal

pub returns-in-Some-clause-keeps : goal.returns-in-Some-clause-keeps
returns-in-Some-clause-keeps g c = λ books honest holds. (c.holdings_to.ensures.keeps books honest holds).0

pub returns-in-None-clause-keeps : goal.returns-in-None-clause-keeps
returns-in-None-clause-keeps g c = λ books honest holds. (c.sums_to.ensures.keeps books honest holds).0
