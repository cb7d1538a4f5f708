use Rattle.desk_words.specs.Causes.{catalogue}
use Rattle.desk_words.proofs.CatalogueLemmas.{found}
use Rattle.desk_words.proofs.causes.cause_of.Goals as goal

pub returns-clause-first : goal.returns-clause-first
unfolding catalogue
returns-clause-first c = c.cause_in.ensures

pub returns-clause-one : goal.returns-clause-one
unfolding catalogue
returns-clause-one c = found c.args.number catalogue c.cause_in.result c.cause_in.ensures
