use Rattle.desk_words.specs.Causes.{catalogue}
use Rattle.desk_words.proofs.writing.write_catalogue.Goals as goal

pub returns-clause-written : goal.returns-clause-written
unfolding catalogue
returns-clause-written g c = c.write_causes.ensures.written
