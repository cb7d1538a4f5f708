use Rattle.desk_words.specs.Causes.{catalogue}
use Rattle.desk.proofs.findings.json.counts_value.Goals as goal

pub returns : goal.returns
unfolding catalogue
returns c = c.count_values.ensures
