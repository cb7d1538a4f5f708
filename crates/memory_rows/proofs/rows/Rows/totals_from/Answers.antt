use Rattle.memory_rows.specs.Lists.{listed}
use Rattle.memory_rows.proofs.RowLemmas.{are_totals}
use Rattle.memory_rows.proofs.rows.Rows.totals_from.Goals as goal

pub returns-clause-totals : goal.returns-clause-totals
returns-clause-totals c up = are_totals (listed c.args.self.now.lists) (c.args.self.now.sound up) c.totals_from.new.rows c.totals_from.result c.totals_from.ensures.outstanding
