use Rattle.std.proofs.Common.{◌∙◌}
use Rattle.memory_rows.specs.Lists.{listed}
use Rattle.memory_rows.proofs.SoundLemmas.{total_had}
use Rattle.memory_rows.proofs.rows.Rows.total_paid.Goals as goal

pub returns-clause-had : goal.returns-clause-had
returns-clause-had c up = c.balance_of.ensures ∙ total_had (listed c.args.self.now.lists) (c.args.self.now.sound up) c.args.ccy
