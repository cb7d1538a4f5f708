use Rattle.std.proofs.Common.{◌∙◌}
use Rattle.memory_rows.specs.Lists.{listed}
use Rattle.memory_rows.proofs.SoundLemmas.{total_held}
use Rattle.memory_rows.proofs.rows.Rows.total_held.Goals as goal

pub returns-clause-held : goal.returns-clause-held
returns-clause-held c up = c.balance_of.ensures ∙ total_held (listed c.args.self.now.lists) (c.args.self.now.sound up) c.args.isin
