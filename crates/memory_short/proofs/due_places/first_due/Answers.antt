use Rattle.memory_rows.specs.RowsView.{view_of_rows}
use Rattle.memory_short.proofs.DueLemmas.{first_of_all}
use Rattle.memory_short.proofs.due_places.first_due.Goals as goal

pub returns : goal.returns
returns c = first_of_all c.args.places.now (view_of_rows c.args.held.now).content c.args.day c.args.above.now c.first_due_of.result c.requires c.first_due_of.ensures
