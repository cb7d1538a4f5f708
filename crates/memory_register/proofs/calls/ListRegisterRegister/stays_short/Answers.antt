use Rattle.memory_rows.specs.RowsView.{view_of_rows}
use Rattle.memory_short.proofs.ShortageLemmas.{short_of_noted}
use Rattle.memory_register.proofs.calls.ListRegisterRegister.stays_short.Goals as goal

pub returns-clause-value : goal.returns-clause-value
returns-clause-value c honest sure up short pair =
    let is = c.passes_over.ensures.short short in
    short_of_noted c.catch_up.new.self (view_of_rows c.args.self.now.held).content c.catch_up.ensures.knows c.catch_up.ensures.none is.0 c.args.place pair is.1
