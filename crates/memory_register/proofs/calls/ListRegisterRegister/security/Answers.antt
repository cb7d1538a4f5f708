use Rattle.memory_rows.specs.RowsView.{view_of_rows}
use Rattle.memory_register.proofs.IndexedLemmas.{now_known}
use Rattle.memory_register.proofs.calls.ListRegisterRegister.security.Goals as goal

pub returns-clause-value : goal.returns-clause-value
returns-clause-value c honest sure up =
    let r = c.args.self.now in
    c.kind.ensures (now_known r.known r.unmatched r.matched r.noted.items (view_of_rows r.held) up r.indexed).registered
