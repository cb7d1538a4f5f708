use Rattle.std.proofs.Common.{sym, subst}
use Rattle.desk_rules.specs.Content.{history_of}
use Rattle.desk_register.specs.Looked.{IsSecurityAfter}
use Rattle.memory_rows.specs.RowsView.{view_of_rows}
use Rattle.memory_register.proofs.SumsLemmas.{next_is}
use Rattle.memory_register.proofs.sums.Sums.security_after.Goals as goal

pub returns-then-has_next-clause-found : goal.returns-then-has_next-clause-found
returns-then-has_next-clause-found c are is =
    let content = (view_of_rows c.args.held.now).content in
    subst (IsSecurityAfter (history_of content) c.args.above.now) (sym c.take_next.ensures.row)
    (next_is content c.args.self.now c.args.above.now (c.has_next.ensures c.if-has_next.true) is)
