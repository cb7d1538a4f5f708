use Rattle.std.proofs.Common.{sym, subst}
use Rattle.desk_register.specs.Looked.{IsHoldingAfter}
use Rattle.memory_rows.specs.RowsView.{view_of_rows}
use Rattle.memory_register.proofs.AheadLemmas.{next_is}
use Rattle.memory_register.proofs.ahead.Ahead.holding_after.Goals as goal

pub returns-then-has_next-clause-found : goal.returns-then-has_next-clause-found
returns-then-has_next-clause-found c is =
    let content = (view_of_rows c.args.held.now).content in
    subst (IsHoldingAfter content c.args.account.now c.args.above.now) (sym c.take_next.ensures.row)
    (next_is content c.args.self.now c.args.account.now c.args.above.now (c.has_next.ensures c.if-has_next.true) is)
