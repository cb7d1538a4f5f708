use Rattle.std.proofs.Common.{sym, subst}
use Rattle.sql_rows.specs.Holdings.{ShowsNext}
use Rattle.sql_tables.specs.Ends.{ForCause}
use Rattle.sql_tables.proofs.ResultLemmas.{no_error}
use Rattle.sql_rows.proofs.HoldingLemmas.{shown_reads}
use Rattle.sql_rows.proofs.amounts.holdings.next_holding.Goals as goal

pub returns-clause-value : goal.returns-clause-value
returns-clause-value g c clean is_open has amounts =
    c.holding_shown.ensures.value (g.S.Session.state c.args.conn.now).now c.args.account c.args.above
    (subst (ShowsNext (g.S.Session.state c.args.conn.now).now c.args.account c.args.above) (sym c.as_slice.ensures.value) (c.in_ok-rows.ensures.value clean is_open has amounts))

pub returns-clause-blame : goal.returns-clause-blame
returns-clause-blame g c clean is_open has amounts isins =
    let old = g.S.Session.state c.args.conn.now in
    no_error c.holding_shown.result (ForCause old (g.S.Session.state c.next_rows.new.conn))
    (shown_reads old.now c.args.account c.args.above _ c.holding_shown.result isins c.holding_shown.ensures.none (λ isin quantity is. c.holding_shown.ensures.all isin quantity is)
    (subst (ShowsNext old.now c.args.account c.args.above) (sym c.as_slice.ensures.value) (c.in_ok-rows.ensures.value clean is_open has amounts)))
