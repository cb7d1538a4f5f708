use Rattle.memory_rows.specs.RowsView.{view_of_rows}
use Rattle.memory_register.proofs.IndexedLemmas.{now_known}
use Rattle.memory_register.proofs.calls.ListRegisterRegister.security_after.Goals as goal

pub invariant_of-self : goal.invariant_of-self
invariant_of-self c =
    let r = c.args.self.now in
    let view = view_of_rows r.held in
    record {
      indexed = r.indexed;
      sent_indexed = r.sent_indexed;
      matched_only = r.matched_only;
      shortages_known = r.shortages_known;
      rows_ahead = r.rows_ahead;
      rows_summed = record {
        now = λ up. c.security_after.ensures.sums up (now_known r.known r.unmatched r.matched r.noted.items view up r.indexed).registered (r.rows_summed.now up);
      };
    }

pub returns-clause-value : goal.returns-clause-value
returns-clause-value c honest sure up =
    let r = c.args.self.now in
    let view = view_of_rows r.held in
    c.security_after.ensures.found (now_known r.known r.unmatched r.matched r.noted.items view up r.indexed).registered (r.rows_summed.now up)
