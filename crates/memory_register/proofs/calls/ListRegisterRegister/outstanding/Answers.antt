use Rattle.memory_rows.specs.RowsView.{view_of_rows}
use Rattle.memory_register.proofs.calls.ListRegisterRegister.outstanding.Goals as goal

pub invariant_of-self : goal.invariant_of-self
invariant_of-self c =
    let r = c.args.self.now in
    record {
      indexed = r.indexed;
      sent_indexed = r.sent_indexed;
      matched_only = r.matched_only;
      shortages_known = r.shortages_known;
      rows_ahead = r.rows_ahead;
      rows_summed = record { now = λ up. c.total.ensures.sums (view_of_rows r.held).content (r.rows_summed.now up) };
    }
