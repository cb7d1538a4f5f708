use Rattle.memory_register.proofs.calls.ListRegisterRegister.holding_after.Goals as goal

pub invariant_of-self : goal.invariant_of-self
invariant_of-self c =
    let r = c.args.self.now in
    record {
      indexed = r.indexed;
      sent_indexed = r.sent_indexed;
      matched_only = r.matched_only;
      shortages_known = r.shortages_known;
      rows_ahead = record { now = λ up. c.holding_after.ensures.ahead (r.rows_ahead.now up) };
      rows_summed = r.rows_summed;
    }

pub returns-clause-value : goal.returns-clause-value
returns-clause-value c honest sure up = c.holding_after.ensures.found (c.args.self.now.rows_ahead.now up)
