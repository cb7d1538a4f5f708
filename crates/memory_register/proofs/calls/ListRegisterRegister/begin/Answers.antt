use Rattle.memory_register.proofs.SumsLemmas.{nothing_summed}
use Rattle.memory_register.proofs.AheadLemmas.{nothing_ahead}
use Rattle.memory_rows.specs.RowsView.{view_of_rows}
use Rattle.memory_register.proofs.HeldShortLemmas.{short_begin}
use Rattle.memory_register.proofs.IndexedLemmas.{after_begin, idle_is_not_failed}
use Rattle.memory_register.proofs.OnlyLemmas.{only_begin}
use Rattle.memory_register.proofs.ToldLemmas.{told_begin}
use Rattle.memory_register.proofs.calls.ListRegisterRegister.begin.Goals as goal

pub invariant_of-self : goal.invariant_of-self
invariant_of-self c =
    let r = c.args.self.now in
    record {
      indexed = after_begin r.known r.unmatched r.matched r.noted.items (view_of_rows r.held) (view_of_rows c.begin.new.self) tt tt tt c.requires c.begin.ensures.begins r.indexed;
      sent_indexed = told_begin r.messages r.told.items r.held c.begin.new.self r.sent_indexed c.requires c.begin.ensures.begins;
      matched_only = only_begin r.matched r.noted.items r.touched.items r.held c.begin.new.self r.matched_only c.requires (r.indexed.idle c.requires) (r.indexed.grown (idle_is_not_failed (view_of_rows r.held).stage c.requires)) c.begin.ensures.begins;
      shortages_known = short_begin r.shortages r.held c.begin.new.self r.shortages_known c.requires c.begin.ensures.begins;
      rows_ahead = nothing_ahead (view_of_rows c.begin.new.self) c.clear.new.self c.clear.ensures;
      rows_summed = nothing_summed (view_of_rows c.begin.new.self) c.clear-2.new.self c.clear-2.ensures.known c.clear-2.ensures.counted;
    }
