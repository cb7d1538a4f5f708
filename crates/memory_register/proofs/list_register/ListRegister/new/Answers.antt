use Rattle.memory_rows.specs.RowsView.{view_of_rows}
use Rattle.desk_register.specs.Changes.{empty_content}
use Rattle.memory_register.proofs.AheadLemmas.{nothing_ahead}
use Rattle.memory_register.proofs.HeldShortLemmas.{short_of}
use Rattle.memory_register.proofs.OnlyLemmas.{none_found}
use Rattle.memory_register.proofs.SumsLemmas.{nothing_summed}
use Rattle.memory_register.proofs.list_register.ListRegister.new.Goals as goal

pub invariant_of-result-clause-matched_only : goal.invariant_of-result-clause-matched_only
invariant_of-result-clause-matched_only c = none_found c.new-4.result c.new-5.result.items c.new-6.result.items (view_of_rows c.new.result) c.new-4.ensures.empty

pub invariant_of-result-clause-shortages_known : goal.invariant_of-result-clause-shortages_known
invariant_of-result-clause-shortages_known c = short_of c.new-9.result (view_of_rows c.new.result) empty_content c.new.ensures.empty c.new-9.ensures

pub invariant_of-result-clause-rows_ahead : goal.invariant_of-result-clause-rows_ahead
invariant_of-result-clause-rows_ahead c = nothing_ahead (view_of_rows c.new.result) c.nothing.result c.nothing.ensures

pub invariant_of-result-clause-rows_summed : goal.invariant_of-result-clause-rows_summed
invariant_of-result-clause-rows_summed c = nothing_summed (view_of_rows c.new.result) c.nothing-2.result c.nothing-2.ensures.known c.nothing-2.ensures.counted
