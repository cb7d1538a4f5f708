use Rattle.std.proofs.Common.{rules}
use Rattle.desk_engine.proofs.RebuildLemmas.{begun_still, keeps_all, next_can_apply, rebuilding_breaks, rebuilding_ends, rebuilding_next, rebuilding_none}
use Rattle.desk_engine.proofs.rebuilding.apply_all.Goals as goal

pub loop-entry-init : goal.loop-entry-init
loop-entry-init g c = search (rules, rebuilding_none)

pub apply-requires-clause-stage : goal.apply-requires-clause-stage
apply-requires-clause-stage g c = search (rules, begun_still)

pub apply-requires-clause-accepted : goal.apply-requires-clause-accepted
apply-requires-clause-accepted g c = search (rules, next_can_apply)

pub returns-in_err-apply-clause-step : goal.returns-in_err-apply-clause-step
returns-in_err-apply-clause-step g c = search (rules, rebuilding_breaks)

pub loop-entry-preserved : goal.loop-entry-preserved
loop-entry-preserved g c = search (rules, rebuilding_next)

pub returns-clause-keeps : goal.returns-clause-keeps
returns-clause-keeps g c = search (rules, keeps_all)

pub returns-clause-step : goal.returns-clause-step
returns-clause-step g c = search (rules, rebuilding_ends)
