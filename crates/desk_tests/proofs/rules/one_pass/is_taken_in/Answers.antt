use Rattle.desk_engine.proofs.KeptHistoryLemmas.{holds_none}
use Rattle.desk_tests.proofs.rules.one_pass.is_taken_in.Goals as goal

pub replay-requires-clause-empty : goal.replay-requires-clause-empty
replay-requires-clause-empty c honest sure = holds_none _ _ c.new-register.ensures.empty
