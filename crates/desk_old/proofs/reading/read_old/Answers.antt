use Rattle.desk_engine.proofs.KeptHistoryLemmas.{holds_none}
use Rattle.desk_old.proofs.reading.read_old.Goals as goal

pub audit_version-requires-clause-empty : goal.audit_version-requires-clause-empty
audit_version-requires-clause-empty g c = λ honest sure. holds_none _ _ c.new-memory.ensures.empty
