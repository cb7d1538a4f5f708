use Rattle.sqlite.proofs.Callers.{memory_is_clean}
use Rattle.sql_register.proofs.making.SqlRegister+Connection+MemStore.in_memory.Goals as goal

pub returns-in-Ok-clause-empty : goal.returns-in-Ok-clause-empty
returns-in-Ok-clause-empty c = c.in-Ok.ensures.empty (memory_is_clean c.in-Ok.register.connection)

pub returns-in-Ok-clause-honest : goal.returns-in-Ok-clause-honest
returns-in-Ok-clause-honest c = memory_is_clean c.in-Ok.register.connection
