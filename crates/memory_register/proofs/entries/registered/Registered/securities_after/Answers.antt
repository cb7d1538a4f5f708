use Rattle.memory_register.proofs.LookUpLemmas.{next_found, follow_found}
use Rattle.memory_register.proofs.entries.registered.Registered.securities_after.Goals as goal

pub returns-clause-first : goal.returns-clause-first
returns-clause-first c history are = next_found c.args.self.now.securities history are.securities c.args.above.now _ c.securities_after.ensures.first

pub returns-clause-further : goal.returns-clause-further
returns-clause-further c history are = follow_found c.args.self.now.securities history are.securities _ _ c.securities_after.ensures.further
