use Rattle.std.proofs.Common.{refl}
use Rattle.memory_short.proofs.WakeLemmas.{known_alike}
use Rattle.memory_short.proofs.shortages.Shortages.passes_over.Goals as goal

pub returns-clause-knows : goal.returns-clause-knows
returns-clause-knows c = λ content knows. known_alike c.args.self.now _ content refl refl refl refl knows
