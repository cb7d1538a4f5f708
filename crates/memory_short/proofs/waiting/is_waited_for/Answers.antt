use Rattle.std.proofs.Common.{sym, ◌∙◌}
use Rattle.memory_short.proofs.WantLemmas.{none_found}
use Rattle.memory_short.proofs.waiting.is_waited_for.Goals as goal

pub returns : goal.returns
returns c = λ none. none_found c.args.waits.now c.args.want.now c.first_wait.result (sym c.is_some.ensures ∙ none) c.first_wait.ensures.none
