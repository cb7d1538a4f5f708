use Rattle.desk_text.proofs.LawLemmas.{one-fault, some-fault, block-no_fault}
use Rattle.desk_text.proofs.laws.one_fault.Goals as goal

pub returns-clause-some : goal.returns-clause-some
returns-clause-some c = some-fault

pub returns-clause-only : goal.returns-clause-only
returns-clause-only c = one-fault

pub returns-clause-none : goal.returns-clause-none
returns-clause-none c = block-no_fault
