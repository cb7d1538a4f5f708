use Rattle.desk_text.proofs.PartLemmas.{parts_block}
use Rattle.desk_text.proofs.LawLemmas.{reads-back}
use Rattle.desk_text.proofs.laws.reads_back.Goals as goal

pub returns-clause-block : goal.returns-clause-block
returns-clause-block c = parts_block

pub returns-clause-only : goal.returns-clause-only
returns-clause-only c = reads-back
