use Rattle.desk_text.proofs.WrittenLemmas.{draft-more}
use Rattle.desk_text.proofs.laws.parts_add_up.Goals as goal

pub returns : goal.returns
returns c = draft-more
