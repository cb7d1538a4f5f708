use Rattle.desk_book.proofs.OnceLemmas.{act_once}
use Rattle.desk_book.proofs.laws.repeats_act_once.Goals as goal

pub returns : goal.returns
returns c = act_once
