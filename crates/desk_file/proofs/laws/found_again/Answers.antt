use Rattle.desk_file.proofs.AgainLemmas.{found_so}
use Rattle.desk_file.proofs.laws.found_again.Goals as goal

pub returns : goal.returns
returns c = found_so
