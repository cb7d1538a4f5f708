use Rattle.desk_codes.proofs.SpellingLaws.{written_shortest}
use Rattle.desk_codes.proofs.laws.shortest_spelling.Goals as goal

pub returns : goal.returns
returns c = written_shortest
