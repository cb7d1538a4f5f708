use Rattle.desk_codes.proofs.SpellingLaws.{one_value_each}
use Rattle.desk_codes.proofs.laws.one_value.Goals as goal

pub returns : goal.returns
returns c = one_value_each
