use Rattle.desk_codes.proofs.WrittenSpells.{written_spells}
use Rattle.desk_codes.proofs.laws.written_spells.Goals as goal

pub returns : goal.returns
returns c = written_spells
