use Rattle.memory_rows.proofs.FloorLemmas.{position_from_least}
use Rattle.memory_rows.proofs.changing.recording.is_from_least.Goals as goal

pub returns-in-Position : goal.returns-in-Position
returns-in-Position c = position_from_least c.args.key.now c.in-Position.account c.in-Position.isin c.in-Position.is c.as_bytes.ensures.isin
