use Rattle.std.proofs.KnownBytes.{Appends-trans}
use Rattle.desk_reasons.proofs.writing.write_byte.Goals as goal

pub returns-clause-written : goal.returns-clause-written
returns-clause-written g c = Appends-trans _ _ _ _ _ c.in_ok-write_digits.ensures.written c.in_ok-write_column.ensures.written
