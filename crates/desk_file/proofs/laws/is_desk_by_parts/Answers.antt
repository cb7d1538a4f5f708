use Rattle.desk_file.proofs.PartLemmas.{becomes}
use Rattle.desk_file.proofs.laws.is_desk_by_parts.Goals as goal

pub returns : goal.returns
returns c db limit books content parts few keeps formed = becomes db limit books content parts few keeps formed
