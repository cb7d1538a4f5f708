use Rattle.std.proofs.Common.{refl}
use Rattle.desk_text.specs.Seen.{found_of}
use Rattle.desk_reasons.proofs.fields.spot_in_fields.Goals as goal

pub returns-in-BadValue : goal.returns-in-BadValue
returns-in-BadValue c = rw c.in-BadValue.is (found_of c.only_belonging-field.result.now, c.only_belonging-field.ensures, refl, c.value_reason.ensures)
