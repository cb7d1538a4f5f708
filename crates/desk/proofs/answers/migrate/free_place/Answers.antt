use Rattle.std.proofs.Common.{refl}
use Rattle.desk_file.specs.declared.fault.Difference.TheVariants.{OtherTables}
use Rattle.desk_file.specs.declared.fault.OpenFault.TheVariants as opening
use Rattle.desk.proofs.answers.migrate.free_place.Goals as goal

pub returns-in-Ok-true : goal.returns-in-Ok-true
returns-in-Ok-true c = (opening.NotOurFile OtherTables, refl)
