use Rattle.std.proofs.Common.{subst}
use Rattle.sql_entries.specs.Told.{IsReadAs}
use Rattle.sql_entries.proofs.ToldLemmas.{read_told}
use Rattle.sql_entries.proofs.compared.entry_said.Goals as goal

pub returns-in-Ok-clause-exact : goal.returns-in-Ok-clause-exact
returns-in-Ok-clause-exact c entry rest is spelt = read_told entry c.in-Ok.entry (subst (IsReadAs entry) c.in-Ok.is (c.entry_of.ensures.exact entry rest is spelt))

pub returns-in-Err-SqliteFailure-DatabaseCorrupt-clause-exact : goal.returns-in-Err-SqliteFailure-DatabaseCorrupt-clause-exact
returns-in-Err-SqliteFailure-DatabaseCorrupt-clause-exact c entry rest is spelt =
    absurd (let e = subst (IsReadAs entry) c.in-Err-SqliteFailure-DatabaseCorrupt.is (c.entry_of.ensures.exact entry rest is spelt) in cc)
