-- What the register holds depends on its own tree alone.
use Rattle.std.proofs.Common.{◌≡◌, List, [], ◌∙◌, lit<}
use Rattle.sqlite.specs.Effect.{Database}
use Rattle.desk_rules.specs.declared.answers.reply.Kept.{Kept}
use Rattle.sql_entries.specs.Entries.{AreEntries}

pub same_entries : (a b : Database) (register : List Kept) → b.trees 6 ≡ a.trees 6 → AreEntries a register → AreEntries b register
same_entries a b register same are = record { rows = same ∙ are.rows; few = are.few }

pub no_entries : (db : Database) → db.trees 6 ≡ [] → AreEntries db []
no_entries db none = record { rows = none; few = lit< tt }
