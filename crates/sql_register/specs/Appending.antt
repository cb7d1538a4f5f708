-- Entries and their rows.
use Rattle.std.specs.Prelude.{◌+◌, ◌<◌, List, length}
use Rattle.sqlite.specs.Effect.{Database}
use Rattle.desk_rules.specs.WellFormed.{IsWellFormed}
use Rattle.desk_rules.specs.declared.answers.reply.Kept.{Kept}
use Rattle.desk_rules.specs.declared.answers.reply.Reply.{Reply}
use Rattle.sql_entries.specs.Entries.{AreEntries, with_entry}
use Rattle.sql_entries.specs.Shown.{HasShortNumbers}
use Rattle.sql_tables.specs.Ends.{SparesOthers}
use Rattle.desk_rules.specs.declared.history.entry.Entry.{Entry}

-- the row of an entry is added with its reply, where there is room for one, and is one that the desk can write
pub record RowAdded (old new : Database) (register : List Kept) (entry : Entry) (reply : Reply) : Type 0 where
  pub entries : AreEntries new (with_entry register entry reply)
  pub spares : SparesOthers 6 8 old new
  pub within : length register + 1 < 1_000_000_000
  pub formed : IsWellFormed entry
  pub short : HasShortNumbers reply
