-- What a text is, compiled against the desk's tables.
use Rattle.std.specs.Prelude.{◌≡◌, ℕ, List, Bool, true, false, IsTrue, Result, Ok, Err}
use Rattle.sqlite_resolve.specs.declared.compiled.Compiled.{Compiled}
use Rattle.sqlite_resolve.specs.declared.error.CompileError.{CompileError}
use Rattle.sqlite_schema.specs.declared.command.Command.{Command}
use Rattle.sqlite_schema.specs.declared.command.Command.TheVariants.{Select, Insert, Update, Delete, Nothing}
use Rattle.sqlite.specs.Given.{IsPlain}
use Rattle.sqlite.specs.Listing.{understood, reads_listing}
use Rattle.sqlite.specs.Schema.{Schema}
use Rattle.sql_tables.specs.Schema.{desk_schema}

abbrev pub command_in : Result Compiled CompileError → Command
command_in (Ok compiled) = compiled.command
command_in (Err fault) = Nothing

abbrev pub changes_rows : Command → Bool
changes_rows (Insert table source) = true
changes_rows (Update table rows) = true
changes_rows (Delete table rows) = true
changes_rows _ = false

abbrev pub selects : Command → Bool
selects (Select query names) = true
selects _ = false

-- one statement that puts rows in, changes some or takes some out
pub record IsEdit (text : List ℕ) : Type 0 where
  pub changes : IsTrue (changes_rows (command_in (understood desk_schema text)))
  pub plain : IsPlain (understood desk_schema text)

-- one query of tables of a schema, of rows and not of the list of tables
pub record IsQueryIn (schema : Schema) (text : List ℕ) : Type 0 where
  pub selects : IsTrue (selects (command_in (understood schema text)))
  pub plain : IsPlain (understood schema text)
  pub unlisted : reads_listing schema text ≡ false

abbrev pub IsQuery : List ℕ → Type 0
IsQuery = IsQueryIn desk_schema
