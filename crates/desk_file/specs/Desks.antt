-- What opens.
use Rattle.std.specs.Prelude.{◌≡◌, ◌⊎◌, ℕ, []}
use Rattle.sqlite.specs.Effect.{Database, IsDatabase}
use Rattle.sqlite.specs.Files.{HoldsDatabase}
use Rattle.sqlite_wal.specs.Recovery.{Image}
use Rattle.desk_rules.specs.Content.{Content}
use Rattle.sql_tables.specs.Schema.{no_schema}
use Rattle.desk_file.specs.Audited.{IsAudited}

-- a database has no table, index or view, or is that of an accepted history of well-formed entries within the limit
abbrev pub IsDesks : ℕ → Database → Type 0
IsDesks limit db = (db.schema ≡ no_schema) ⊎ ((content : Content) × IsAudited db limit content)

-- the database file is empty, or the two files hold one of these
abbrev pub IsDesksIn : ℕ → Image → Type 0
IsDesksIn limit image = (image.db ≡ []) ⊎ ((db : Database) × IsDatabase db × HoldsDatabase image db.trees × IsDesks limit db)
