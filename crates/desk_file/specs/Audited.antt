-- What an audit says of a database.
use Rattle.std.specs.Prelude.{◌≡◌, ⊤, ℕ}
use Rattle.sqlite.specs.Effect.{Database}
use Rattle.desk_rules.specs.Content.{Content, history_of}
use Rattle.desk_rules.specs.WellFormed.{AreWellFormed}
use Rattle.desk_engine.specs.KeptHistory.{HoldsKept}
use Rattle.sql_register.specs.Holds.{Becomes}
use Rattle.sql_rows.specs.Messages.{AreSent}
use Rattle.sql_rows.specs.Said.{HasAmounts}
use Rattle.desk_file.specs.Reading.{IsReadIn}
use Rattle.sql_rows.specs.StandingsTold.{SaysStandingsIn}
use Rattle.sql_tables.specs.Versions.{schema_in, SaysVersion}
use Rattle.sql_tables.specs.declared.versions.Version.{Version}
use Rattle.sql_tables.specs.declared.versions.Version.TheVariants.{First, Second, Third}

-- The database is the desk's tables of this version, and says this content, and nothing else; and a register that holds the
-- content has taken each of its entries, all well formed, in its turn, and gave each the reply that is kept.
pub record IsAudited (db : Database) (limit : ℕ) (content : Content) : Type 0 where
  pub becomes : Becomes db content
  pub held : HoldsKept limit content.register content
  pub formed : AreWellFormed (history_of content)

-- the tables beside `version` and `register` say what a content does, as far as a version of the file tells
pub record SaysRest (version : Version) (db : Database) (content : Content) : Type 0 where
  pub standings : SaysStandingsIn version db content
  pub sent : AreSent db content.sent
  pub amounts : HasAmounts db content

-- version 1 has no such tables
abbrev pub HasRest : Version → Database → Content → Type 0
HasRest First db content = ⊤
HasRest Second db content = SaysRest Second db content
HasRest Third db content = SaysRest Third db content

-- so they do, and the table `register` is the list that a register holds
pub record IsFilled (version : Version) (db : Database) (limit : ℕ) (content : Content) : Type 0 where
  pub read : IsReadIn version db limit content
  pub rest : HasRest version db content

-- the database is of this version, and holds an accepted history that comes to this content
pub record HoldsVersion (version : Version) (db : Database) (limit : ℕ) (content : Content) : Type 0 where
  pub schema : db.schema ≡ schema_in version
  pub says : SaysVersion version db
  pub filled : IsFilled version db limit content
