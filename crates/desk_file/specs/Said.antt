-- What a database says of a desk, whoever opens it.
use Rattle.sqlite.specs.Effect.{Database, IsDatabase}
use Rattle.desk_rules.specs.Books.{Books}
use Rattle.desk_rules.specs.Content.{Content}
use Rattle.desk_rules.specs.declared.limits.TheConstants.{MOST_ENTRIES}
use Rattle.desk_engine.specs.Ready.{KeepsFormed}
use Rattle.sql_register.specs.Holds.{Becomes}

-- It is the desk's tables, and what they say is what a desk with these books keeps.
pub record SaysBooks (db : Database) (books : Books) : Type 0 where
  pub is : IsDatabase db
  pub content : Content
  pub keeps : KeepsFormed MOST_ENTRIES books content
  pub tables : Becomes db content
