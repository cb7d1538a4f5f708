use Rattle.sql_tables.specs.Schema.{desk_schema}
use Rattle.sql_tables.proofs.statement.query.Goals as goal

pub returns-clause-look : goal.returns-clause-look
returns-clause-look g c = c.query_of.ensures.look desk_schema c.requires.query
