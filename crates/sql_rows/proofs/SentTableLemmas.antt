-- What the table of messages says depends on its own tree alone, and an empty table says nothing.
use Rattle.std.proofs.Common.{◌≡◌, List, [], ◌∙◌, arith}
use Rattle.sqlite.specs.Effect.{Database}
use Rattle.desk_rules.specs.declared.answers.reply.Sent.{Sent}
use Rattle.sql_rows.specs.Messages.{AreSent}

pub same_sent : (a b : Database) → b.trees 9 ≡ a.trees 9 → (messages : List Sent) → AreSent a messages → AreSent b messages
same_sent a b same messages are = record { rows = same ∙ are.rows; few = are.few; fit = are.fit }

pub none_sent : (db : Database) → db.trees 9 ≡ [] → AreSent db []
none_sent db empty = record { rows = empty; few = omega arith; fit = tt }
