-- The table of what was sent: a list, in order of number.
use Rattle.std.specs.Prelude.{◌≡◌, ◌+◌, ◌<◌, ◌^◌, ℕ, pos, List, [], ◌∷◌, ◌++◌, length, filter, drop, bytes_eq, Option, None, Some, unwrap_or}
use Rattle.std.specs.List.{AllByRecursion}
use Rattle.std.specs.Int.{w64, cast_signed}
use Rattle.sqlite.specs.Order.{Row}
use Rattle.sqlite.specs.declared.types.Value.TheVariants.{Null, Int, Text as Words}
use Rattle.sqlite.specs.Effect.{Database}
use Rattle.desk_codes.specs.Bic.{IsBic}
use Rattle.desk_rules.specs.declared.answers.reply.Sent.{Sent}
use Rattle.desk_rules.specs.Questions.{sent_at}
use Rattle.sql_tables.specs.Ends.{SparesOthers}
use Rattle.sql_tables.specs.Rows.{number_rows}

-- what was sent to the participant of a BIC, in order
abbrev pub sent_to : List Sent → List ℕ → List Sent
sent_to messages bic = filter (λ message. bytes_eq message.bic bic) messages

-- a message as it is stored, with its number
abbrev pub stored : ℕ → Sent → Row
stored number message = Int (pos number) ∷ Null ∷ Words message.bic ∷ Int (pos message.mt) ∷ Int (cast_signed w64 message.about) ∷ Words message.text ∷ []

-- the rows of messages, numbered from here on
abbrev pub rows_from : ℕ → List Sent → List Row
rows_from number [] = []
rows_from number (message ∷ more) = stored number message ∷ rows_from (number + 1) more

-- the table is this list
pub record AreSent (db : Database) (messages : List Sent) : Type 0 where
  pub rows : db.trees 9 ≡ rows_from 1 messages
  pub few : length messages < 2 ^ 63
  pub fit : AllByRecursion (λ message. message.about < 2 ^ 64) messages

-- a message that the desk may send: to a participant by its BIC, and of a type of 16 bits
pub record IsSendable (message : Sent) : Type 0 where
  pub bic : IsBic message.bic
  pub mt : message.mt < 2 ^ 16

-- ---- a message more

-- the message is added, and no other table has changed
pub record Adds (old new : Database) (messages : List Sent) (message : Sent) : Type 0 where
  pub sent : AreSent new (messages ++ message ∷ [])
  pub others : SparesOthers 9 10 old new

-- ---- what a query shows

-- a message as a query shows it
abbrev pub shown : Sent → Row
shown message = Words message.bic ∷ Int (pos message.mt) ∷ Int (cast_signed w64 message.about) ∷ Words message.text ∷ []

-- the rows of a query for one message
abbrev pub IsMessage : List Row → Option Sent → Type 0
IsMessage rows None = rows ≡ []
IsMessage rows (Some message) = (rows ≡ shown message ∷ []) × (message.about < 2 ^ 64)

-- the rows of a query for the last number, which is 0 where there is none
pub record IsLast (rows : List Row) (last : ℕ) : Type 0 where
  pub found : Option ℕ
  pub shown : rows ≡ number_rows found
  pub is : unwrap_or found 0 ≡ last

-- ---- the messages to one participant, one after the other

-- what was sent to a participant behind so many messages
abbrev pub left_to : List Sent → List ℕ → ℕ → List Sent
left_to messages bic after = sent_to (drop after messages) bic

-- the number of the first of these; there is none where they are none
abbrev pub IsNext : List Sent → List ℕ → ℕ → Option ℕ → Type 0
IsNext messages bic after None = left_to messages bic after ≡ []
IsNext messages bic after (Some number) = (message : Sent) × (sent_at messages number ≡ Some message) × (left_to messages bic after ≡ message ∷ left_to messages bic number)

-- the rows of a query for this number
pub record ShowsNext (messages : List Sent) (bic : List ℕ) (after : ℕ) (rows : List Row) : Type 0 where
  pub found : Option ℕ
  pub shown : rows ≡ number_rows found
  pub is : IsNext messages bic after found
