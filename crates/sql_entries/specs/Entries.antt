-- What the table `register` holds: the accepted entries with their replies, numbered from 1.
use Rattle.std.specs.Prelude.{◌≡◌, ℕ, ◌+◌, ◌<◌, ◌^◌, pos, List, [], ◌∷◌, ◌++◌, length, map, Option, Some, None}
use Rattle.sqlite.specs.declared.types.Value.{Value}
use Rattle.sqlite.specs.declared.types.Value.TheVariants.{Null, Int, Text as Words}
use Rattle.sqlite.specs.Order.{Row}
use Rattle.sqlite.specs.Effect.{Database}
use Rattle.desk_rules.specs.declared.history.entry.Entry.{Entry}
use Rattle.desk_rules.specs.declared.answers.reply.Kept.{Kept}
use Rattle.desk_rules.specs.declared.answers.reply.Reply.{Reply}
use Rattle.desk_rules.specs.History.{reference_of, sender_of}
use Rattle.sql_tables.specs.Ends.{SparesOthers}
use Rattle.sql_tables.specs.Versions.{register_tree}
use Rattle.sql_entries.specs.Columns.{about_of, columns_of, kind_number, sender_text}
use Rattle.sql_entries.specs.Told.{kind_in, rule_in}
use Rattle.sql_tables.specs.declared.versions.Version.{Version}
use Rattle.sql_tables.specs.declared.versions.Version.TheVariants.{Third}

-- the message type of a reply, and NULL where it is no message
abbrev pub type_value : Option ℕ → Value
type_value None = Null
type_value (Some mt) = Int (pos mt)

-- what the columns behind the number say
abbrev pub values_of : Entry → Reply → Row
values_of entry reply =
    Words (sender_text (sender_of entry)) ∷ Words (reference_of entry) ∷ Int (pos (kind_number entry)) ∷ Words (about_of entry) ∷ Words (columns_of entry).bic
    ∷ Words (columns_of entry).account ∷ Words (columns_of entry).isin ∷ Words (columns_of entry).unit ∷ Int (pos (columns_of entry).quantity)
    ∷ Words (columns_of entry).currency ∷ Int (pos (columns_of entry).amount) ∷ Words (columns_of entry).day ∷ Int (pos (columns_of entry).rule)
    ∷ Int (pos (columns_of entry).mt) ∷ Words (columns_of entry).settlement ∷ Words (columns_of entry).place ∷ Words (columns_of entry).previous
    ∷ Int (pos reply.status) ∷ type_value reply.mt ∷ Words reply.text ∷ []

-- the same in a version of the file
abbrev pub values_in : Version → Entry → Reply → Row
values_in version entry reply =
    Words (sender_text (sender_of entry)) ∷ Words (reference_of entry) ∷ Int (pos (kind_in version entry)) ∷ Words (about_of entry) ∷ Words (columns_of entry).bic
    ∷ Words (columns_of entry).account ∷ Words (columns_of entry).isin ∷ Words (columns_of entry).unit ∷ Int (pos (columns_of entry).quantity)
    ∷ Words (columns_of entry).currency ∷ Int (pos (columns_of entry).amount) ∷ Words (columns_of entry).day ∷ Int (pos (rule_in version entry))
    ∷ Int (pos (columns_of entry).mt) ∷ Words (columns_of entry).settlement ∷ Words (columns_of entry).place ∷ Words (columns_of entry).previous
    ∷ Int (pos reply.status) ∷ type_value reply.mt ∷ Words reply.text ∷ []

-- The row of an entry with its reply, as it is stored: its rowid is the number, and NULL stands in the key's own column.
abbrev pub row_in : Version → ℕ → Entry → Reply → Row
row_in version number entry reply = Int (pos number) ∷ Null ∷ values_in version entry reply

abbrev pub row_of : ℕ → Entry → Reply → Row
row_of number entry reply = Int (pos number) ∷ Null ∷ values_of entry reply

-- what is given for such a row, in the order of the columns
abbrev pub given : ℕ → Entry → Reply → Row
given number entry reply = Int (pos number) ∷ values_of entry reply

abbrev pub given_in : Version → ℕ → Entry → Reply → Row
given_in version number entry reply = Int (pos number) ∷ values_in version entry reply

-- the rows of these entries, whose numbers go on from n
abbrev pub rows_in : Version → ℕ → List Kept → List Row
rows_in version n [] = []
rows_in version n (kept ∷ more) = row_in version (n + 1) kept.entry kept.reply ∷ rows_in version (n + 1) more

abbrev pub rows_from : ℕ → List Kept → List Row
rows_from = rows_in Third

-- the table is these entries with their replies, numbered from 1, and each number fits an integer of SQL
pub record AreEntriesIn (version : Version) (db : Database) (register : List Kept) : Type 0 where
  pub rows : db.trees (register_tree version) ≡ rows_in version 0 register
  pub few : length register < 2 ^ 63

abbrev pub AreEntries : Database → List Kept → Type 0
AreEntries = AreEntriesIn Third

-- the entries alone
abbrev pub entries_in : List Kept → List Entry
entries_in = map (λ kept. kept.entry)

abbrev pub with_entry : List Kept → Entry → Reply → List Kept
with_entry register entry reply = register ++ record { entry = entry; reply = reply } ∷ []

-- the register has one entry more, and no other table has changed
pub record EntryAdded (old new : Database) (register : List Kept) (entry : Entry) (reply : Reply) : Type 0 where
  pub entries : AreEntries new (with_entry register entry reply)
  pub spares : SparesOthers 6 8 old new
