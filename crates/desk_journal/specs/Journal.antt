-- The journal of a desk: its accepted entries in the order of their numbers, from one on, each with how it fares by now and the
-- messages that were sent because of it.
use Rattle.std.specs.Prelude.{◌≡◌, ℕ, nat_lt, if◌then◌else◌, List, length, map, codes, Option, None, option_map}
use Rattle.std.specs.List.{filter_map, range_with_len}
use Rattle.serde_json.specs.Data.{Data, array, member, no_members, object}
use Rattle.serde_json.specs.View.{items_of}
use Rattle.serde_json.specs.Written.{compact_text}
use Rattle.desk_rules.specs.declared.history.entry.Entry.{Entry}
use Rattle.desk_rules.specs.Books.{Books}
use Rattle.desk_rules.specs.History.{entry_at}
use Rattle.desk_journal.specs.Messages.{messages_of}
use Rattle.desk_journal.specs.Outcomes.{outcome_of}
use Rattle.desk_journal.specs.JournalData.{journal_data}
use Rattle.desk_journal.specs.declared.rows.journal.JournalRow.{JournalRow}

-- the row of the entry of a number
abbrev pub row_of : Books → ℕ → Entry → JournalRow
row_of books n entry = record { number = n; entry = entry; outcome = outcome_of books n entry }

-- the row of a number from one on; none where no entry has it
abbrev pub row_from : Books → ℕ → ℕ → Option JournalRow
row_from books from n = if nat_lt n from then None else option_map (row_of books n) (entry_at books.history n)

-- the journal: the rows from a number on
abbrev pub journal_of : Books → ℕ → List JournalRow
journal_of books from = filter_map (row_from books from) (range_with_len 1 (length books.history))

-- a row as JSON, with the messages of its entry
abbrev pub data_of : Books → JournalRow → Data
data_of books row = journal_data row (messages_of books row.number)

-- its text: an object of one array
abbrev pub IsJournalText : Books → ℕ → List ℕ → Type 0
IsJournalText books from text = text ≡ compact_text (object (member (codes "journal") (array (items_of (map (data_of books) (journal_of books from)))) no_members))
