-- The rows of `register`: as a query shows them, and as entries with their replies make them in a version of the file.
use Rattle.std.specs.Prelude.{ℕ, pos, List, [], ◌∷◌, ◌++◌, option_map, Option}
use Rattle.sqlite.specs.declared.types.Value.TheVariants.{Int, Text as Words}
use Rattle.sqlite.specs.Order.{Row, column}
use Rattle.sqlite.specs.Tree.{rowid}
use Rattle.desk_rules.specs.declared.answers.reply.Kept.{Kept}
use Rattle.desk_register.specs.Looked.{kept_at}
use Rattle.sql_entries.specs.Columns.{about_of}
use Rattle.sql_entries.specs.Entries.{values_in}
use Rattle.sql_entries.specs.Shown.{shown_in, shown_reply}
use Rattle.sql_tables.specs.declared.versions.Version.{Version}

-- what the query shows of a row: the columns that say the entry, those that say the reply, the number, and what is registered
abbrev pub shown : Row → Row
shown row =
    column row 2 ∷ column row 3 ∷ column row 4 ∷ column row 6 ∷ column row 7 ∷ column row 8 ∷ column row 9 ∷ column row 10 ∷ column row 11 ∷ column row 12 ∷ column row 13
    ∷ column row 14 ∷ column row 15 ∷ column row 16 ∷ column row 17 ∷ column row 18 ∷ column row 19 ∷ column row 20 ∷ column row 21 ∷ rowid row ∷ column row 5 ∷ []

-- what it shows of the row of an entry with its reply
abbrev pub shown_kept : Version → ℕ → Kept → Row
shown_kept version number kept = shown_in version kept.entry ++ shown_reply kept.reply ++ Int (pos number) ∷ Words (about_of kept.entry) ∷ []

-- the values behind the number, for each number of a list
abbrev pub wanted : Version → List Kept → ℕ → Option Row
wanted version register number = option_map (λ kept. values_in version kept.entry kept.reply) (kept_at register number)
