-- What is shown of an entry, and of a reply, where they are looked up by number.
use Rattle.std.specs.Prelude.{ℕ, zero, suc, pos, List, [], ◌∷◌, Option, None, Some, ◌<◌, ◌^◌, IfSome}
use Rattle.std.specs.List.{AllByRecursion}
use Rattle.sqlite.specs.declared.types.Value.TheVariants.{Int, Text as Words}
use Rattle.sqlite.specs.Order.{Row}
use Rattle.desk_rules.specs.declared.history.entry.Entry.{Entry}
use Rattle.desk_rules.specs.declared.answers.reply.Kept.{Kept}
use Rattle.desk_rules.specs.declared.answers.reply.Reply.{Reply}
use Rattle.desk_rules.specs.History.{reference_of, sender_of}
use Rattle.sql_entries.specs.Columns.{columns_of, kind_number, sender_text}
use Rattle.sql_entries.specs.Entries.{type_value}
use Rattle.sql_entries.specs.Told.{kind_in, rule_in}
use Rattle.sql_tables.specs.declared.versions.Version.{Version}

abbrev pub shown_entry : Entry → Row
shown_entry entry =
    Words (sender_text (sender_of entry)) ∷ Words (reference_of entry) ∷ Int (pos (kind_number entry)) ∷ Words (columns_of entry).bic ∷ Words (columns_of entry).account
    ∷ Words (columns_of entry).isin ∷ Words (columns_of entry).unit ∷ Int (pos (columns_of entry).quantity) ∷ Words (columns_of entry).currency
    ∷ Int (pos (columns_of entry).amount) ∷ Words (columns_of entry).day ∷ Int (pos (columns_of entry).rule) ∷ Int (pos (columns_of entry).mt)
    ∷ Words (columns_of entry).settlement ∷ Words (columns_of entry).place ∷ Words (columns_of entry).previous ∷ []

-- the same in a version of the file
abbrev pub shown_in : Version → Entry → Row
shown_in version entry =
    Words (sender_text (sender_of entry)) ∷ Words (reference_of entry) ∷ Int (pos (kind_in version entry)) ∷ Words (columns_of entry).bic ∷ Words (columns_of entry).account
    ∷ Words (columns_of entry).isin ∷ Words (columns_of entry).unit ∷ Int (pos (columns_of entry).quantity) ∷ Words (columns_of entry).currency
    ∷ Int (pos (columns_of entry).amount) ∷ Words (columns_of entry).day ∷ Int (pos (rule_in version entry)) ∷ Int (pos (columns_of entry).mt)
    ∷ Words (columns_of entry).settlement ∷ Words (columns_of entry).place ∷ Words (columns_of entry).previous ∷ []

abbrev pub shown_reply : Reply → Row
shown_reply reply = Int (pos reply.status) ∷ type_value reply.mt ∷ Words reply.text ∷ []

-- the rows of what there may be one of
abbrev pub row_if : {X : Type 0} → (X → Row) → Option X → List Row
row_if shows None = []
row_if shows (Some x) = shows x ∷ []

-- what is shown of the greatest number
abbrev pub count_rows : ℕ → List Row
count_rows zero = []
count_rows (suc n) = (Int (pos (suc n)) ∷ []) ∷ []

-- the status of a reply and its message type are numbers of 16 bits
pub record HasShortNumbers (reply : Reply) : Type 0 where
  pub status : reply.status < 2 ^ 16
  pub mt : IfSome reply.mt (λ mt. mt < 2 ^ 16)

abbrev pub HaveShortNumbers : List Kept → Type 0
HaveShortNumbers = AllByRecursion (λ kept. HasShortNumbers kept.reply)
