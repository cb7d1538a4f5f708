-- What a register holds whose tables were made anew of a history.
use Rattle.std.specs.Prelude.{◌≡◌, ℕ, List}
use Rattle.desk_rules.specs.declared.history.entry.Entry.{Entry}
use Rattle.desk_rules.specs.declared.answers.reply.Kept.{Kept}
use Rattle.desk_rules.specs.Books.{Books}
use Rattle.desk_rules.specs.Content.{Content}
use Rattle.desk_engine.specs.Applied.{Keeps}
use Rattle.desk_engine.specs.KeptHistory.{CanBeKept, HoldsKept, entries_of}

-- a register keeps the tables of the books of exactly these entries
pub record KeepsEntries (limit : ℕ) (entries : List Entry) (content : Content) : Type 0 where
  pub books : Books
  pub history : books.history ≡ entries
  pub keeps : Keeps limit books content

-- a register holds exactly these entries, each with the first reply that it got, and keeps the tables of their books
pub record HoldsEntries (limit : ℕ) (entries : List Entry) (content : Content) : Type 0 where
  pub kept : List Kept
  pub listed : entries_of kept ≡ entries
  pub can : CanBeKept limit kept
  pub holds : HoldsKept limit kept content
  pub history : holds.books.history ≡ entries
