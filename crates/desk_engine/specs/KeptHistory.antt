-- What a desk can have kept, and when a register holds it.
use Rattle.std.specs.Prelude.{◌≡◌, ℕ, ◌+◌, List, map, slice_get, Some}
use Rattle.desk_rules.specs.declared.history.entry.Entry.{Entry}
use Rattle.desk_rules.specs.declared.answers.reply.Kept.{Kept}
use Rattle.desk_rules.specs.Books.{Books}
use Rattle.desk_rules.specs.Content.{Content}
use Rattle.desk_rules.specs.Reply.{IsFirstReply}
use Rattle.desk_rules.specs.Verdict.{WasAccepted}
use Rattle.desk_engine.specs.Applied.{Keeps}

-- the history of a list of entries with their replies
abbrev pub entries_of : List Kept → List Entry
entries_of kept = map (λ k. k.entry) kept

-- A desk that may hold `limit` entries can have kept this list: each entry was accepted in its turn, and the reply that is
-- kept with it is the first that it got.
pub record CanBeKept (limit : ℕ) (kept : List Kept) : Type 0 where
  pub accepted : WasAccepted limit (entries_of kept)
  pub replies : (n : ℕ) (k : Kept) → slice_get kept n ≡ Some k → IsFirstReply (entries_of kept) (n + 1) k.reply

-- a register holds exactly this list, and keeps the tables of books
pub record HoldsKept (limit : ℕ) (kept : List Kept) (content : Content) : Type 0 where
  pub books : Books
  pub keeps : Keeps limit books content
  pub register : content.register ≡ kept

-- a register keeps the tables of some books
pub record KeepsSome (limit : ℕ) (content : Content) : Type 0 where
  pub books : Books
  pub keeps : Keeps limit books content
