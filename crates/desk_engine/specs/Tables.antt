-- The tables of books in the relations of `Stands` in desk_rules, in which the steps of the rules are proved. Only proofs
-- and private contracts speak of them: what a register keeps is `Keeps` in Applied.antt, which says this, with the replies.
use Rattle.std.specs.Prelude.{◌≡◌, ℕ, Bool, true, false, List, [], ◌∷◌, ◌++◌, Option, Some, None}
use Rattle.desk_rules.specs.declared.history.entry.Entry.{Entry}
use Rattle.desk_rules.specs.declared.history.entry.Entry.TheVariants.{Instruct, Cancel, Run}
use Rattle.desk_rules.specs.declared.history.pair.Pair.{Pair}
use Rattle.desk_rules.specs.declared.history.pair.Settled.{Settled}
use Rattle.desk_rules.specs.declared.answers.verdict.Verdict.TheVariants.{Accept}
use Rattle.desk_rules.specs.History.{instruction_at}
use Rattle.desk_rules.specs.Books.{Books, AreBooks}
use Rattle.desk_rules.specs.Verdict.{IsVerdict, WasAccepted}
use Rattle.desk_rules.specs.Content.{Content, history_of}
use Rattle.desk_rules.specs.Tables.{AreCashBalances, ArePositions, HasSent}
use Rattle.desk_rules.specs.Stands.{StandsAt}
use Rattle.desk_register.specs.Changes.{paired}
use Rattle.desk_engine.specs.Sending.{with_advised}

-- A content is that of books, each entry of which was accepted in its turn by a desk that may hold `limit` entries.
pub record Tables (limit : ℕ) (books : Books) (content : Content) : Type 0 where
  pub history : history_of content ≡ books.history
  pub are_books : AreBooks books
  pub accepted : WasAccepted limit books.history
  pub standing : (k : ℕ) → StandsAt books k (instruction_at books.history k) (content.standing k)
  pub position : ArePositions books.history books.settled content.position
  pub cash : AreCashBalances books.history books.settled content.cash
  pub sent : HasSent books content

-- books of which a content is the tables, after one entry more
pub record Grown (limit : ℕ) (books : Books) (entry : Entry) (content : Content) : Type 0 where
  pub pairs : List Pair
  pub settled : List Settled
  pub tables : Tables limit (record { history = books.history ++ entry ∷ []; pairs = pairs; settled = settled }) content

-- a desk with this content, that may hold `limit` entries, accepts the entry
pub record IsAccepted (limit : ℕ) (entry : Entry) (content : Content) : Type 0 where
  pub books : Books
  pub tables : Tables limit books content
  pub verdict : IsVerdict limit books entry Accept

-- what the operator books, all commands but runs: a participant, an account, a security, what is issued, redeemed, paid
-- in or paid out; these pair and settle nothing
abbrev pub is_booking : Entry → Bool
is_booking (Instruct sender instruction) = false
is_booking (Cancel sender order) = false
is_booking (Run reference day rule) = false
is_booking entry = true

-- the content with an instruction of this number paired with its mate, if it has one, of which that one's sender is told
abbrev pub mated : ℕ → Option ℕ → Content → Content
mated n None content = content
mated n (Some m) content = with_advised m (paired m n content)
