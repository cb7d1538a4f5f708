-- What a register keeps, and what an accepted entry leaves behind.
use Rattle.std.specs.Prelude.{◌≡◌, ℕ, List, [], ◌∷◌, ◌++◌, length, Contains, Option, Some, None}
use Rattle.desk_rules.specs.declared.history.entry.Entry.{Entry}
use Rattle.desk_rules.specs.declared.history.entry.Entry.TheVariants.{Cancel, Run}
use Rattle.desk_rules.specs.declared.history.standing.State.{State}
use Rattle.desk_rules.specs.declared.history.pair.Pair.{Pair}
use Rattle.desk_rules.specs.declared.answers.verdict.Verdict.TheVariants.{Accept}
use Rattle.desk_rules.specs.Pairing.{IsFree}
use Rattle.desk_rules.specs.Settlement.{passes_of, settled_count}
use Rattle.desk_rules.specs.Books.{Books}
use Rattle.desk_rules.specs.Verdict.{IsVerdict, WasAccepted, named_by}
use Rattle.desk_rules.specs.Reply.{cancellation_case, case_by_state, reply_to, waiting_count}
use Rattle.desk_rules.specs.Content.{Content}
use Rattle.desk_rules.specs.Tables.{AreTables}
use Rattle.desk_register.specs.Looked.{kept_at}
use Rattle.desk_engine.specs.declared.applied.Accepted.{Accepted}
use Rattle.desk_engine.specs.declared.applied.Applied.{Applied}

-- A register keeps the tables of books. Each entry was accepted in its turn by a desk that may hold `limit` entries.
pub record Keeps (limit : ℕ) (books : Books) (content : Content) : Type 0 where
  pub tables : AreTables books content
  pub accepted : WasAccepted limit books.history

-- the books of the empty history
abbrev pub no_books : Books
no_books = record { history = []; pairs = []; settled = [] }

-- the earlier instruction that the entry n is paired with, if it is in a pair
abbrev pub IsMateOf : List Pair → ℕ → Option ℕ → Type 0
IsMateOf pairs n None = IsFree pairs n
IsMateOf pairs n (Some m) = Contains pairs (record { earlier = m; later = n })

-- where the instruction stands that a cancellation names, as far as its reply tells
abbrev pub IsNamed : Books → Entry → State → Type 0
IsNamed books (Cancel sender order) state = cancellation_case books (named_by books.history sender order) ≡ case_by_state state
IsNamed books entry state = Unit {0}

-- how many passes an entry made: a run those of its rule, what is no run none
abbrev pub HasPasses : Books → Entry → ℕ → ℕ → Type 0
HasPasses books (Run reference day rule) n passes = passes_of books.history books.settled n ≡ passes
HasPasses books entry n passes = passes ≡ 0

-- how the last entry of these books fared
pub record IsApplied (books : Books) (entry : Entry) (applied : Applied) : Type 0 where
  pub number : applied.number ≡ length books.history
  pub mate : IsMateOf books.pairs applied.number applied.mate
  pub settled : settled_count books.settled applied.number ≡ applied.settled
  pub waiting : waiting_count books applied.number ≡ applied.waiting
  pub passes : HasPasses books entry applied.number applied.passes
  pub named : IsNamed books entry applied.named

-- the desk accepts an entry
pub record CanApply (limit : ℕ) (entry : Entry) (content : Content) : Type 0 where
  pub books : Books
  pub keeps : Keeps limit books content
  pub verdict : IsVerdict limit books entry Accept

-- The register keeps the books with one entry more, which fared so; its reply is the defined one, and is what is kept
-- with it under its number.
pub record HasApplied (limit : ℕ) (books : Books) (entry : Entry) (accepted : Accepted) (content : Content) : Type 0 where
  pub after : Books
  pub longer : after.history ≡ books.history ++ entry ∷ []
  pub keeps : Keeps limit after content
  pub fared : IsApplied after entry accepted.applied
  pub replied : accepted.reply ≡ reply_to after entry
  pub kept : kept_at content.register accepted.applied.number ≡ Some (record { entry = entry; reply = accepted.reply })
