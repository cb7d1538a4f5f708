-- The desk's promise: what a settlement officer may rely on after every answer of an open desk, repeats included.
use Rattle.std.specs.Prelude.{◌≡◌, ℕ, Bool, false}
use Rattle.desk_rules.specs.Books.{Books}
use Rattle.desk_rules.specs.Content.{Content}
use Rattle.desk_rules.specs.Tables.{AreTables}
use Rattle.desk_rules.specs.Verdict.{WasAccepted}
use Rattle.desk_rules.specs.WellFormed.{AreWellFormed}
use Rattle.desk_register.specs.View.{View}
use Rattle.desk_engine.specs.Sound.{IsSound}

pub record Headline (limit : ℕ) (books : Books) (content : Content) : Type 0 where
  -- the replies, the states, the balances and the sent messages that are kept are those of the history of accepted commands
  pub tables : AreTables books content
  -- each of these was accepted in its turn, and is well formed
  pub accepted_in_turn : WasAccepted limit books.history
  pub well_formed : AreWellFormed books.history
  -- there the securities and the cash add up, no balance is below 0, each change is confirmed, no leg of a settlement
  -- moves alone, and a run in passes leaves no due pair covered
  pub sound : IsSound books content

-- an open desk keeps the promise with these books; of a closed one nothing is said
abbrev pub KeepsPromise : Bool → View → Books → Type 0
KeepsPromise is_closed view books = is_closed ≡ false → Headline view.room books view.content
