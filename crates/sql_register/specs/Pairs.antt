-- What both instructions of a pair become.
use Rattle.std.specs.Prelude.{◌≢◌, ℕ}
use Rattle.sqlite.specs.Effect.{Database}
use Rattle.desk_register.specs.Changes.{standing_both}
use Rattle.desk_rules.specs.declared.history.standing.State.{State}
use Rattle.desk_rules.specs.declared.history.standing.State.TheVariants.{NoInstruction}
use Rattle.sql_rows.specs.Standings.{AreStandings, StandingsChanged, standing_in}

-- both stand so, as each other's mates
abbrev pub StandBoth : Database → Database → ℕ → ℕ → State → Type 0
StandBoth old new earlier later state = StandingsChanged old new (standing_both (standing_in old) earlier later state)

-- both are instructions that stand somewhere
pub record StandAlready (db : Database) (m n : ℕ) : Type 0 where
  pub standings : AreStandings db
  pub earlier : (standing_in db m).state ≢ NoInstruction
  pub later : (standing_in db n).state ≢ NoInstruction
