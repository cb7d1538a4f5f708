-- The rows of `state` that standings make, and the table beside a content.
use Rattle.std.specs.Prelude.{◌≡◌, ◌≢◌, ℕ, ◌+◌, ◌<◌, ◌^◌, ◌⊎◌, false, if◌then◌else◌, List, length, map, Option, Some, None, unwrap_or}
use Rattle.sqlite.specs.Effect.{Database}
use Rattle.sqlite.specs.Order.{Row}
use Rattle.desk_rules.specs.declared.history.standing.State.{State}
use Rattle.desk_rules.specs.declared.history.standing.State.TheVariants.{NoInstruction}
use Rattle.desk_rules.specs.declared.history.standing.Standing.{Standing}
use Rattle.desk_rules.specs.Content.{Content}
use Rattle.desk_rules.specs.Standing.{no_standing}
use Rattle.sql_rows.specs.Standings.{columns_of, reason_code, standing_in, standing_written, state_code, AreStandings, Written}
use Rattle.sql_tables.specs.Whole.{shown_by}
use Rattle.sql_tables.specs.Numbered.{numbered_from}
use Rattle.sql_tables.specs.declared.versions.Version.{Version}
use Rattle.sql_tables.specs.declared.versions.Version.TheVariants.{First, Second, Third}

-- what is written of a standing
abbrev pub written_of : Standing → Written
written_of s = record { mate = unwrap_or s.mate 0; state = state_code s.state; reason = reason_code s.state; asked = if s.cancel_requested then 1 else 0 }

-- its row, where it is an instruction's
abbrev pub row_by : State → Row → Option Row
row_by NoInstruction values = None
row_by state values = Some values

abbrev pub wanted : (ℕ → Standing) → ℕ → Option Row
wanted standing n = row_by (standing n).state (columns_of (written_of (standing n)))

-- what the row of a number tells of a standing, or that there is none, is the standing
abbrev pub IsTold : ℕ → Standing → Type 0
IsTold n s = (s ≡ no_standing) ⊎ ((n < 2 ^ 63) × (s.state ≢ NoInstruction) × (standing_written (written_of s) ≡ s))

-- the rows show the standings of the first numbers, and nothing else
pub record AreTold (standing : ℕ → Standing) (n : ℕ) (rows : List Row) : Type 0 where
  pub shown : rows ≡ map (shown_by 4) (numbered_from (wanted standing) 0 n)
  pub each : (k : ℕ) → k < n → IsTold (k + 1) (standing (k + 1))

-- ---- versions of the file

-- version 3 alone tells whether a cancellation was requested
abbrev pub as_said : Version → Standing → Standing
as_said First s = record s { cancel_requested = false }
as_said Second s = record s { cancel_requested = false }
as_said Third s = s

abbrev pub content_as : Version → Content → Content
content_as version content = record content { standing = λ n. as_said version (content.standing n) }

-- ---- the table

-- what has no entry stands nowhere
abbrev pub StandsWithin : Content → Type 0
StandsWithin content = (n : ℕ) → (n ≡ 0) ⊎ (length content.register < n) → content.standing n ≡ no_standing

-- the table is well formed, and says where each entry stands
pub record SaysStandings (db : Database) (content : Content) : Type 0 where
  pub kept : AreStandings db
  pub each : (n : ℕ) → standing_in db n ≡ content.standing n

-- so it says, as far as a version of the file tells
abbrev pub SaysStandingsIn : Version → Database → Content → Type 0
SaysStandingsIn version db content = SaysStandings db (content_as version content)
