-- The table of where instructions stand: what its rows say, and what is recorded in it.
use Rattle.std.specs.Prelude.{◌≡◌, ◌≢◌, ℕ, ◌<◌, ◌≤◌, ◌^◌, ◌==◌, ◌&&◌, ◌⊎◌, pos, false, if◌then◌else◌, List, [], ◌∷◌, Option, Some, None, IfSome, unwrap_or}
use Rattle.std.specs.List.{AllByRecursion, find}
use Rattle.sqlite.specs.declared.types.Value.{Value}
use Rattle.sqlite.specs.declared.types.Value.TheVariants.{Null, Int}
use Rattle.sqlite.specs.Order.{Row, column}
use Rattle.sqlite.specs.Tree.{IsTable, rowid}
use Rattle.sqlite.specs.Effect.{Database}
use Rattle.desk_msg.specs.declared.writing.status.Reason.{Reason}
use Rattle.desk_msg.specs.declared.writing.status.Reason.TheVariants.{Future, Lack, Money}
use Rattle.desk_rules.specs.declared.history.standing.State.{State}
use Rattle.desk_rules.specs.declared.history.standing.State.TheVariants.{NoInstruction, Unmatched, Matched, Cancelled, Settled}
use Rattle.desk_rules.specs.declared.history.standing.Standing.{Standing}
use Rattle.desk_rules.specs.Standing.{no_standing}
use Rattle.sql_tables.specs.Ends.{SparesOthers}
use Rattle.sql_tables.specs.Rows.{number_rows}

-- ---- what is written of a standing

abbrev pub state_code : State → ℕ
state_code NoInstruction = 0
state_code Unmatched = 1
state_code (Matched reason) = 2
state_code Cancelled = 3
state_code Settled = 4

-- why a matched instruction is not settled; 0 where it is not matched
abbrev pub reason_code : State → ℕ
reason_code NoInstruction = 0
reason_code Unmatched = 0
reason_code (Matched Future) = 1
reason_code (Matched Lack) = 2
reason_code (Matched Money) = 3
reason_code Cancelled = 0
reason_code Settled = 0

-- the states of an instruction
abbrev pub states : List State
states = Unmatched ∷ Matched Future ∷ Matched Lack ∷ Matched Money ∷ Cancelled ∷ Settled ∷ []

-- the state that is written so; where there is none, it is not an instruction's
abbrev pub state_written : ℕ → ℕ → State
state_written code reason = unwrap_or (find (λ s. (state_code s == code) && (reason_code s == reason)) states) NoInstruction

-- the mate that is written so, 0 for none
abbrev pub mate_written : ℕ → Option ℕ
mate_written mate = if mate == 0 then None else Some mate

-- the columns of a standing: its mate, its state by two codes, and 1 where its cancellation was requested
pub record Written : Type 0 where
  pub mate : ℕ
  pub state : ℕ
  pub reason : ℕ
  pub asked : ℕ

abbrev pub standing_written : Written → Standing
standing_written w = record { mate = mate_written w.mate; state = state_written w.state w.reason; cancel_requested = w.asked == 1 }

-- ---- the rows

abbrev pub columns_of : Written → Row
columns_of w = Int (pos w.mate) ∷ Int (pos w.state) ∷ Int (pos w.reason) ∷ Int (pos w.asked) ∷ []

-- the row of a number, which SQL keeps as the row's own, with nothing in its column
abbrev pub standing_row : ℕ → Written → Row
standing_row number w = Int (pos number) ∷ Null ∷ columns_of w

abbrev pub count_in : Value → ℕ
count_in (Int (pos n)) = n
count_in _ = 0

abbrev pub number_of_row : Row → ℕ
number_of_row row = count_in (rowid row)

abbrev pub written_in : Row → Written
written_in row = record { mate = count_in (column row 2); state = count_in (column row 3); reason = count_in (column row 4); asked = count_in (column row 5) }

-- a row says where an instruction stands
pub record IsStandingRow (row : Row) : Type 0 where
  pub number : ℕ
  pub written : Written
  pub is : row ≡ standing_row number written
  pub small : number < 2 ^ 63
  pub instruction : state_written written.state written.reason ≢ NoInstruction
  pub request : written.asked ≤ 1

-- each row does, and the numbers rise
pub record AreStandings (db : Database) : Type 0 where
  pub rising : IsTable (db.trees 8)
  pub formed : AllByRecursion IsStandingRow (db.trees 8)

-- ---- what is recorded

abbrev pub standing_among : List Row → ℕ → Standing
standing_among [] n = no_standing
standing_among (row ∷ rows) n = if number_of_row row == n then standing_written (written_in row) else standing_among rows n

-- where the instruction of a number stands; what has no row is none
abbrev pub standing_in : Database → ℕ → Standing
standing_in db = standing_among (db.trees 8)

-- where an instruction stands as it is accepted
abbrev pub fresh_standing : Standing
fresh_standing = record { mate = None; state = Unmatched; cancel_requested = false }

-- what the query on a number shows: no row and no standing, or the columns of one
abbrev pub IsStandingShown : List Row → Standing → Type 0
IsStandingShown rows standing = ((rows ≡ []) × (standing ≡ no_standing)) ⊎ ((w : Written) × (rows ≡ columns_of w ∷ []) × (standing ≡ standing_written w))

-- what the query shows is read: no row, or the columns of an instruction's standing
abbrev pub AreReadable : List Row → Type 0
AreReadable rows = (rows ≡ []) ⊎ ((w : Written) × (rows ≡ columns_of w ∷ []) × (state_written w.state w.reason ≢ NoInstruction) × (w.asked ≤ 1))

-- The table records these standings now; no other table has changed.
pub record StandingsChanged (old new : Database) (standings : ℕ → Standing) : Type 0 where
  pub kept : AreStandings new
  pub standings_are : standing_in new ≡ standings
  pub others : SparesOthers 8 9 old new

-- ---- what waits to be settled

-- the instruction of this number is matched, and not settled, and the number is above one
pub record IsMatchedAbove (db : Database) (after n : ℕ) : Type 0 where
  pub reason : Reason
  pub matched : (standing_in db n).state ≡ Matched reason
  pub above : after < n

-- the least such number, or there is none
abbrev pub IsNextMatched : Database → ℕ → Option ℕ → Type 0
IsNextMatched db after None = (n : ℕ) → IsMatchedAbove db after n → ⊥
IsNextMatched db after (Some n) = IsMatchedAbove db after n × ((m : ℕ) → IsMatchedAbove db after m → n ≤ m)

-- the rows show it, or there is none
pub record IsNextShown (db : Database) (after : ℕ) (rows : List Row) : Type 0 where
  pub found : Option ℕ
  pub shown : rows ≡ number_rows found
  pub next : IsNextMatched db after found
  pub small : IfSome found (λ n. n < 2 ^ 63)
