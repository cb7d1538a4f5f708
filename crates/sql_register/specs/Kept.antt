-- What a register in SQL keeps true, and what contracts see of it.
use Rattle.std.specs.Prelude.{◌≡◌, ◌≢◌, ◌≤◌, ℕ, [], true, false, None, IsTrue, refl}
use Rattle.std.specs.Coded.{Coded, code_by, coded×, coded_ℕ}
use Rattle.sqlite.specs.State.{State, HasCleanDisk}
use Rattle.desk_register.specs.declared.register.Stage.{Stage}
use Rattle.desk_register.specs.contracts.register.Stage as stage
use Rattle.desk_register.specs.declared.register.Stage.TheVariants.{Idle, Begun, Failed}
use Rattle.desk_register.specs.View.{View}
use Rattle.desk_rules.specs.declared.limits.TheConstants.{MOST_ENTRIES}
use Rattle.sql_tables.specs.Schema.{desk_schema}
use Rattle.sql_register.specs.Content.{content_in}
use Rattle.sql_register.specs.Holds.{IsDesk}

-- the session, the stage, and the greatest number of entries
pub record Kept (S : Type 0) : Type 0 where
  pub connection : S
  pub stage : Stage
  pub room : ℕ

abbrev pub kept_code : {S : Type 0} → Coded S → Coded (Kept S)
kept_code {S} session =
    code_by (S × (Stage × ℕ)) (coded× session (coded× stage.the_row.coded coded_ℕ)) (λ k. (k.connection, (k.stage, k.room)))
    (λ p. record { connection = p.0; stage = p.1.0; room = p.1.1 }) (λ _. refl)

-- Where no wrong answer was taken as true and the connection is open: what was committed is a desk's tables, and what is
-- seen until a call has failed; with no `begin` open that is the same, and no transaction is; within one it is open, with no
-- savepoint.
pub record IsOpenDesk (s : State) (stage : Stage) : Type 0 where
  pub committed : IsDesk s.committed
  pub schema : s.now.schema ≡ desk_schema
  pub now : stage ≢ Failed → IsDesk s.now
  pub idle : stage ≡ Idle → s.now ≡ s.committed
  pub closed : stage ≡ Idle → s.in_transaction ≡ false
  pub begun : stage ≡ Begun → s.in_transaction ≡ true
  pub unmarked : stage ≡ Begun → s.marks ≡ []
  pub outside : s.in_transaction ≡ false → s.marks ≡ []

-- it has room for no more entries than a register can have, and no limit is set on the steps of a query
pub record IsBounded (s : State) (room : ℕ) : Type 0 where
  pub few : room ≤ MOST_ENTRIES
  pub unlimited : s.step_limit ≡ None

abbrev pub IsKept : State → Stage → Type 0
IsKept s stage = HasCleanDisk s → IsTrue s.is_open → IsOpenDesk s stage

-- `back` goes back to what was committed
abbrev pub shown : State → Stage → ℕ → View
shown s stage room = record {
  content = content_in s.now;
  mark = content_in s.committed;
  stage = stage;
  room = room;
  is_honest = HasCleanDisk s;
  is_sure = IsTrue s.is_open;
  device = record { failures = s.faults; is_honest = HasCleanDisk s; is_sure = IsTrue s.is_open };
}

abbrev pub view_of : {S : Type 0} → (S → State) → Kept S → View
view_of state k = shown (state k.connection) k.stage k.room
