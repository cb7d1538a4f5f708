-- How a call on the desk's tables ends.
use Rattle.std.specs.Prelude.{◌≡◌, ◌⊎◌, ℕ, ◌+◌, ◌^◌, ◌≤◌, ◌<◌, [], ⊤, IsTrue, false, None, Result, Ok, OnOk, OnErr, IfErr}
use Rattle.sqlite_trees.specs.View.{doubt}
use Rattle.sqlite_rules.specs.Edit.{IsNoIndex}
use Rattle.sqlite.specs.Effect.{Database}
use Rattle.sqlite.specs.Schema.{Schema}
use Rattle.sqlite.specs.declared.error.Error.{Error}
use Rattle.sqlite.specs.declared.error.Error.TheVariants.{SqliteFailure}
use Rattle.sqlite.specs.declared.error.ErrorCode.TheVariants.{DatabaseCorrupt, OutOfMemory, TooBig, NoRowid}
use Rattle.sqlite.specs.State.{State, HasCleanDisk}
use Rattle.sql_tables.specs.Schema.{desk_schema}

-- Where answers over a call are to be trusted, this holds: no wrong answer of the device was taken as true up to the
-- call's end, the connection was open at its beginning, and its tables were these.
abbrev pub IfSoundIn : Schema → State → State → Type 0 → Type 0
IfSoundIn schema old new fact = HasCleanDisk new → IsTrue old.is_open → old.now.schema ≡ schema → fact

-- and they were the desk's
abbrev pub IfSound : State → State → Type 0 → Type 0
IfSound = IfSoundIn desk_schema

-- a failure that names want of memory, a value too large, or a table with no number left for a row
abbrev pub IsWant : Error → Type 0
IsWant (SqliteFailure OutOfMemory) = Unit {0}
IsWant (SqliteFailure TooBig) = Unit {0}
IsWant (SqliteFailure NoRowid) = Unit {0}
IsWant error = ⊥

-- what a row is answered with that no call of the desk writes
abbrev pub IsCorrupt : Error → Type 0
IsCorrupt error = error ≡ SqliteFailure DatabaseCorrupt

module _ (old new : State) where
  -- no doubt is taken back, no fault forgotten, and no limit is set on the steps of a query
  pub record IsLater : Type 0 where
    pub clean : doubt old.is_clean ≤ doubt new.is_clean
    pub faults : old.faults ≤ new.faults
    pub limit : new.step_limit ≡ old.step_limit

  -- the connection is open, in a transaction where it was, with the same savepoints; within one nothing was committed
  pub record Stays : Type 0 where
    pub is_open : IsTrue new.is_open
    pub schema : new.now.schema ≡ desk_schema
    pub mode : new.in_transaction ≡ old.in_transaction
    pub marks : new.marks ≡ old.marks
    pub committed : IsTrue old.in_transaction → new.committed ≡ old.committed

  -- nothing has changed
  pub record IsSame : Type 0 where
    pub is_open : IsTrue new.is_open
    pub now : new.now ≡ old.now
    pub committed : new.committed ≡ old.committed
    pub mode : new.in_transaction ≡ old.in_transaction
    pub marks : new.marks ≡ old.marks

  -- the store failed, and the transaction is taken back; where the device shut the connection nothing is shown any more
  pub record IsUndone : Type 0 where
    pub now : IsTrue new.is_open → new.now ≡ old.committed
    pub committed : IsTrue new.is_open → new.committed ≡ old.committed
    pub mode : new.in_transaction ≡ false
    pub marks : new.marks ≡ []

  -- a call that reads failed: nothing has changed, or the transaction is taken back
  abbrev pub FellLooking : Type 0
  FellLooking = IsSame ⊎ IsUndone

  -- a call that changes the tables failed: within a transaction nothing was committed, or it is taken back
  abbrev pub FellWriting : Type 0
  FellWriting = IsTrue old.in_transaction → Stays ⊎ IsUndone

  -- A failure has its cause: it names a want, or the device of the store has failed in the call, which the store counts up to
  -- the greatest number.
  abbrev pub IsCaused : Error → Type 0
  IsCaused error = IsWant error ⊎ (old.faults + 1 < 2 ^ 64 → old.faults < new.faults)

  -- where the store gave the transaction up, the failure has its cause
  abbrev pub SaysWhy : Error → Type 0
  SaysWhy error = IsTrue old.in_transaction → new.in_transaction ≡ false → IsCaused error

  -- where no limit is set on the steps of a query, a failure has its cause
  abbrev pub ForCause : Error → Type 0
  ForCause error = old.step_limit ≡ None → IsCaused error

-- how a call ends that only reads, over tables of this schema
pub record IsLookIn (schema : Schema) {X : Type 0} (result : Result X Error) (old new : State) : Type 0 where
  pub ok : IfSoundIn schema old new (OnOk result (IsSame old new))
  pub err : IfSoundIn schema old new (OnErr result (FellLooking old new))
  pub why : IfSoundIn schema old new (IfErr result (SaysWhy old new))
  pub opened : HasCleanDisk new → IsTrue new.is_open → IsTrue old.is_open
  pub later : IsLater old new

-- over the desk's
abbrev pub IsLook : {X : Type 0} → Result X Error → State → State → Type 0
IsLook {X = X} result old new = IsLookIn desk_schema {X = X} result old new

-- looks so far, each of which went well: together they are one that did
abbrev pub HasLookedIn : Schema → State → State → Type 0
HasLookedIn schema old new = IsLookIn schema {X = ⊤} (Ok tt) old new

abbrev pub HasLooked : State → State → Type 0
HasLooked = HasLookedIn desk_schema

-- how a call ends that changes the tables
pub record IsWrite {X : Type 0} (result : Result X Error) (old new : State) : Type 0 where
  pub ok : IfSound old new (OnOk result (Stays old new))
  pub err : IfSound old new (OnErr result (FellWriting old new))
  pub why : IfSound old new (IfErr result (SaysWhy old new))
  pub opened : HasCleanDisk new → IsTrue new.is_open → IsTrue old.is_open
  pub later : IsLater old new

-- The tables whose trees stand before one place, or from another on, are as they were. (Of the tree of an index nothing is
-- said but that it lists its table, which is sqlite's own promise.)
abbrev pub SparesOthers : ℕ → ℕ → Database → Database → Type 0
SparesOthers first end old new = (tree : ℕ) → (tree < first) ⊎ (end ≤ tree) → IsNoIndex desk_schema tree → new.trees tree ≡ old.trees tree
