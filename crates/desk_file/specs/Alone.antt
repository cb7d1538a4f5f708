-- Tables by themselves, of what was opened.
use Rattle.std.specs.Prelude.{◌≡◌, ℕ, Result, Ok, Err}
use Rattle.sqlite.specs.Effect.{Database}
use Rattle.sqlite.specs.State.{State, HasCleanDisk}
use Rattle.sqlite_wal.specs.Recovery.{Image}
use Rattle.memory_register.specs.declared.list_register.ListRegister.{ListRegister}
use Rattle.desk_file.specs.Both.{Both}
use Rattle.sql_register.specs.Content.{content_in}
use Rattle.sql_register.specs.Kept.{Kept, view_of}
use Rattle.desk_file.specs.Opened.{Finds, FindsIn, IsReadyFor, KeepAudited}

-- an opening, and what is told of it where the tables alone are kept
abbrev pub IsAlone : {S E : Type 0} → Result (Both ListRegister (Kept S)) E → Result (Kept S) E → Type 0
IsAlone (Ok both) told = told ≡ Ok both.tables
IsAlone (Err fault) told = told ≡ Err fault

module _ {S : Type 0} (state : S → State) where
  -- Tables were opened: a desk for so many entries can be made over them, of the accepted history that they say.
  pub record AreOpened (limit : ℕ) (tables : Kept S) : Type 0 where
    pub ready : IsReadyFor limit (view_of state tables)
    pub keep : HasCleanDisk (state tables.connection) → KeepAudited (state tables.connection) limit (content_in (state tables.connection).now)

  -- what was opened of a given database, and of the one that files hold
  pub record AreFoundOf (old : Database) (tables : Kept S) : Type 0 where
    pub finds : HasCleanDisk (state tables.connection) → Finds old (state tables.connection).committed (content_in (state tables.connection).now)

  pub record AreFoundIn (image : Image) (tables : Kept S) : Type 0 where
    pub finds : HasCleanDisk (state tables.connection) → FindsIn image (state tables.connection).committed (content_in (state tables.connection).now)
