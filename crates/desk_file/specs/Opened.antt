-- What is opened.
use Rattle.std.specs.Prelude.{◌≡◌, ◌⊎◌, ℕ, false, IsTrue}
use Rattle.sqlite.specs.Effect.{Database, IsDatabase}
use Rattle.sqlite.specs.Files.{AreFoundIn, HoldsDatabase}
use Rattle.sqlite.specs.State.{State, HasCleanDisk, Opens}
use Rattle.sqlite_trees.specs.Tree.{Trees}
use Rattle.sqlite_trees.specs.View.{View as Store}
use Rattle.sqlite_wal.specs.Recovery.{Image}
use Rattle.desk_rules.specs.Content.{Content}
use Rattle.desk_register.specs.Changes.{empty_content}
use Rattle.desk_register.specs.View.{View}
use Rattle.desk_register.specs.declared.register.Stage.TheVariants.{Idle}
use Rattle.desk_engine.specs.Ready.{IsReady}
use Rattle.memory_register.specs.ListsView.{view_of_lists}
use Rattle.memory_register.specs.declared.list_register.ListRegister.{ListRegister}
use Rattle.desk_file.specs.Both.{Both, shown}
use Rattle.sql_tables.specs.Order.{AreInOrder}
use Rattle.sql_register.specs.Holds.{Becomes}
use Rattle.sql_register.specs.Kept.{Kept, view_of}
use Rattle.sql_tables.specs.Schema.{no_schema}
use Rattle.desk_file.specs.Audited.{IsAudited}
use Rattle.desk_file.specs.Reading.{HoldsFormed}

-- A connection as it is after it was opened: nothing is under way, and the rows stand in the order of their numbers.
pub record StandsOpen (s : State) : Type 0 where
  pub opens : Opens s
  pub order : AreInOrder s.committed.schema s.committed.trees

-- A database with no table holds nothing; the desk's tables hold what they say, and stay as they are.
abbrev pub Finds : Database → Database → Content → Type 0
Finds old new content = ((old.schema ≡ no_schema) × (content ≡ empty_content)) ⊎ ((new ≡ old) × Becomes old content)

-- the same of files, by the database that they hold
pub record FindsIn (image : Image) (new : Database) (content : Content) : Type 0 where
  pub old : Database
  pub is : IsDatabase old
  pub reads : AreFoundIn image old.trees
  pub only : (trees : Trees) → HoldsDatabase image trees → old.trees ≡ trees
  pub finds : Finds old new content

-- A register is ready for a desk that may hold so many entries: a desk can be made over it, and what it holds is an accepted
-- history of well-formed entries.
pub record IsReadyFor (limit : ℕ) (view : View) : Type 0 where
  pub desk : IsReady false view
  pub room : view.room ≡ limit
  pub holds : view.is_honest → HoldsFormed limit view.content

-- Nothing is under way, and what is committed are the tables of an accepted history that comes to this content.
pub record KeepAudited (s : State) (limit : ℕ) (content : Content) : Type 0 where
  pub is_open : IsTrue s.is_open
  pub settled : s.now ≡ s.committed
  pub closed : s.in_transaction ≡ false
  pub audited : IsAudited s.now limit content

-- the register that is two, as contracts of `Register` see it
abbrev pub view_of_both : {S : Type 0} → (S → State) → Both ListRegister (Kept S) → View
view_of_both state both = shown (view_of_lists both.memory) both.stage (view_of state both.tables)

-- the tables have no `begin` open, and have room for so many entries
pub record AreReadyTables {S : Type 0} (limit : ℕ) (tables : Kept S) : Type 0 where
  pub stage : tables.stage ≡ Idle
  pub room : tables.room ≡ limit

-- A register that is two was opened: it is ready, and the tables say what it holds.
pub record IsOpened {S : Type 0} (state : S → State) (limit : ℕ) (both : Both ListRegister (Kept S)) : Type 0 where
  pub ready : IsReadyFor limit (view_of_both state both)
  pub tables : AreReadyTables limit both.tables
  pub keep : HasCleanDisk (state both.tables.connection) → KeepAudited (state both.tables.connection) limit (view_of_lists both.memory).content

-- what is handed back has the last commit as it was, and nothing else
pub record IsHandedBack (store : Store) (s : State) : Type 0 where
  pub trees : store.trees ≡ s.committed.trees
  pub committed : store.committed ≡ s.committed.trees
