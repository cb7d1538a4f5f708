-- What is read of a file of an earlier version, and put into a new one.
use Rattle.std.proofs.Common.{◌≡◌, List, sym, subst}
use Rattle.std.specs.Prelude.{Result, Ok, Err, IfOk, IsOkAnd, OnOk}
use Rattle.sqlite.specs.Files.{file_state}
use Rattle.sqlite.specs.Held.{Held}
use Rattle.sqlite.specs.State.{State}
use Rattle.sqlite_disk.specs.declared.Disk.{Ghosts}
use Rattle.sqlite_disk.specs.declared.Files.{Files}
use Rattle.sqlite_store.specs.declared.store.FileStore.{FileStore}
use Rattle.desk_rules.specs.Books.{Books}
use Rattle.desk_rules.specs.WellFormed.{AreWellFormed}
use Rattle.desk_rules.specs.declared.history.entry.Entry.{Entry}
use Rattle.desk_rules.specs.declared.limits.TheConstants.{MOST_ENTRIES}
use Rattle.desk_register.specs.declared.register.Stage.TheVariants.{Idle}
use Rattle.sql_register.specs.Kept.{Kept}
use Rattle.memory_register.specs.declared.list_register.ListRegister.{ListRegister}
use Rattle.desk_engine.specs.Applied.{Keeps}
use Rattle.desk_engine.specs.Ready.{KeepsFormed}
use Rattle.desk_engine.specs.Rebuilt.{HoldsEntries}
use Rattle.desk_file.specs.Both.{Both}
use Rattle.desk_file.specs.Opened.{view_of_both}
use Rattle.desk.specs.Closed.{AreClosed}
use Rattle.desk.specs.Left.{TablesSay}
use Rattle.desk.specs.MigrateAnswer.{HoldHistory, SayHistory}
use Rattle.desk.specs.declared.answers.migrate.Made.{Made}
use Rattle.desk.specs.PlayAnswer.{KeptBy}

-- what a history was put into, the tables say it
pub said : {S E : Type 0} (state : S → State) (old new : Both ListRegister (Kept S)) (s : State) (r : Result (Unit {0}) E) (entries : List Entry) → (view_of_both state old).room ≡ MOST_ENTRIES → (view_of_both state new).is_honest → AreWellFormed entries
    → OnOk r (new.stage ≡ Idle) → ((view_of_both state new).is_honest → OnOk r (HoldsEntries (view_of_both state old).room entries (view_of_both state new).content))
    → (new.stage ≡ Idle → (books : Books) → KeptBy (view_of_both state new) books → TablesSay s books) → OnOk r (SayHistory s entries)
said {S} {E} state old new s (Ok done) entries most honest formed stage holds say =
    let h = holds honest in
    let content = (view_of_both state new).content in
    let kept : KeepsFormed MOST_ENTRIES h.holds.books content = record { tables = subst (λ room. Keeps room h.holds.books content) most h.holds.keeps; formed = subst AreWellFormed (sym h.history) formed } in
    record { books = h.holds.books; history = h.history; says = say stage h.holds.books kept }
said {S} {E} state old new s (Err e) entries most honest formed stage holds say = tt

-- and, once they were closed, the files
held_files : {D : Type 0} {g : Ghosts D} (connection : Held (FileStore D g)) (files : Result (Files D) (FileStore D g)) (entries : List Entry) → IsOkAnd files (AreClosed connection) → SayHistory (file_state connection) entries → HoldHistory files entries
held_files connection (Ok files) entries closed it = record {
  books = it.books;
  history = it.history;
  says = λ clean. (let copied = closed clean in
      record { db = (file_state connection).committed; says = it.says copied.was_clean copied.was_open; seen = copied.seen; left = copied.left });
}
held_files connection (Err store) entries closed it = absurd closed

-- also where they are what was made
pub held_closed : {D E : Type 0} {g : Ghosts D} (connection : Held (FileStore D g)) (made : Result (Made D g) E) (entries : List Entry)
    → IfOk made (λ it. IsOkAnd it.files (AreClosed connection)) → SayHistory (file_state connection) entries → IfOk made (λ it. HoldHistory it.files entries)
held_closed connection (Ok it) entries closed says = held_files connection it.files entries closed says
held_closed connection (Err e) entries closed says = tt

-- what was put, in the arm where it was
pub put : {E S : Type 0} (r : Result (Unit {0}) E) (done : Unit {0}) → r ≡ Ok done → OnOk r S → S
put (Ok done) _ _ says = says
put (Err e) done is says = absurd (let bad = is in cc)
