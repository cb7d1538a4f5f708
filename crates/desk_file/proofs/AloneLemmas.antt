-- The tables of what was opened, without the register in memory.
use Rattle.std.proofs.Common.{◌≡◌, ℕ, sym, subst, Result, Ok, Err, IfOk, IfErr}
use Rattle.sqlite.specs.Effect.{Database}
use Rattle.sqlite.specs.State.{State, HasCleanDisk}
use Rattle.sqlite_wal.specs.Recovery.{Image}
use Rattle.memory_register.specs.ListsView.{view_of_lists}
use Rattle.memory_register.specs.declared.list_register.ListRegister.{ListRegister}
use Rattle.desk_file.specs.Both.{Both}
use Rattle.desk_file.specs.Reading.{HoldsFormed}
use Rattle.sql_register.specs.Content.{content_in}
use Rattle.sql_register.specs.Kept.{shown, Kept}
use Rattle.desk_file.specs.Alone.{AreFoundIn, AreFoundOf, AreOpened, IsAlone}
use Rattle.desk_file.specs.Opened.{Finds, FindsIn, IsOpened, IsReadyFor, KeepAudited}
use Rattle.desk_file.proofs.ReadyLemmas.{ready}

module _ {S : Type 0} (state : S → State) (limit : ℕ) (both : Both ListRegister (Kept S)) (opened : IsOpened state limit both) where
  said : HasCleanDisk (state both.tables.connection) → (view_of_lists both.memory).content ≡ content_in (state both.tables.connection).now
  said clean = sym (opened.keep clean).audited.becomes.content_is

  its_ready : IsReadyFor limit (shown (state both.tables.connection) both.tables.stage both.tables.room)
  its_ready = ready limit (shown (state both.tables.connection) both.tables.stage both.tables.room) opened.tables.stage (λ clean. (opened.keep clean).is_open) (λ clean. (opened.keep clean).is_open)
      opened.tables.room
      (λ clean. subst (HoldsFormed limit) (said clean) (let a = (opened.keep clean).audited in record { held = a.held; formed = a.formed }))

  its_keep : HasCleanDisk (state both.tables.connection) → KeepAudited (state both.tables.connection) limit (content_in (state both.tables.connection).now)
  its_keep clean = subst (KeepAudited (state both.tables.connection) limit) (said clean) (opened.keep clean)

-- ---- of an opening that may have failed

alone_ok : {S E : Type 0} (P : Both ListRegister (Kept S) → Type 0) (Q : Kept S → Type 0) → ((both : Both ListRegister (Kept S)) → P both → Q both.tables)
    → (opened : Result (Both ListRegister (Kept S)) E) (told : Result (Kept S) E) → IsAlone opened told → IfOk opened P → IfOk told Q
alone_ok {S} {E} P Q f (Ok both) told is given = subst (λ (r : Result (Kept S) E). IfOk r Q) (sym is) (f both given)
alone_ok {S} {E} P Q f (Err fault) told is given = subst (λ (r : Result (Kept S) E). IfOk r Q) (sym is) tt

alone_both : {S E : Type 0} (P P' : Both ListRegister (Kept S) → Type 0) (Q : Kept S → Type 0) → ((both : Both ListRegister (Kept S)) → P both → P' both → Q both.tables)
    → (opened : Result (Both ListRegister (Kept S)) E) (told : Result (Kept S) E) → IsAlone opened told → IfOk opened P → IfOk opened P' → IfOk told Q
alone_both {S} {E} P P' Q f (Ok both) told is given more = subst (λ (r : Result (Kept S) E). IfOk r Q) (sym is) (f both given more)
alone_both {S} {E} P P' Q f (Err fault) told is given more = subst (λ (r : Result (Kept S) E). IfOk r Q) (sym is) tt

pub alone_fault : {S E : Type 0} (P : E → Type 0) (opened : Result (Both ListRegister (Kept S)) E) (told : Result (Kept S) E) → IsAlone opened told → IfErr opened P → IfErr told P
alone_fault {S} {E} P (Ok both) told is given = subst (λ (r : Result (Kept S) E). IfErr r P) (sym is) tt
alone_fault {S} {E} P (Err fault) told is given = subst (λ (r : Result (Kept S) E). IfErr r P) (sym is) given

module _ {S E : Type 0} (state : S → State) (limit : ℕ) (opened : Result (Both ListRegister (Kept S)) E) (told : Result (Kept S) E) (is : IsAlone opened told) (ok : IfOk opened (IsOpened state limit)) where
  pub alone_opened : IfOk told (AreOpened state limit)
  alone_opened = alone_ok (IsOpened state limit) (AreOpened state limit) (λ both it. record { ready = its_ready state limit both it; keep = its_keep state limit both it }) opened told is ok

  pub alone_finds : (db : Database) → IfOk opened (λ both. HasCleanDisk (state both.tables.connection) → Finds db (state both.tables.connection).committed (view_of_lists both.memory).content)
      → IfOk told (AreFoundOf state db)
  alone_finds db finds = alone_both (IsOpened state limit) (λ both. HasCleanDisk (state both.tables.connection) → Finds db (state both.tables.connection).committed (view_of_lists both.memory).content)
      (AreFoundOf state db)
      (λ both it found. record { finds = λ clean. subst (Finds db (state both.tables.connection).committed) (said state limit both it clean) (found clean) }) opened told is ok finds

  pub alone_found : (image : Image) → IfOk opened (λ both. HasCleanDisk (state both.tables.connection) → FindsIn image (state both.tables.connection).committed (view_of_lists both.memory).content)
      → IfOk told (AreFoundIn state image)
  alone_found image finds = alone_both (IsOpened state limit) (λ both. HasCleanDisk (state both.tables.connection) → FindsIn image (state both.tables.connection).committed (view_of_lists both.memory).content)
      (AreFoundIn state image)
      (λ both it found. record { finds = λ clean. subst (FindsIn image (state both.tables.connection).committed) (said state limit both it clean) (found clean) }) opened told is ok finds
