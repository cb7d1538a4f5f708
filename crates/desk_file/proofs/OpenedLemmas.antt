-- A register that is two, of parts of which all is known.
use Rattle.std.proofs.Common.{◌≡◌, ℕ, sym, subst, IsTrue}
use Rattle.sqlite.specs.Effect.{Database}
use Rattle.sqlite.specs.State.{State, HasCleanDisk}
use Rattle.memory_register.specs.ListsView.{view_of_lists}
use Rattle.memory_register.specs.declared.list_register.ListRegister.{ListRegister}
use Rattle.desk_file.specs.Both.{Both}
use Rattle.desk_register.specs.Changes.{empty_content}
use Rattle.desk_register.specs.declared.register.Stage.TheVariants.{Idle}
use Rattle.desk_engine.proofs.KeptHistoryLemmas.{holds_none}
use Rattle.desk_rules.specs.Content.{Content}
use Rattle.desk_file.specs.Audited.{IsAudited}
use Rattle.desk_file.specs.Reading.{HoldsFormed}
use Rattle.desk_file.proofs.ReadingLemmas.{none_formed}
use Rattle.sql_register.specs.Holds.{Becomes}
use Rattle.sql_register.specs.Kept.{Kept}
use Rattle.desk_file.specs.Opened.{AreReadyTables, Finds, IsOpened, KeepAudited}
use Rattle.desk_file.proofs.ReadyLemmas.{both_ready}

-- ---- nothing

pub nothing_held : (limit : ℕ) (content : Content) → content ≡ empty_content → HoldsFormed limit content
nothing_held limit content empty = none_formed limit content (holds_none limit content empty)

pub nothing_audited : (db : Database) (limit : ℕ) (content : Content) → content ≡ empty_content → Becomes db empty_content → IsAudited db limit content
nothing_audited db limit content empty becomes =
    let holds = nothing_held limit content empty in
    record {
      becomes = subst (Becomes db) (sym empty) becomes;
      held = holds.held;
      formed = holds.formed;
    }

-- ---- both

module _ {S : Type 0} (state : S → State) (limit : ℕ) (both : Both ListRegister (Kept S)) (memory : ListRegister) (tables : Kept S) (is_memory : both.memory ≡ memory) (is_tables : both.tables ≡ tables) where
  pub opened_as : both.stage ≡ Idle → (view_of_lists memory).room ≡ limit → HoldsFormed limit (view_of_lists memory).content → AreReadyTables limit tables
      → (HasCleanDisk (state tables.connection) → KeepAudited (state tables.connection) limit (view_of_lists memory).content) → IsOpened state limit both
  opened_as stage room holds ready keep = record {
    ready = both_ready state limit both stage (subst (λ (t : Kept S). HasCleanDisk (state t.connection) → IsTrue (state t.connection).is_open) (sym is_tables) (λ clean. (keep clean).is_open)) (subst (λ (m : ListRegister). (view_of_lists m).room ≡ limit) (sym is_memory) room)
        (subst (λ (m : ListRegister). HoldsFormed limit (view_of_lists m).content) (sym is_memory) holds);
    tables = subst (AreReadyTables limit) (sym is_tables) ready;
    keep = subst (λ (t : Kept S). HasCleanDisk (state t.connection) → KeepAudited (state t.connection) limit (view_of_lists both.memory).content) (sym is_tables)
        (λ clean. subst (λ (m : ListRegister). KeepAudited (state tables.connection) limit (view_of_lists m).content) (sym is_memory) (keep clean));
  }

  pub found_as : (db : Database) → (HasCleanDisk (state tables.connection) → Finds db (state tables.connection).committed (view_of_lists memory).content)
      → HasCleanDisk (state both.tables.connection) → Finds db (state both.tables.connection).committed (view_of_lists both.memory).content
  found_as db finds = subst (λ (t : Kept S). HasCleanDisk (state t.connection) → Finds db (state t.connection).committed (view_of_lists both.memory).content) (sym is_tables)
      (λ clean. subst (λ (m : ListRegister). Finds db (state tables.connection).committed (view_of_lists m).content) (sym is_memory) (finds clean))
