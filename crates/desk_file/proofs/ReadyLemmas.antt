-- A register that a desk can be made over.
use Rattle.std.proofs.Common.{◌≡◌, ℕ, sym, subst, IsTrue}
use Rattle.sqlite.specs.State.{State, HasCleanDisk}
use Rattle.desk_engine.specs.Applied.{Keeps}
use Rattle.memory_register.specs.ListsView.{view_of_lists}
use Rattle.memory_register.specs.declared.list_register.ListRegister.{ListRegister}
use Rattle.desk_file.specs.Both.{Both}
use Rattle.desk_register.specs.View.{View}
use Rattle.desk_register.specs.declared.register.Stage.TheVariants.{Idle}
use Rattle.desk_rules.specs.WellFormed.{AreWellFormed}
use Rattle.desk_file.specs.Reading.{HoldsFormed}
use Rattle.sql_register.specs.Kept.{Kept}
use Rattle.desk_file.specs.Opened.{view_of_both, IsReadyFor}

pub ready : (limit : ℕ) (view : View) → view.stage ≡ Idle → (view.is_honest → view.is_sure) → (view.device.is_honest → view.device.is_sure) → view.room ≡ limit
    → (view.is_honest → HoldsFormed limit view.content) → IsReadyFor limit view
ready limit view stage sure device room holds = record {
  desk = record {
    stage = λ is. stage;
    sure = λ is. sure;
    device = λ is. device;
    books = λ is honest. let h = holds honest in (
      h.held.books,
      record {
        tables = subst (λ r. Keeps r h.held.books view.content) (sym room) h.held.keeps;
        formed = subst AreWellFormed h.held.keeps.tables.history h.formed;
      },
    );
  };
  room = room;
  holds = holds;
}

-- memory has no device, and the tables' has not shut their store
pub both_ready : {S : Type 0} (state : S → State) (limit : ℕ) (both : Both ListRegister (Kept S)) → both.stage ≡ Idle → (HasCleanDisk (state both.tables.connection) → IsTrue (state both.tables.connection).is_open)
    → (view_of_lists both.memory).room ≡ limit → HoldsFormed limit (view_of_lists both.memory).content → IsReadyFor limit (view_of_both state both)
both_ready state limit both stage is_open room holds = ready limit (view_of_both state both) stage (λ honest. tt) (λ honest. (is_open honest.0, is_open honest.1)) room (λ honest. holds)
