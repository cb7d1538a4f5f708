-- What an open desk's register keeps.
use Rattle.std.specs.Prelude.{◌≡◌, ℕ, Bool, false}
use Rattle.desk_rules.specs.Books.{Books}
use Rattle.desk_rules.specs.Content.{Content}
use Rattle.desk_rules.specs.WellFormed.{AreWellFormed}
use Rattle.desk_register.specs.declared.register.Stage.TheVariants.{Idle}
use Rattle.desk_register.specs.View.{View}
use Rattle.desk_engine.specs.Applied.{Keeps}

-- what an open desk keeps: the tables of these books, each entry of which is well formed
pub record KeepsFormed (limit : ℕ) (books : Books) (content : Content) : Type 0 where
  pub tables : Keeps limit books content
  pub formed : AreWellFormed books.history

-- An open desk's register has no `begin` open, shows what it holds, on a device that has not shut the store, and keeps the
-- tables of books whose entries are well formed.
pub record IsReady (is_closed : Bool) (view : View) : Type 0 where
  pub stage : is_closed ≡ false → view.stage ≡ Idle
  pub sure : is_closed ≡ false → view.is_honest → view.is_sure
  pub device : is_closed ≡ false → view.device.is_honest → view.device.is_sure
  pub books : is_closed ≡ false → view.is_honest → (books : Books) × KeepsFormed view.room books view.content
