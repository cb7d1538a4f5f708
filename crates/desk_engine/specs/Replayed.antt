-- What is left of a list that was taken in, where that broke off.
use Rattle.std.specs.Prelude.{◌≡◌, ℕ, List, take}
use Rattle.desk_rules.specs.declared.answers.reply.Kept.{Kept}
use Rattle.desk_register.specs.declared.register.Stage.TheVariants.{Idle}
use Rattle.desk_register.specs.View.{View, IfTrusted}
use Rattle.desk_engine.specs.declared.accepting.Failure.{Failure}
use Rattle.desk_engine.specs.declared.accepting.Failure.TheVariants.{Undone, Lost}
use Rattle.desk_rules.specs.Content.{Content}
use Rattle.desk_engine.specs.KeptHistory.{HoldsKept}

-- so many first entries are held, and no others
pub record HoldsFirst (limit : ℕ) (kept : List Kept) (content : Content) : Type 0 where
  pub count : ℕ
  pub holds : HoldsKept limit (take count kept) content

-- no `begin` is open, and the register shows what it holds, which is some first entries
pub record StopsAfterSome (kept : List Kept) (old new : View) : Type 0 where
  pub stage : new.stage ≡ Idle
  pub sure : new.is_honest → new.is_sure
  pub first : IfTrusted old new (HoldsFirst old.room kept new.content)

-- after a failure; of a register that is lost nothing is said
abbrev pub BreaksOff : Failure → List Kept → View → View → Type 0
BreaksOff (Undone fault) kept old new = StopsAfterSome kept old new
BreaksOff Lost kept old new = Unit {0}
