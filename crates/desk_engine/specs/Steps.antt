-- How a call of several steps ends, within an open `begin`.
use Rattle.std.specs.Prelude.{◌≡◌, ◌≢◌, Result, OnOk, OnErr}
use Rattle.desk_register.specs.declared.register.Fault.{Fault}
use Rattle.desk_register.specs.declared.register.Stage.TheVariants.{Idle}
use Rattle.desk_register.specs.View.{View, Blames, IsLater, Stays}

module _ (old new : View) where
  -- a call of several steps failed: a `begin` is open still, and what is marked stays
  pub record Breaks : Type 0 where
    pub stage : new.stage ≢ Idle
    pub mark : new.is_honest → new.is_sure → new.mark ≡ old.mark

-- how a call of several steps ends, within an open `begin`
pub record IsStep {X : Type 0} (result : Result X Fault) (old new : View) : Type 0 where
  pub ok : OnOk result (Stays old new)
  pub err : OnErr result (Breaks old new)
  pub later : IsLater old new
  pub blame : Blames result old new
