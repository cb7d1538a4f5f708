-- What contracts see of a register, and how its calls change it.
use Rattle.std.specs.Prelude.{◌≡◌, ◌≢◌, ℕ, ◌<◌, ◌≤◌, ⊤, Result, Ok, Err, OnOk, OnErr}
use Rattle.desk_register.specs.declared.register.Fault.{Fault}
use Rattle.desk_register.specs.declared.register.Fault.TheVariants.{Storage}
use Rattle.desk_register.specs.declared.register.Stage.{Stage}
use Rattle.desk_register.specs.declared.register.Stage.TheVariants.{Idle, Begun, Failed}
use Rattle.desk_register.specs.declared.register.TheConstants.{MOST_FAILURES}
use Rattle.desk_rules.specs.Content.{Content}

-- The device under a register, as its store tells of it.
pub record Device : Type 1 where
  -- how often it has failed; a count that stops at the greatest
  pub failures : ℕ
  -- no wrong answer of it was taken as true; it may be lost at any call
  pub is_honest : Type 0
  -- it has not shut the store
  pub is_sure : Type 0

pub record View : Type 1 where
  -- what it holds now
  pub content : Content
  -- what `back` goes back to
  pub mark : Content
  -- whether a `begin` is open, and whether a call has failed since
  pub stage : Stage
  -- the greatest number of entries
  pub room : ℕ
  -- no wrong answer of the device was taken as true; it may be lost at any call
  pub is_honest : Type 0
  -- the device has not shut the store, so what it shows is what it holds
  pub is_sure : Type 0
  -- what it is kept on; of a register in memory beside one that is kept on a device, the other's
  pub device : Device

-- Where answers over a call are to be trusted, this holds: no wrong answer of the device was taken as true up to the
-- call's end, and the device had not shut the store at its beginning. (Of one moment, as in a `requires`: twice the
-- same view.)
abbrev pub IfTrusted : View → View → Type 0 → Type 0
IfTrusted old new fact = new.is_honest → old.is_sure → fact

-- Where answers over a reading call are to be trusted, and no call had failed since `begin`, this holds: once one has,
-- what is held is not known until `back`.
abbrev pub IfRead : View → View → Type 0 → Type 0
IfRead old new fact = IfTrusted old new (old.stage ≢ Failed → fact)

-- Where the count of a device's failures is to be trusted, this holds: no wrong answer of it was taken as true, and the
-- count has not come to its end.
abbrev pub IfCounted : View → Type 0 → Type 0
IfCounted view fact = view.is_honest → view.device.is_honest → view.device.failures < MOST_FAILURES → fact

-- the stage after a call that failed
abbrev pub fallen : Stage → Stage
fallen Idle = Idle
fallen Begun = Failed
fallen Failed = Failed

module _ (old new : View) where
  -- of every call
  pub record IsLater : Type 0 where
    pub honest : new.is_honest → old.is_honest
    pub sure : new.is_honest → new.is_sure → old.is_sure
    pub room : new.room ≡ old.room
    pub device_honest : new.device.is_honest → old.device.is_honest
    pub failures : old.device.failures ≤ new.device.failures

  -- the device has not shut the store in the call
  abbrev pub StaysSure : Type 0
  StaysSure = new.device.is_honest → old.device.is_sure → new.device.is_sure

  -- a `begin` is open, and what it goes back to is marked
  pub record Begins : Type 0 where
    pub stage : new.stage ≡ Begun
    pub sure : IfTrusted old new new.is_sure
    pub content : IfTrusted old new (new.content ≡ old.content)
    pub mark : IfTrusted old new (new.mark ≡ old.content)
    pub device : StaysSure

  -- what was changed since `begin` is kept
  pub record Commits : Type 0 where
    pub stage : new.stage ≡ Idle
    pub sure : IfTrusted old new new.is_sure
    pub content : IfTrusted old new (new.content ≡ old.content)
    pub device : StaysSure

  -- what was changed since `begin` is taken back
  pub record GoesBack : Type 0 where
    pub stage : new.stage ≡ Idle
    pub sure : new.is_honest → new.is_sure
    pub content : new.is_honest → new.content ≡ old.mark
    pub device : new.device.is_honest → new.device.is_sure

  -- a call went well: what is marked stays
  pub record Stays : Type 0 where
    pub stage : new.stage ≡ old.stage
    pub sure : IfTrusted old new new.is_sure
    pub mark : IfTrusted old new (new.mark ≡ old.mark)
    pub device : StaysSure

  -- a call failed: what is marked stays, and with no `begin` open the content does
  pub record Falls : Type 0 where
    pub stage : new.stage ≡ fallen old.stage
    pub mark : new.is_honest → new.is_sure → new.mark ≡ old.mark
    pub content : new.is_honest → new.is_sure → old.stage ≡ Idle → new.content ≡ old.content

-- The device is blamed where it failed in the call: where no call had failed since `begin`, and the device had not shut the
-- store before, the count of its failures has grown after a storage fault.
pub record Blames {X : Type 0} (result : Result X Fault) (old new : View) : Type 0 where
  pub storage : result ≡ Err Storage → old.stage ≢ Failed → old.is_sure → old.device.is_sure → IfCounted new (old.device.failures < new.device.failures)

-- how a reading call ends: where it goes well nothing has changed
pub record IsRead {X : Type 0} (result : Result X Fault) (old new : View) : Type 0 where
  pub same : IfTrusted old new (OnOk result (new.content ≡ old.content))
  pub ok : OnOk result (Stays old new)
  pub err : OnErr result (Falls old new)
  pub later : IsLater old new
  pub blame : Blames result old new

-- reading calls so far, each of which went well: together they are one that did
abbrev pub HasRead : View → View → Type 0
HasRead old new = IsRead {X = ⊤} (Ok tt) old new

-- how a changing call ends
pub record IsChange {X : Type 0} (result : Result X Fault) (old new : View) : Type 0 where
  pub ok : OnOk result (Stays old new)
  pub err : OnErr result (Falls old new)
  pub later : IsLater old new
  pub blame : Blames result old new
