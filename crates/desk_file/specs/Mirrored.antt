-- What a register that is two keeps true.
use Rattle.std.specs.Prelude.{◌≡◌, ◌≢◌}
use Rattle.desk_register.specs.declared.register.Stage.{Stage}
use Rattle.desk_register.specs.declared.register.Stage.TheVariants as stages
use Rattle.desk_register.specs.View.{View}
use Rattle.desk_file.specs.declared.mirror.course.Phase.{Phase}
use Rattle.desk_file.specs.declared.mirror.course.Phase.TheVariants.{Idle, Begun, Failed, Lost}
use Rattle.desk_file.specs.Both.{HasSame}

abbrev pub stage_of : Phase → Stage
stage_of Idle = stages.Idle
stage_of Begun = stages.Begun
stage_of Failed = stages.Failed
stage_of Lost = stages.Failed

module _ (m t : View) where
  -- where no wrong answer of the tables was taken as true, and they show what they hold, both go back to the same
  abbrev pub HasSameMark : Type 0
  HasSameMark = t.is_honest → t.is_sure → m.mark ≡ t.mark

  -- no `begin` is open, and both hold the same
  pub record AreIdle : Type 0 where
    pub memory : m.stage ≡ stages.Idle
    pub tables : t.stage ≡ stages.Idle
    pub same : HasSame m t

  -- one is open, and both hold the same, and go back to the same
  pub record AreBegun : Type 0 where
    pub memory : m.stage ≡ stages.Begun
    pub tables : t.stage ≡ stages.Begun
    pub same : HasSame m t
    pub marked : HasSameMark

  -- one is open, and a call since has failed: both go back to the same
  pub record HaveFailed : Type 0 where
    pub memory : m.stage ≢ stages.Idle
    pub tables : t.stage ≢ stages.Idle
    pub marked : HasSameMark

  -- of tables that did not go back nothing is known
  abbrev pub AreAt : Phase → Type 0
  AreAt Idle = AreIdle
  AreAt Begun = AreBegun
  AreAt Failed = HaveFailed
  AreAt Lost = Unit {0}

-- memory and the tables have room for as many entries, and are at a phase
pub record AreMirrored (phase : Phase) (m t : View) : Type 0 where
  pub room : m.room ≡ t.room
  pub at : AreAt m t phase
