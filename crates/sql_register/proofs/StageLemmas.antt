-- What the calls that begin, end and fail leave of what is kept.
use Rattle.std.proofs.Common.{refl, sym, ap, subst, ◌∙◌}
use Rattle.sqlite.specs.State.{State}
use Rattle.desk_register.specs.declared.register.Stage.{Stage}
use Rattle.desk_register.specs.declared.register.Stage.TheVariants.{Idle, Begun, Failed}
use Rattle.sql_tables.specs.Control.{Begins}
use Rattle.sql_register.specs.Holds.{IsDesk}
use Rattle.sql_register.specs.Kept.{IsOpenDesk}
use Rattle.sql_register.specs.Undone.{IsNotTakenBack, IsTakenBack}

pub begun_desk : (old new : State) → IsOpenDesk old Idle → Begins old new → IsOpenDesk new Begun
begun_desk old new was begins = record {
  committed = subst IsDesk (sym begins.committed) was.committed;
  schema = ap (λ d. d.schema) begins.now ∙ was.schema;
  now = λ _. subst IsDesk (sym begins.now) (was.now (λ e. absurd (cc)));
  idle = λ e. absurd (cc);
  closed = λ e. absurd (cc);
  begun = λ _. begins.mode;
  unmarked = λ _. begins.marks ∙ was.outside (was.closed refl);
  outside = λ out. absurd (let e = sym begins.mode ∙ out in cc);
}

pub failed_desk : (old new : State) (stage : Stage) → IsOpenDesk old stage → IsNotTakenBack old new → IsOpenDesk new Failed
failed_desk old new stage was fell = record {
  committed = subst IsDesk (sym fell.committed) was.committed;
  schema = fell.schema;
  now = λ never. absurd (never refl);
  idle = λ e. absurd (cc);
  closed = λ e. absurd (cc);
  begun = λ e. absurd (cc);
  unmarked = λ e. absurd (cc);
  outside = fell.outside;
}

pub back_desk : (old new : State) (stage : Stage) → IsOpenDesk old stage → IsTakenBack old new → IsOpenDesk new Idle
back_desk old new stage was back = record {
  committed = subst IsDesk (sym back.committed) was.committed;
  schema = ap (λ d. d.schema) back.now ∙ was.committed.schema;
  now = λ goes. subst IsDesk (sym back.now) was.committed;
  idle = λ e. back.now ∙ sym back.committed;
  closed = λ e. back.mode;
  begun = λ e. absurd (cc);
  unmarked = λ e. absurd (cc);
  outside = λ out. back.marks;
}
