-- A call that only looks, told of the register, is a reading call.
use Rattle.std.proofs.Common.{◌≡◌, ◌≢◌, inl, inr, refl, sym, ap, subst, ◌∙◌, ℕ, None, IsTrue, Result, Ok, Err, IfErr, IfOk, arith}
use Rattle.sqlite.specs.declared.error.Error.{Error}
use Rattle.sqlite.specs.State.{State, HasCleanDisk}
use Rattle.desk_register.specs.declared.register.Fault.{Fault}
use Rattle.desk_register.specs.declared.register.Stage.{Stage}
use Rattle.desk_register.specs.declared.register.Stage.TheVariants.{Idle, Begun, Failed}
use Rattle.desk_register.specs.View.{Blames, IsLater as IsLaterView, IsRead, fallen}
use Rattle.sql_tables.specs.Ends.{ForCause, IfSound, IsLater, IsSame, IsUndone, FellLooking, IsLook}
use Rattle.sql_register.specs.Content.{content_in}
use Rattle.sql_register.specs.Holds.{IsDesk}
use Rattle.sql_register.specs.Kept.{IsOpenDesk, IsKept, shown}
use Rattle.sql_register.specs.Told.{IsTold, fault_for}
use Rattle.sql_register.proofs.WantLemmas.{want_is_memory}

-- the disk was clean where it is now
pub was_clean : (old new : State) → IsLater old new → HasCleanDisk new → HasCleanDisk old
was_clean old new later clean = omega (arith, clean, later.clean)

module _ (old new : State) (stage new_stage : Stage) (room : ℕ) where
  pub later_view : IsLater old new → (HasCleanDisk new → IsTrue new.is_open → IsTrue old.is_open)
      → IsLaterView (shown old stage room) (shown new new_stage room)
  later_view later opened = record { honest = was_clean old new later; sure = opened; room = refl; device_honest = was_clean old new later; failures = later.faults }

  -- where a call on the tables fails only for cause, the device is blamed where it failed
  pub blames_told : {X : Type 0} (e : Error) → IsKept old stage → IsLater old new → old.step_limit ≡ None → IfSound old new (IsDesk old.now → ForCause old new e)
      → Blames {X = X} (Err (fault_for e)) (shown old stage room) (shown new new_stage room)
  blames_told {X} e kept later unlimited caused = record {
    storage = λ named goes sure device clean trusted few.
        let desk = kept (was_clean old new later clean) sure in
        let more = later.faults in
        elim (caused clean sure desk.schema (desk.now goes) unlimited) [
          | inl want ↦ absurd (want_is_memory X e want named)
          | inr grows ↦ grows (omega (arith, more, few))
        ];
  }

  -- where a look failed with no `begin` open, what is held is as it was
  fell_content : IsKept old stage → IsLater old new → (HasCleanDisk new → IsTrue new.is_open → IsTrue old.is_open) → IfSound old new (FellLooking old new)
      → HasCleanDisk new → IsTrue new.is_open → stage ≡ Idle → content_in new.now ≡ content_in old.now
  fell_content kept later opened fell clean is_open idle =
      let was_open = opened clean is_open in
      let desk = kept (was_clean old new later clean) was_open in
      elim (fell clean was_open desk.schema) [ inl same ↦ ap content_in same.now | inr undone ↦ ap content_in (undone.now is_open ∙ sym (desk.idle idle)) ]

  fell_mark : IsKept old stage → IsLater old new → (HasCleanDisk new → IsTrue new.is_open → IsTrue old.is_open) → IfSound old new (FellLooking old new)
      → HasCleanDisk new → IsTrue new.is_open → content_in new.committed ≡ content_in old.committed
  fell_mark kept later opened fell clean is_open =
      let was_open = opened clean is_open in
      let desk = kept (was_clean old new later clean) was_open in
      elim (fell clean was_open desk.schema) [ inl same ↦ ap content_in same.committed | inr undone ↦ ap content_in (undone.committed is_open) ]

  module _ {X : Type 0} where
    pub read_told : (given : Result X Error) (result : Result X Fault) → IsKept old stage → old.step_limit ≡ None → IsLook given old new → IfSound old new (IsDesk old.now → IfErr given (ForCause old new)) → IsTold given result stage new_stage
        → IsRead result (shown old stage room) (shown new new_stage room)
    read_told (Ok x) result kept unlimited look caused told =
        let same : HasCleanDisk new → IsTrue old.is_open → IsSame old new = λ clean was_open. look.ok clean was_open (kept (was_clean old new look.later clean) was_open).schema in
        subst (λ r. IsRead r (shown old stage room) (shown new new_stage room)) (sym told.0) (record {
          same = λ clean was_open. ap content_in (same clean was_open).now;
          ok = record {
            stage = told.1;
            sure = λ clean was_open. (same clean was_open).is_open;
            mark = λ clean was_open. ap content_in (same clean was_open).committed;
            device = λ clean was_open. (same clean was_open).is_open;
          };
          err = tt;
          later = later_view look.later look.opened;
          blame = record { storage = λ e. absurd (cc) };
        })
    read_told (Err e) result kept unlimited look caused told =
        subst (λ r. IsRead r (shown old stage room) (shown new new_stage room)) (sym told.0) (record {
          same = λ clean was_open. tt;
          ok = tt;
          err = record {
            stage = told.1;
            mark = λ clean is_open. fell_mark kept look.later look.opened look.err clean is_open;
            content = λ clean is_open idle. fell_content kept look.later look.opened look.err clean is_open idle;
          };
          later = later_view look.later look.opened;
          blame = blames_told e kept look.later unlimited caused;
        })

    pub value_told : (P : X → Type 0) (given : Result X Error) (result : Result X Fault) → IsKept old stage → IsLater old new → IfSound old new (IsDesk old.now → IfOk given P)
        → IsTold given result stage new_stage → HasCleanDisk new → IsTrue old.is_open → stage ≢ Failed → IfOk result P
    value_told P (Ok x) result kept later value told clean was_open goes =
        let desk = kept (was_clean old new later clean) was_open in
        subst (λ r. IfOk r P) (sym told.0) (value clean was_open desk.schema (desk.now goes))
    value_told P (Err e) result kept later value told clean was_open goes = subst (λ r. IfOk r P) (sym told.0) tt

    -- what is kept stays so after a look
    pub kept_told : (given : Result X Error) (result : Result X Fault) → IsKept old stage → IsLook given old new → IsTold given result stage new_stage → IsKept new new_stage
    kept_told (Ok x) result kept look told clean is_open =
        let was_open = look.opened clean is_open in
        let desk = kept (was_clean old new look.later clean) was_open in
        let same = look.ok clean was_open desk.schema in
        subst (IsOpenDesk new) (sym told.1) (same_desk same desk)
      where
        same_desk : IsSame old new → IsOpenDesk old stage → IsOpenDesk new stage
        same_desk same desk = record {
          committed = subst IsDesk (sym same.committed) desk.committed;
          schema = ap (λ d. d.schema) same.now ∙ desk.schema;
          now = λ goes. subst IsDesk (sym same.now) (desk.now goes);
          idle = λ e. same.now ∙ desk.idle e ∙ sym same.committed;
          closed = λ e. same.mode ∙ desk.closed e;
          begun = λ e. same.mode ∙ desk.begun e;
          unmarked = λ e. same.marks ∙ desk.unmarked e;
          outside = λ out. same.marks ∙ desk.outside (sym same.mode ∙ out);
        }
    kept_told (Err e) result kept look told clean is_open =
        let was_open = look.opened clean is_open in
        let desk = kept (was_clean old new look.later clean) was_open in
        subst (IsOpenDesk new) (sym told.1) (elim (look.err clean was_open desk.schema) [ inl same ↦ still stage same desk | inr undone ↦ gone stage undone desk is_open ])
      where
        still : (s : Stage) → IsSame old new → IsOpenDesk old s → IsOpenDesk new (fallen s)
        still Idle same desk = record {
          committed = subst IsDesk (sym same.committed) desk.committed;
          schema = ap (λ d. d.schema) same.now ∙ desk.schema;
          now = λ goes. subst IsDesk (sym same.now) (desk.now goes);
          idle = λ e. same.now ∙ desk.idle e ∙ sym same.committed;
          closed = λ e. same.mode ∙ desk.closed e;
          begun = λ e. absurd (cc);
          unmarked = λ e. absurd (cc);
          outside = λ out. same.marks ∙ desk.outside (sym same.mode ∙ out);
        }
        still Begun same desk = lost same desk
          where
            lost : IsSame old new → IsOpenDesk old Begun → IsOpenDesk new Failed
            lost same desk = record {
              committed = subst IsDesk (sym same.committed) desk.committed;
              schema = ap (λ d. d.schema) same.now ∙ desk.schema;
              now = λ goes. absurd (goes refl);
              idle = λ e. absurd (cc);
              closed = λ e. absurd (cc);
              begun = λ e. absurd (cc);
              unmarked = λ e. absurd (cc);
              outside = λ out. same.marks ∙ desk.outside (sym same.mode ∙ out);
            }
        still Failed same desk = record {
          committed = subst IsDesk (sym same.committed) desk.committed;
          schema = ap (λ d. d.schema) same.now ∙ desk.schema;
          now = λ goes. absurd (goes refl);
          idle = λ e. absurd (cc);
          closed = λ e. absurd (cc);
          begun = λ e. absurd (cc);
          unmarked = λ e. absurd (cc);
          outside = λ out. same.marks ∙ desk.outside (sym same.mode ∙ out);
        }

        gone : (s : Stage) → IsUndone old new → IsOpenDesk old s → IsTrue new.is_open → IsOpenDesk new (fallen s)
        gone s undone desk is_open = record {
          committed = subst IsDesk (sym (undone.committed is_open)) desk.committed;
          schema = ap (λ d. d.schema) (undone.now is_open) ∙ desk.committed.schema;
          now = λ goes. subst IsDesk (sym (undone.now is_open)) desk.committed;
          idle = λ e. undone.now is_open ∙ sym (undone.committed is_open);
          closed = λ e. undone.mode;
          begun = λ e. absurd (never_begun s e);
          unmarked = λ e. undone.marks;
          outside = λ out. undone.marks;
        }
          where
            never_begun : (s : Stage) → fallen s ≡ Begun → ⊥
            never_begun Idle e = cc
            never_begun Begun e = cc
            never_begun Failed e = cc
