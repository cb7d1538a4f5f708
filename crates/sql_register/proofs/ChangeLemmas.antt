-- A call that changes the tables, told of the register, is a changing call.
use Rattle.std.proofs.Common.{◌≡◌, ◌⊎◌, inl, inr, refl, sym, ap, subst, ◌∙◌, ℕ, [], None, true, IsTrue, Result, Ok, Err, IfErr, OnOk, OnErr}
use Rattle.sqlite.specs.declared.error.Error.{Error}
use Rattle.sqlite.specs.State.{State, HasCleanDisk}
use Rattle.desk_register.specs.declared.register.Fault.{Fault}
use Rattle.desk_register.specs.declared.register.Stage.{Stage}
use Rattle.desk_register.specs.declared.register.Stage.TheVariants.{Begun, Failed}
use Rattle.desk_register.specs.View.{IsChange}
use Rattle.sql_tables.specs.Ends.{ForCause, IfSound, Stays, IsUndone, FellWriting, IsWrite}
use Rattle.sql_register.specs.Content.{content_in}
use Rattle.sqlite.specs.Effect.{Database}
use Rattle.desk_rules.specs.Content.{Content}
use Rattle.sql_register.specs.Holds.{Becomes, IsDesk}
use Rattle.sql_register.specs.Kept.{IsOpenDesk, IsKept, shown}
use Rattle.sql_register.specs.Settling.{IsLeft, IsTrial}
use Rattle.sql_register.specs.Told.{IsTold}
use Rattle.sql_register.proofs.ReadLemmas.{blames_told, later_view, was_clean}

module _ (old new : State) (new_stage : Stage) (room : ℕ) {X : Type 0} (given : Result X Error) (kept : IsKept old Begun) (trial : IsTrial given old new (Stays old new)) where
  -- what is kept of a register whose connection is open now
  was_kept : HasCleanDisk new → IsTrue new.is_open → IsOpenDesk old Begun
  was_kept clean is_open = kept (was_clean old new trial.later clean) (trial.opened clean is_open)

  stays : (x : X) → given ≡ Ok x → HasCleanDisk new → IsTrue old.is_open → Stays old new
  stays x is clean was_open =
      let desk = kept (was_clean old new trial.later clean) was_open in
      subst (λ (r : Result X Error). OnOk r (Stays old new)) is (trial.ok clean was_open desk.schema (desk.begun refl) (desk.unmarked refl))

  fell : (e : Error) → given ≡ Err e → HasCleanDisk new → IsTrue new.is_open → IsLeft old new ⊎ IsUndone old new
  fell e is clean is_open =
      let desk = was_kept clean is_open in
      subst (λ (r : Result X Error). OnErr r (IsLeft old new ⊎ IsUndone old new)) is (trial.err clean (trial.opened clean is_open) desk.schema (desk.begun refl) (desk.unmarked refl))

  mark_stays : Stays old new → IsOpenDesk old Begun → content_in new.committed ≡ content_in old.committed
  mark_stays stays desk = ap content_in (stays.committed (desk.begun refl))

  pub change_told : (result : Result X Fault) → old.step_limit ≡ None → IfSound old new (IsDesk old.now → old.in_transaction ≡ true → old.marks ≡ [] → IfErr given (ForCause old new)) → IsTold given result Begun new_stage → IsChange result (shown old Begun room) (shown new new_stage room)
  change_told result unlimited caused told = go given refl told
    where
      go : (r : Result X Error) → given ≡ r → IsTold r result Begun new_stage → IsChange result (shown old Begun room) (shown new new_stage room)
      go (Ok x) is told = subst (λ r. IsChange r (shown old Begun room) (shown new new_stage room)) (sym told.0) (record {
        ok = record {
          stage = told.1;
          sure = λ clean was_open. (stays x is clean was_open).is_open;
          mark = λ clean was_open. mark_stays (stays x is clean was_open) (kept (was_clean old new trial.later clean) was_open);
          device = λ clean was_open. (stays x is clean was_open).is_open;
        };
        err = tt;
        later = later_view old new Begun new_stage room trial.later trial.opened;
        blame = record { storage = λ e. absurd (cc) };
      })
      go (Err e) is told = subst (λ r. IsChange r (shown old Begun room) (shown new new_stage room)) (sym told.0) (record {
        ok = tt;
        err = record {
          stage = told.1;
          mark = λ clean is_open. elim (fell e is clean is_open) [ inl left ↦ ap content_in left.committed | inr undone ↦ ap content_in (undone.committed is_open) ];
          content = λ clean is_open idle. absurd (cc);
        };
        later = later_view old new Begun new_stage room trial.later trial.opened;
        blame = blames_told old new Begun new_stage room e kept trial.later unlimited (λ clean was_open has desk.
            let open_desk = kept (was_clean old new trial.later clean) was_open in
            subst (λ (r : Result X Error). IfErr r (ForCause old new)) is (caused clean was_open has desk (open_desk.begun refl) (open_desk.unmarked refl)));
      })

  -- what is kept stays so after a change
  pub kept_changed : (result : Result X Fault) → IsTold given result Begun new_stage → IfSound old new (IsDesk old.now → old.in_transaction ≡ true → old.marks ≡ [] → OnOk given (IsDesk new.now)) → IsKept new new_stage
  kept_changed result told desks clean is_open = go given refl told
    where
      desk : IsOpenDesk old Begun
      desk = was_kept clean is_open

      well : Stays old new → IsDesk new.now → IsOpenDesk new Begun
      well stays now = record {
        committed = subst IsDesk (sym (stays.committed (desk.begun refl))) desk.committed;
        schema = stays.schema;
        now = λ goes. now;
        idle = λ e. absurd (cc);
        closed = λ e. absurd (cc);
        begun = λ e. stays.mode ∙ desk.begun refl;
        unmarked = λ e. stays.marks ∙ desk.unmarked refl;
        outside = λ out. absurd (let e = sym (stays.mode ∙ desk.begun refl) ∙ out in cc);
      }

      lost : IsLeft old new ⊎ IsUndone old new → IsOpenDesk new Failed
      lost (inl left) = record {
        committed = subst IsDesk (sym left.committed) desk.committed;
        schema = left.schema;
        now = λ goes. absurd (goes refl);
        idle = λ e. absurd (cc);
        closed = λ e. absurd (cc);
        begun = λ e. absurd (cc);
        unmarked = λ e. absurd (cc);
        outside = λ out. absurd (let e = sym left.mode ∙ out in cc);
      }
      lost (inr undone) = record {
        committed = subst IsDesk (sym (undone.committed is_open)) desk.committed;
        schema = ap (λ d. d.schema) (undone.now is_open) ∙ desk.committed.schema;
        now = λ goes. absurd (goes refl);
        idle = λ e. absurd (cc);
        closed = λ e. absurd (cc);
        begun = λ e. absurd (cc);
        unmarked = λ e. absurd (cc);
        outside = λ out. undone.marks;
      }

      go : (r : Result X Error) → given ≡ r → IsTold r result Begun new_stage → IsOpenDesk new new_stage
      go (Ok x) is told = subst (IsOpenDesk new) (sym told.1) (well (stays x is clean (trial.opened clean is_open))
          (subst (λ (r : Result X Error). OnOk r (IsDesk new.now)) is (desks clean (trial.opened clean is_open) desk.schema (desk.now (λ e. absurd (cc))) (desk.begun refl) (desk.unmarked refl))))
      go (Err e) is told = subst (IsOpenDesk new) (sym told.1) (lost (fell e is clean is_open))

  -- what is said of what was given is said of what is told
  pub on_told : (P : Type 0) (result : Result X Fault) → IsTold given result Begun new_stage → IfSound old new (IsDesk old.now → old.in_transaction ≡ true → old.marks ≡ [] → OnOk given P) → HasCleanDisk new → IsTrue old.is_open → OnOk result P
  on_told P result told says clean was_open = go given refl told
    where
      go : (r : Result X Error) → given ≡ r → IsTold r result Begun new_stage → OnOk result P
      go (Ok x) is told =
          let desk = kept (was_clean old new trial.later clean) was_open in
          subst (λ r. OnOk r P) (sym told.0) (subst (λ (r : Result X Error). OnOk r P) is (says clean was_open desk.schema (desk.now (λ e. absurd (cc))) (desk.begun refl) (desk.unmarked refl)))
      go (Err e) is told = subst (λ r. OnOk r P) (sym told.0) tt

-- a call that works in no savepoint
write_trial : {X : Type 0} (r : Result X Error) (a b : State) → IsWrite r a b → IsTrial r a b (Stays a b)
write_trial {X = X} r a b write = record {
  ok = λ clean is_open has inside none. write.ok clean is_open has;
  err = λ clean is_open has inside none. back r (write.err clean is_open has) inside;
  why = λ clean is_open has inside none. write.why clean is_open has;
  opened = write.opened;
  later = write.later;
}
  where
    back : (r : Result X Error) → OnErr r (FellWriting a b) → a.in_transaction ≡ true → OnErr r (IsLeft a b ⊎ IsUndone a b)
    back (Ok y) f inside = tt
    back (Err e) f inside = elim (f inside) [
      | inl s ↦ inl (record { is_open = s.is_open; schema = s.schema; mode = s.mode ∙ inside; committed = s.committed inside })
      | inr undone ↦ inr undone
    ]

-- the same at whatever stage is known to be that of an open `begin`
pub tried_kept : (old new : State) (stage new_stage : Stage) (room : ℕ) {X : Type 0} (given : Result X Error) (result : Result X Fault) → stage ≡ Begun → IsKept old stage → IsTrial given old new (Stays old new)
    → IsTold given result stage new_stage → IfSound old new (IsDesk old.now → old.in_transaction ≡ true → old.marks ≡ [] → OnOk given (IsDesk new.now)) → IsKept new new_stage
tried_kept old new stage new_stage room {X = X} given result begun kept trial told desks =
    kept_changed old new new_stage room given (subst (IsKept old) begun kept) trial result (subst (λ s. IsTold given result s new_stage) begun told) desks

pub changed_kept : (old new : State) (stage new_stage : Stage) (room : ℕ) {X : Type 0} (given : Result X Error) (result : Result X Fault) → stage ≡ Begun → IsKept old stage → IsWrite given old new
    → IsTold given result stage new_stage → IfSound old new (IsDesk old.now → OnOk given (IsDesk new.now)) → IsKept new new_stage
changed_kept old new stage new_stage room {X = X} given result begun kept write told desks =
    tried_kept old new stage new_stage room given result begun kept (write_trial given old new write) told (λ clean is_open has desk inside none. desks clean is_open has desk)

pub on_becomes : {X : Type 0} (db : Database) (content : Content) (r : Result X Error) → OnOk r (Becomes db content) → OnOk r (IsDesk db)
on_becomes db content (Ok x) becomes = becomes.desk
on_becomes db content (Err e) becomes = tt

on_content : {X : Type 0} (db : Database) (content : Content) (r : Result X Error) → OnOk r (Becomes db content) → OnOk r (content_in db ≡ content)
on_content db content (Ok x) becomes = becomes.content_is
on_content db content (Err e) becomes = tt

-- what the tables became is what the register holds
pub told_content : (old new : State) (stage new_stage : Stage) (room : ℕ) {X : Type 0} (given : Result X Error) (result : Result X Fault) (content : Content) → stage ≡ Begun → IsKept old stage → IsWrite given old new
    → IsTold given result stage new_stage → IfSound old new (IsDesk old.now → OnOk given (Becomes new.now content)) → HasCleanDisk new → IsTrue old.is_open → OnOk result (content_in new.now ≡ content)
told_content old new stage new_stage room {X = X} given result content begun kept write told becomes =
    on_told old new new_stage room given (subst (IsKept old) begun kept) (write_trial given old new write) (content_in new.now ≡ content) result (subst (λ s. IsTold given result s new_stage) begun told)
    (λ clean is_open has desk inside none. on_content new.now content given (becomes clean is_open has desk))

-- a change is told so at whatever stage is known to be that of an open `begin`
pub trial_said : (old new : State) (stage new_stage : Stage) (room : ℕ) {X : Type 0} (given : Result X Error) (result : Result X Fault) → stage ≡ Begun → IsKept old stage → old.step_limit ≡ None → IsTrial given old new (Stays old new)
    → IfSound old new (IsDesk old.now → old.in_transaction ≡ true → old.marks ≡ [] → IfErr given (ForCause old new)) → IsTold given result stage new_stage → IsChange result (shown old stage room) (shown new new_stage room)
trial_said old new stage new_stage room {X = X} given result begun kept unlimited trial caused told =
    subst (λ s. IsChange result (shown old s room) (shown new new_stage room)) (sym begun)
    (change_told old new new_stage room given (subst (IsKept old) begun kept) trial result unlimited caused (subst (λ s. IsTold given result s new_stage) begun told))

pub write_said : (old new : State) (stage new_stage : Stage) (room : ℕ) {X : Type 0} (given : Result X Error) (result : Result X Fault) → stage ≡ Begun → IsKept old stage → old.step_limit ≡ None → IsWrite given old new
    → IfSound old new (IsDesk old.now → IfErr given (ForCause old new)) → IsTold given result stage new_stage → IsChange result (shown old stage room) (shown new new_stage room)
write_said old new stage new_stage room {X = X} given result begun kept unlimited write caused told =
    trial_said old new stage new_stage room given result begun kept unlimited (write_trial given old new write) (λ clean is_open has desk inside none. caused clean is_open has desk) told
