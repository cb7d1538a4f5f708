-- How a step ends that is begun by a call that only reads.
use Rattle.std.proofs.Common.{◌≡◌, sym, ◌∙◌, ap, arith}
use Rattle.std.specs.Prelude.{Result, Ok, Err, IfErr, OnOk}
use Rattle.desk_rules.specs.Content.{Content}
use Rattle.desk_register.specs.declared.register.Fault.{Fault}
use Rattle.desk_register.specs.declared.register.Fault.TheVariants.{Storage}
use Rattle.desk_register.specs.declared.register.Stage.TheVariants.{Idle}
use Rattle.desk_register.specs.View.{View, Blames, Falls, IsLater, Stays}
use Rattle.desk_register.proofs.ViewLemmas.{idle_goes}
use Rattle.desk_engine.specs.declared.accepting.Failure.{Failure}
use Rattle.desk_engine.specs.declared.accepting.Failure.TheVariants.{Undone, Lost}
use Rattle.desk_engine.specs.Accepting.{BlamesStep, IsDone, IsLeft, Recovers}
use Rattle.desk_engine.proofs.ReplayLemmas.{blames_done, blames_no_step, done_then}

pub stays_done : (v0 v1 : View) → v0.stage ≡ Idle → Stays v0 v1 → IsDone v0 v1
stays_done v0 v1 idle stays = record { stage = stays.stage ∙ idle; sure = stays.sure; device = stays.device }

module _ (v0 v1 v2 : View) (content : Content) (first : IsLater v0 v1) (second : IsLater v1 v2) (same : v1.is_honest → v1.is_sure → v1.content ≡ content) where
  pub still_left : (failure : Failure) → IsLeft failure v1.content v2 → IsLeft failure content v2
  still_left (Undone fault) left = record {
    stage = left.stage;
    sure = left.sure;
    device = left.device;
    same = λ h. left.same h ∙ same (second.honest h) (second.sure h (left.sure h));
  }
  still_left Lost left = tt

  pub left_so : {X : Type 0} (r : Result X Failure) → IfErr r (λ failure. IsLeft failure v1.content v2) → IfErr r (λ failure. IsLeft failure content v2)
  left_so (Ok x) left = left
  left_so (Err failure) left = still_left failure left

module _ (v0 v1 v2 : View) (done : IsDone v0 v1) (first : IsLater v0 v1) (second : IsLater v1 v2) where
  pub done_so : {X : Type 0} (r : Result X Failure) → OnOk r (IsDone v1 v2) → OnOk r (IsDone v0 v2)
  done_so (Ok x) more = done_then v0 v1 v2 done first second more
  done_so (Err failure) more = more

  pub blames_so : {X : Type 0} (r : Result X Failure) → BlamesStep r v1 v2 → BlamesStep r v0 v2
  blames_so (Ok x) blame = blames_no_step x v0 v2
  blames_so {X} (Err failure) blame = blames_done v0 v1 v2 done first second {X = X} {Y = X} failure blame

-- after a fault it was tried to show again what is held
module _ (v0 v1 v2 : View) (fault : Fault) (answer : Failure) (idle : v0.stage ≡ Idle) (falls : Falls v0 v1) (first : IsLater v0 v1) (r : Recovers fault answer v1.content v1 v2) where
  pub recovered_later : IsLater v0 v2
  recovered_later = record {
    honest = λ h. first.honest (r.later.honest h);
    sure = λ h s. first.sure (r.later.honest h) (r.later.sure h s);
    room = r.later.room ∙ first.room;
    device_honest = λ h. first.device_honest (r.later.device_honest h);
    failures = (let a = first.failures in let b = r.later.failures in omega arith);
  }

  pub recovered_left : IsLeft answer v0.content v2
  recovered_left = still_left v0 v1 v2 v0.content first r.later (λ h s. falls.content h s idle) answer r.left

  told_so : answer ≡ Undone Storage → fault ≡ Storage
  told_so is =
      let both : Undone Storage ≡ Undone fault = sym is ∙ r.told (λ lost. (let clash : Undone Storage ≡ Lost = sym is ∙ lost in absurd (cc))) in
      let same : Storage ≡ fault = cc in
      sym same

  pub recovered_blame : {X Y : Type 0} → Blames {X = X} (Err fault) v0 v1 → BlamesStep {X = Y} (Err answer) v0 v2
  recovered_blame {X} {Y} blame = record {
    storage = λ is sure device honest honest_device few.
        (let same : answer ≡ Undone Storage = cc in
        let le = r.later.failures in
        let lt = blame.storage (ap Err (told_so same)) (idle_goes v0.stage idle) sure device (r.later.honest honest) (r.later.device_honest honest_device) (omega arith) in
        omega arith);
  }
