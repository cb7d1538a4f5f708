-- One entry that was kept after another.
use Rattle.std.proofs.Common.{◌≡◌, ℕ, zero, suc, ◌+◌, ◌≤◌, Bool, true, List, [], ◌∷◌, ◌++◌, length, take, slice_get, Some, refl, sym, ◌∙◌, ap, subst, arith}
use Rattle.std.specs.Prelude.{◌↔◌, IsTrue, Result, Ok, Err}
use Rattle.desk_rules.specs.declared.answers.reply.Kept.{Kept}
use Rattle.desk_rules.specs.Content.{Content}
use Rattle.desk_register.specs.declared.register.Stage.TheVariants.{Idle}
use Rattle.desk_register.specs.declared.register.Fault.TheVariants.{Storage}
use Rattle.desk_register.specs.View.{View, IsLater}
use Rattle.desk_engine.specs.declared.accepting.Failure.{Failure}
use Rattle.desk_engine.specs.declared.accepting.Failure.TheVariants.{Undone, Lost}
use Rattle.desk_engine.specs.Accepting.{BlamesStep, IsDone, IsLeft}
use Rattle.desk_engine.specs.KeptHistory.{CanBeKept, HoldsKept, KeepsSome}
use Rattle.desk_engine.specs.Replayed.{BreaksOff}
use Rattle.desk_engine.specs.Taken.{IsNext}
use Rattle.desk_engine.proofs.KeptHistoryLemmas.{can_held}
use Rattle.desk_engine.proofs.TakenLemmas.{take_one}

-- nothing was taken yet
pub done_none : (v : View) → v.stage ≡ Idle → IsDone v v
done_none v idle = record { stage = idle; sure = λ h s. s; device = λ h s. s }

pub later_none : (v : View) → IsLater v v
later_none v = record { honest = λ h. h; sure = λ h s. s; room = refl; device_honest = λ h. h; failures = omega arith }

-- an answer that is no failure blames nothing
pub blames_no_step : {X : Type 0} (x : X) (v0 v1 : View) → BlamesStep {X = X} (Ok x) v0 v1
blames_no_step x v0 v1 = record { storage = λ is. absurd (cc) }

same_failure : {X Y : Type 0} (failure : Failure) → ◌≡◌ {A = Result X Failure} (Err failure) (Err (Undone Storage)) → ◌≡◌ {A = Result Y Failure} (Err failure) (Err (Undone Storage))
same_failure failure is = (let same : failure ≡ Undone Storage = cc in ap Err same)

module _ (v0 v1 v2 : View) (done : IsDone v0 v1) (first : IsLater v0 v1) (second : IsLater v1 v2) where
  pub later_done : IsLater v0 v2
  later_done = record {
    honest = λ h. first.honest (second.honest h);
    sure = λ h s. first.sure (second.honest h) (second.sure h s);
    room = second.room ∙ first.room;
    device_honest = λ h. first.device_honest (second.device_honest h);
    failures = (let a = first.failures in let b = second.failures in omega arith);
  }

  pub done_then : IsDone v1 v2 → IsDone v0 v2
  done_then more = record {
    stage = more.stage;
    sure = λ h s. more.sure h (done.sure (second.honest h) s);
    device = λ h s. more.device h (done.device (second.device_honest h) s);
  }

  pub blames_done : {X Y : Type 0} (failure : Failure) → BlamesStep {X = X} (Err failure) v1 v2 → BlamesStep {X = Y} (Err failure) v0 v2
  blames_done {X} {Y} failure blame = record {
    storage = λ is sure device honest honest_device few.
        (let lt = blame.storage (same_failure {X = Y} {Y = X} failure is) (done.sure (second.honest honest) sure) (done.device (second.device_honest honest_device) device) honest honest_device few in
        let le = first.failures in
        omega arith);
  }

-- a list of which the first entries are held
module _ (limit room : ℕ) (kept : List Kept) (i : ℕ) (content : Content) (same : room ≡ limit) (held : HoldsKept limit (take i kept) content) where
  here : HoldsKept room (take i kept) content
  here = subst (λ r. HoldsKept r (take i kept) content) (sym same) held

  pub keeps_some : KeepsSome room content
  keeps_some = record { books = here.books; keeps = here.keeps }

  pub holds_next : (one : Kept) (taken : Bool) (new : Content) → slice_get kept i ≡ Some one → (HoldsKept room (take i kept) content → IsNext room (take i kept) one taken new) → taken ≡ true → HoldsKept limit (take (i + 1) kept) new
  holds_next one taken new at is taken_so =
      let more = subst (λ r. HoldsKept r (take i kept ++ one ∷ []) new) same ((is here).held taken_so) in
      let number : suc i ≡ i + 1 = omega arith in
      subst (λ n. HoldsKept limit (take n kept) new) number (subst (λ z. HoldsKept limit z new) (sym (take_one kept i one at)) more)

-- a failure, after some entries that are held
pub breaks_off : (failure : Failure) (v0 v1 v2 : View) (kept : List Kept) (i : ℕ) → IsLater v1 v2 → (v1.is_honest → v0.is_sure → HoldsKept v0.room (take i kept) v1.content) → IsLeft failure v1.content v2 → BreaksOff failure kept v0 v2
breaks_off (Undone fault) v0 v1 v2 kept i second held left = record {
  stage = left.stage;
  sure = left.sure;
  first = λ honest sure. record { count = i; holds = subst (λ c. HoldsKept v0.room (take i kept) c) (sym (left.same honest)) (held (second.honest honest) sure) };
}
breaks_off Lost v0 v1 v2 kept i second held left = tt

take_none : (xs : List Kept) (k : ℕ) → xs ≡ [] → take k xs ≡ []
take_none [] zero none = refl
take_none [] (suc k) none = refl
take_none (x ∷ xs) k none = absurd (cc)

take_all : (xs : List Kept) (i : ℕ) → length xs ≤ i → take i xs ≡ xs
take_all [] i all = take_none [] i refl
take_all (x ∷ xs) zero all = absurd (omega arith)
take_all (x ∷ xs) (suc i) all = ap (λ z. x ∷ z) (take_all xs i (omega arith))

-- the whole list is held
pub holds_all : (limit : ℕ) (kept : List Kept) (i : ℕ) (content : Content) → length kept ≤ i → HoldsKept limit (take i kept) content → HoldsKept limit kept content
holds_all limit kept i content all held = subst (λ z. HoldsKept limit z content) (take_all kept i all) held

pub exact_all : (limit : ℕ) (kept : List Kept) (content : Content) → HoldsKept limit kept content → IsTrue true ↔ CanBeKept limit kept
exact_all limit kept content held = (λ is. can_held limit kept content held, λ can. refl)
