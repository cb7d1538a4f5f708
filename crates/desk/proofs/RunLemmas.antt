-- What a run tells, whatever the words are.
use Rattle.std.proofs.Common.{◌≡◌, ◌⊎◌, ℕ, Bool, List, Option, inl, inr, refl, sym, subst, Result, Ok, Err}
use Rattle.std.specs.Prelude.{IfOk, OnErr}
use Rattle.std.specs.Result.{result_unwrap_or}
use Rattle.clap.specs.declared.error.kind.ErrorKind.{ErrorKind}
use Rattle.clap.specs.declared.error.kind.ErrorKind.TheVariants.{OutOfMemory}
use Rattle.desk.specs.CallAnswer.{IsAnswer, IsCallAnswer, IsMemoryTold, told_call, told_error, told_memory}
use Rattle.desk.specs.Status.{IsFailureTold, status_of_error}
use Rattle.desk_words.specs.Words.{CallValue, IsErrorIn, IsSaidBy, value_of_call}
use Rattle.desk_words.specs.declared.calls.Call.{Call}
use Rattle.desk.specs.declared.status.Failure.TheVariants as failure
use Rattle.desk.specs.declared.status.Status.{Status}
use Rattle.desk.specs.declared.status.Status.TheVariants as exit

-- what a result that told this tells
pub so : {S E : Type 0} (r : Result S E) (P Q : S → Type 0) → IfOk r P → ((s : S) → P s → Q s) → IfOk r Q
so (Ok s) P Q told then = then s told
so (Err e) P Q told then = tt

-- the status of a run whose writer may fail
pub ended : {E : Type 0} (r : Result Status E) (P : Status → Type 0) (B : Type 0) → IfOk r P → OnErr r B
    → ((result_unwrap_or r exit.Fault ≡ exit.Fault) × B) ⊎ P (result_unwrap_or r exit.Fault)
ended (Ok status) P B told failed = inr told
ended (Err e) P B told failed = inl (refl, failed)

module _ {E : Type 0} (r : Result Status E) (given : Option (List ℕ)) (U : Type 0) (reads : Bool) (P : List ℕ → Type 0) where
  -- what a call is answered
  abbrev pub IsTold : Call → Type 0
  IsTold asked = IfOk r (λ status. IsCallAnswer (value_of_call asked) given U reads status P)

  -- a call is answered as it says
  pub told_by : {D : Type 0} (made : D → Call) (asked : Call) (given_to said : D) → asked ≡ made said → given_to ≡ said → IsTold (made given_to) → IsTold asked
  told_by made asked given_to said is same told = subst IsTold (sym is) (subst (λ d. IsTold (made d)) same told)

  pub told_of : (asked other : Call) → asked ≡ other → IsTold other → IsTold asked
  told_of asked other is told = subst IsTold (sym is) told

  -- and where nothing was read
  pub told_unread : (asked : CallValue) (A : Status → Type 0) → U → IfOk r A → ((status : Status) → U → A status → IsCallAnswer asked given U reads status P) → IfOk r (λ status. IsCallAnswer asked given U reads status P)
  told_unread asked A unread told so_told = so r A (λ status. IsCallAnswer asked given U reads status P) told (λ status t. so_told status unread t)

  -- a call, answered
  pub answered : (asked : CallValue) → IfOk r (λ status. IsCallAnswer asked given U reads status P) → IfOk r (λ status. IsMemoryTold U status P ⊎ IsCallAnswer asked given U reads status P)
  answered asked told = so r (λ status. IsCallAnswer asked given U reads status P) (λ status. IsMemoryTold U status P ⊎ IsCallAnswer asked given U reads status P) told (λ status t. inr t)

  -- a call that the words say, answered
  pub said : (asked : CallValue) (words : List (List ℕ)) → IsSaidBy asked words → IfOk r (λ status. IsCallAnswer asked given U reads status P) → IfOk r (λ status. IsAnswer words given U reads status P)
  said asked words is told = so r (λ status. IsCallAnswer asked given U reads status P) (λ status. IsAnswer words given U reads status P) told (λ status t. told_call asked is t)

  -- an error that is want of memory, told
  pub memory_told : (asked : CallValue) (kind : ErrorKind) → U → kind ≡ OutOfMemory → (kind ≡ OutOfMemory → IfOk r (λ status. IsFailureTold failure.Memory status P))
      → IfOk r (λ status. IsMemoryTold U status P ⊎ IsCallAnswer asked given U reads status P)
  memory_told asked kind unread none told =
      so r (λ status. IsFailureTold failure.Memory status P) (λ status. IsMemoryTold U status P ⊎ IsCallAnswer asked given U reads status P) (told none) (λ status one. inl (unread, one))

  -- an error in the words, told
  pub error_told : (words : List (List ℕ)) (kind : ErrorKind) → U → (kind ≡ OutOfMemory) ⊎ IsErrorIn kind words → IfOk r (λ status. status ≡ status_of_error kind)
      → (kind ≡ OutOfMemory → IfOk r (λ status. IsFailureTold failure.Memory status P)) → IfOk r (λ status. IsAnswer words given U reads status P)
  error_told words kind unread (inl none) is told =
      so r (λ status. IsFailureTold failure.Memory status P) (λ status. IsAnswer words given U reads status P) (told none) (λ status one. told_memory (unread, one))
  error_told words kind unread (inr wrong) is told =
      so r (λ status. status ≡ status_of_error kind) (λ status. IsAnswer words given U reads status P) is (λ status same. told_error kind wrong unread same)
