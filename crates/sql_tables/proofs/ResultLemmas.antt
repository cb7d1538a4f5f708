-- What is known of a result.
use Rattle.std.proofs.Common.{◌≡◌, ℕ, List, Ok, Err, Result, OnOk, IfOk, IfErr, IsErrAnd, IsOk, subst, sym}
use Rattle.sqlite.specs.Order.{Row}
use Rattle.sqlite.specs.State.{State, Executes}
use Rattle.sqlite.specs.declared.error.Error.{Error}

-- what a value is, and so something else of it
pub on_value : {X E : Type 0} {A B : X → Type 0} (r : Result X E) → ((x : X) → A x → B x) → IfOk r A → IfOk r B
on_value (Ok x) f h = f x h
on_value (Err e) f h = tt

-- an error that is handed on is what it was
pub on_error : {X E : Type 0} (r : Result X E) (e : E) (P : E → Type 0) → IsErrAnd r (λ handed. handed ≡ e) → P e → IfErr r P
on_error (Ok x) e P handed is = tt
on_error (Err y) e P handed is = subst P (sym handed) is

-- what a text has done where it ran to its end
pub on_done : {B : Type 0} (text : List ℕ) (params : Row) (old new : State) (r : Result ℕ Error) → ((count : ℕ) → Executes text params old new (Ok count) → B) → Executes text params old new r → OnOk r B
on_done text params old new (Ok count) f h = f count h
on_done text params old new (Err e) f h = tt

-- what is a value is no error
pub no_error : {X E : Type 0} (r : Result X E) (P : E → Type 0) → IsOk r → IfErr r P
no_error (Ok x) P is = tt
no_error (Err e) P is = absurd (let e = is in cc)
