-- What is known of a result that is an error.
use Rattle.std.proofs.Common.{◌⊎◌, inl, Result, Ok, Err}
use Rattle.std.specs.Result.{IfErr, IfOk, IsErrAnd, MatchResult}

pub err_only : {T E : Type 0} (r : Result T E) (P : T → Type 0) (Q : E → Type 0) → IsErrAnd r Q → MatchResult r P Q
err_only (Ok x) P Q is = absurd is
err_only (Err e) P Q is = is

pub err_ok : {T E : Type 0} (r : Result T E) (P : T → Type 0) (Q : E → Type 0) → IsErrAnd r Q → IfOk r P
err_ok (Ok x) P Q is = absurd is
err_ok (Err e) P Q is = tt

pub err_either : {T E : Type 0} (r : Result T E) (A B : E → Type 0) → IsErrAnd r A → IfErr r (λ e. A e ⊎ B e)
err_either (Ok x) A B is = absurd is
err_either (Err e) A B is = inl is
