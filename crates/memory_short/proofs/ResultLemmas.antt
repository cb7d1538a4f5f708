-- What holds where a call failed, and where it went well.
use Rattle.std.proofs.Common.{◌≡◌, true, false}
use Rattle.std.specs.Prelude.{Result, Ok, Err, OnOk, OnErr, is_err}

-- The calls of pairs, by their results.
pub where_it_failed : {T E : Type 0} {P : Type 0} (r : Result T E) → true ≡ is_err r → OnErr r P → P
where_it_failed (Ok x) e p = absurd (cc)
where_it_failed (Err f) e p = p

pub where_it_went : {T E : Type 0} {P : Type 0} (r : Result T E) → false ≡ is_err r → OnOk r P → P
where_it_went (Ok x) e p = p
where_it_went (Err f) e p = absurd (cc)
