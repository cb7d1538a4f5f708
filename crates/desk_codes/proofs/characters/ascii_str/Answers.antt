use Rattle.std.proofs.Common.{Result, Ok, Err, refl}
use Rattle.std.specs.Result.{MatchResult, IsOk}
use Rattle.std.proofs.lemmas.Str.{IsUtf8-from_ascii}
use Rattle.std.proofs.lemmas.Str.Ascii.{IsAscii-from_all}
use Rattle.desk_codes.proofs.characters.ascii_str.Goals as goal

-- a reading that fails only where a fact is wrong goes well where the fact holds
well : {T E : Type 0} (r : Result T E) (P : T → Type 0) (Q : E → Type 0) (U : Type 0) → MatchResult r P (λ e. ¬ U × Q e) → U → IsOk r
well (Ok x) P Q U m u = refl
well (Err e) P Q U m u = absurd (m.0 u)

pub unwrap-requires : goal.unwrap-requires
unwrap-requires c =
    well c.from_utf8.result _ _ _ c.from_utf8.ensures.cases (IsUtf8-from_ascii c.args.bytes.now (IsAscii-from_all c.args.bytes.now c.requires))
