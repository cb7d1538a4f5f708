-- A desk by its values: its register, and whether it is closed.
use Rattle.std.specs.Prelude.{Bool, refl}
use Rattle.std.specs.Coded.{Coded, code_by, coded×, coded_bool}

pub record DeskValue (R : Type 0) : Type 0 where
  pub register : R
  pub is_closed : Bool

-- it is stored as the pair of its fields
abbrev pub desk_code : {R : Type 0} → Coded R → Coded (DeskValue R)
desk_code {R} of_register =
    code_by (R × Bool) (coded× of_register coded_bool) (λ d. (d.register, d.is_closed)) (λ p. record { register = p.0; is_closed = p.1 }) (λ _. refl)
