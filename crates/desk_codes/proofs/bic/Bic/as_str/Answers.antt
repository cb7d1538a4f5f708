use Rattle.std.proofs.Common.{subst, sym, All, ◌<◌}
use Rattle.desk_codes.proofs.BicLemmas.{shape_codes}
use Rattle.desk_codes.proofs.CharacterLemmas.{code_is_ascii}
use Rattle.desk_codes.proofs.bic.Bic.as_str.Goals as goal

pub ascii_str-requires : goal.ascii_str-requires
ascii_str-requires c =
    subst (All (λ k. k < 128)) (sym c.as_bytes.ensures) (code_is_ascii c.self.inside.text (shape_codes c.self.inside.text c.self.invariant.shaped))
