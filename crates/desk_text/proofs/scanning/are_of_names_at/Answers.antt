use Rattle.std.proofs.Common.{ℕ, cond, ltb, refl, arith, ◌||◌}
use Rattle.std.proofs.lemmas.Simd.{zip2_splat, zip2_splat_left, length-chunk}
use lib.Lanes.{chunk}
use Rattle.desk_text.specs.BlockGrammar.{is_capital, is_digit}
use Rattle.desk_text.proofs.LaneLemmas.{joined, lanes_decide}
use Rattle.desk_text.proofs.scanning.are_of_names_at.Goals as goal

pub returns : goal.returns
returns c =
    let v = chunk c.args.at 4 c.args.name.now in
    let long = length-chunk c.args.at 4 c.args.name.now c.requires in
    lanes_decide (λ x. is_capital x || is_digit x) c.args.name.now c.args.at 4 c.requires (omega arith) c.type_inv.name _ _
    (joined _ _ _ v (joined _ _ _ v (zip2_splat _ v 4 48 long) (zip2_splat_left (λ (a b : ℕ). cond (ltb a b) 255 0) 90 4 v long)) (joined _ _ _ v (zip2_splat_left (λ (a b : ℕ). cond (ltb a b) 255 0) 57 4 v long) (zip2_splat _ v 4 65 long))) refl
