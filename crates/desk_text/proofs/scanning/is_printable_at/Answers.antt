use Rattle.std.proofs.Common.{ℕ, cond, ltb, refl, arith}
use Rattle.std.proofs.lemmas.Simd.{zip2_splat, zip2_splat_left, length-chunk}
use lib.Lanes.{chunk}
use Rattle.desk_text.specs.BlockGrammar.{is_printable}
use Rattle.desk_text.proofs.LaneLemmas.{joined, lanes_decide}
use Rattle.desk_text.proofs.scanning.is_printable_at.Goals as goal

pub returns : goal.returns
returns c =
    let v = chunk c.args.at 16 c.args.line.now in
    let long = length-chunk c.args.at 16 c.args.line.now c.requires in
    lanes_decide is_printable c.args.line.now c.args.at 16 c.requires (omega arith) c.type_inv.line _ _
    (joined _ _ _ v (zip2_splat _ v 16 32 long) (zip2_splat_left (λ (a b : ℕ). cond (ltb a b) 255 0) 126 16 v long)) refl
