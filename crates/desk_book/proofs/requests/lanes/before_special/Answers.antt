-- A load, compared with four bytes.
use Rattle.std.proofs.Common.{ℕ, cond, ltb, refl, arith}
use Rattle.std.proofs.lemmas.Simd.{zip2_splat, zip2_splat_left, length-chunk}
use lib.Lanes.{chunk}
use Rattle.desk_book.specs.Runs.{is_special}
use Rattle.desk_book.proofs.RunLanes.{joined, lanes_run}
use Rattle.desk_book.proofs.requests.lanes.before_special.Goals as goal

pub returns : goal.returns
returns c =
    let v = chunk c.args.at 16 c.args.text.now in
    let long = length-chunk c.args.at 16 c.args.text.now c.requires in
    lanes_run is_special c.args.text.now c.args.at 16 c.lowest_or.result c.requires (omega arith) c.type_inv.text _ _
    (joined _ _ _ v (joined _ _ _ v (zip2_splat _ v 16 34 long) (zip2_splat _ v 16 92 long)) (joined _ _ _ v (zip2_splat _ v 16 32 long) (zip2_splat_left (λ (a b : ℕ). cond (ltb a b) 255 0) 126 16 v long))) refl c.lowest_or.ensures
