use Rattle.std.proofs.Common.{rules, ◌≡◌, ◌<◌, ◌-◌, ◌++◌, arith, replicate, get_or}
use Rattle.std.proofs.lemmas.Grind.{common_steps}
use Rattle.desk_codes.proofs.NumberLemmas.{more_digits, next_decimal}
use Rattle.desk_codes.proofs.number.minor_units.Goals as goal
use Rattle.desk_codes.proofs.number.minor_units.Goals.{then-index-part, else-index-part}

pub overflow_mul-value : goal.overflow_mul-value
overflow_mul-value c =
    let small = more_digits c.args.whole.now c.args.part.now c.args.decimals c.loop-index.index c.requires.whole_digits c.requires.part_digits (omega arith) (omega arith) (omega arith) in
    omega (arith, small)

pub overflow_add-value : goal.overflow_add-value
overflow_add-value c =
    let small = more_digits c.args.whole.now c.args.part.now c.args.decimals c.loop-index.index c.requires.whole_digits c.requires.part_digits (omega arith) (omega arith) (omega arith) in
    let d : c.from.result < 256 = search rules in
    omega (arith, small, d)

pub loop-index-preserved : goal.loop-index-preserved
loop-index-preserved c =
    let digit : c.from.result ≡ get_or (c.args.part.now ++ replicate c.args.decimals 48) c.loop-index.index 0 - 48 = elim c.if-index-part.branch [
      | then-index-part w ↦ grind (arith, common_steps)
      | else-index-part w ↦ grind (arith, common_steps)
    ] in
    let next = next_decimal c.args.whole.now c.args.part.now c.args.decimals c.loop-index.index c.from.result c.loop-index-test.true digit in
    cc
