use Rattle.std.proofs.Common.{◌<◌, arith, take, rules}
use Rattle.std.proofs.lemmas.List.{length-take, take_all}
use Rattle.std.proofs.lemmas.List.Elements.{All-take}
use Rattle.desk_codes.specs.Characters.{IsDigit}
use Rattle.desk_codes.proofs.NumberLemmas.{number_small, number_below}
use Rattle.desk_codes.proofs.number.whole_number.Goals as goal

pub overflow_mul-value : goal.overflow_mul-value
overflow_mul-value c =
    let digits = c.args.digits.now in
    let small = number_small (take c.loop-c.c-index digits) (All-take IsDigit c.loop-c.c-index digits c.requires.digits) (omega (arith, length-take c.loop-c.c-index digits)) in
    omega (arith, small)

pub overflow_add-value : goal.overflow_add-value
overflow_add-value c =
    let digits = c.args.digits.now in
    let small = number_small (take c.loop-c.c-index digits) (All-take IsDigit c.loop-c.c-index digits c.requires.digits) (omega (arith, length-take c.loop-c.c-index digits)) in
    let d : c.from.result < 256 = search rules in
    omega (arith, small, d)

pub returns-clause-bound : goal.returns-clause-bound
returns-clause-bound c =
    let below = number_below c.args.digits.now c.requires.digits in
    let whole = take_all c.loop-c.c-index c.args.digits.now c.loop-c-test.false in
    rw (c.loop-c.invariant, whole) below
