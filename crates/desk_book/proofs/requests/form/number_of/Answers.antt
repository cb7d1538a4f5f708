use Rattle.std.proofs.Common.{◌<◌, arith, take, rules}
use Rattle.std.proofs.lemmas.List.{length-take}
use Rattle.std.proofs.lemmas.List.Elements.{All-take}
use Rattle.desk_codes.specs.Characters.{IsDigit}
use Rattle.desk_codes.proofs.NumberLemmas.{number_small}
use Rattle.desk_book.proofs.requests.form.number_of.Goals as goal

pub overflow_mul-number : goal.overflow_mul-number
overflow_mul-number c =
    let digits = c.args.digits.now in
    let small = number_small (take c.loop-c.c-index digits) (All-take IsDigit c.loop-c.c-index digits c.requires.digits) (omega (arith, length-take c.loop-c.c-index digits)) in
    omega (arith, small)

pub overflow_add-number : goal.overflow_add-number
overflow_add-number c =
    let digits = c.args.digits.now in
    let small = number_small (take c.loop-c.c-index digits) (All-take IsDigit c.loop-c.c-index digits c.requires.digits) (omega (arith, length-take c.loop-c.c-index digits)) in
    let d : c.from.result < 256 = search rules in
    omega (arith, small, d)
