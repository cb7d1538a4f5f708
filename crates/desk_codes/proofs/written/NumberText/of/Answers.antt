use Rattle.std.proofs.Common.{◌+◌, ◌/◌, ap, arith, refl, append_assoc, length}
use Rattle.std.proofs.lemmas.List.{length_push}
use Rattle.std.proofs.lemmas.Nat.{mod_below}
use Rattle.desk_codes.proofs.PlainLemmas.{fraction_end, fraction_step}
use Rattle.desk_codes.proofs.written.NumberText.of.Goals as goal

pub loop-place-init : goal.loop-place-init
loop-place-init c = record {
  text = rw (c.push.ensures, c.whole_text-text.ensures.digits, append_assoc, c.parts_of-whole.ensures.whole, c.parts_of-whole.ensures.part) refl;
  small = c.parts_of-whole.ensures.small;
  room = omega (arith, ap length c.push.ensures, length_push c.whole_text-text.result 44, c.whole_text-text.ensures.short);
}

pub returns-then-rest-eq0 : goal.returns-then-rest-eq0
returns-then-rest-eq0 c = fraction_end _ _ c.loop-place.place c.loop-place.rest c.if-rest-eq0.true c.loop-place.invariant.text

pub loop-place-preserved : goal.loop-place-preserved
loop-place-preserved c = record {
  text = rw (c.push-in-loop-place.ensures, c.power_of_ten-one.ensures.value) (fraction_step c.loop-place.text _ c.loop-place.place c.loop-place.rest c.loop-place-test.true c.if-rest-eq0.false c.loop-place.invariant.text);
  small = rw (← c.power_of_ten-one.ensures.value) (mod_below c.loop-place.rest c.power_of_ten-one.result c.power_of_ten-one.ensures.some);
  room = omega (arith, ap length c.push-in-loop-place.ensures, length_push c.loop-place.text (48 + c.loop-place.rest / c.power_of_ten-one.result), c.loop-place.invariant.room, c.loop-place-test.true);
}
