use Rattle.std.proofs.Common.{arith}
use Rattle.std.proofs.lemmas.List.{length-set}
use Rattle.desk_msg.specs.OwnText.{last_digits}
use Rattle.desk_msg.proofs.DigitsLemmas.{step_down, all_written}
use Rattle.desk_msg.proofs.writing.digits.fifteen_digits.Goals as goal

pub loop-place-preserved : goal.loop-place-preserved
loop-place-preserved c = record {
  written = step_down (last_digits 15 c.args.number) c.loop-place.digits c.loop-place.place c.loop-place.rest c.loop-place-test.true (omega arith) c.loop-place.invariant.written;
  all = simp length-set c.loop-place.invariant.all;
}

pub returns : goal.returns
returns c = all_written (last_digits 15 c.args.number) c.loop-place.digits c.loop-place.place c.loop-place.rest c.loop-place-test.false c.loop-place.invariant.written
