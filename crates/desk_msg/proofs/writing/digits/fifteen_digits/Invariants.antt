use Rattle.std.proofs.Common.{◌≡◌, ◌++◌, drop, length}
use Rattle.desk_msg.specs.OwnText.{last_digits}
use Rattle.desk_msg.proofs.writing.digits.fifteen_digits.Given as goal

abbrev pub invariant-loop-place : goal.invariant-loop-place
invariant-loop-place l = record {
  written : last_digits 15 l.number ≡ last_digits l.place l.rest ++ drop l.place l.digits;
  all : length l.digits ≡ 15;
}
