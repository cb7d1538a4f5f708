use Rattle.std.proofs.Common.{◌≡◌, ◌<◌, ◌≤◌, ◌+◌, ◌^◌, ◌++◌, length}
use Rattle.desk_codes.specs.Number.{fraction, written_number}
use Rattle.desk_codes.proofs.written.NumberText.of.Given as goal

abbrev pub invariant-loop-place : goal.invariant-loop-place
invariant-loop-place l = record {
  text : l.text ++ fraction l.place l.rest ≡ written_number l.value l.decimals;
  small : l.rest < 10 ^ l.place;
  room : length l.text + l.place ≤ 24;
}
