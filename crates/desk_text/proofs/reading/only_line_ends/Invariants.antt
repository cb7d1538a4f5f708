use Rattle.std.proofs.Common.{◌≡◌, ◌<◌, ◌+◌, ◌^◌, length, map}
use Rattle.desk_text.specs.Lines.{lines_of}
use Rattle.desk_text.specs.Reading.{read_after}
use Rattle.desk_text.specs.Signs.{sign_of}
use Rattle.desk_text.proofs.reading.only_line_ends.Given as goal

abbrev pub invariant-loop-after : goal.invariant-loop-after
invariant-loop-after l = record {
  small : l.number + length l.rest < 2 ^ 32;
  same : read_after (map sign_of (lines_of l.rest)) l.number ≡ read_after (map sign_of (lines_of l.fn.text)) l.fn.number;
}

abbrev pub decreases-loop-after : goal.decreases-loop-after
decreases-loop-after l = length l.rest
