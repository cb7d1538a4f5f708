use Rattle.std.proofs.Common.{◌≡◌, ◌+◌, ◌≤◌, length}
use Rattle.desk_text.specs.Lines.{lines_of}
use Rattle.desk_reasons.proofs.lines.count_lines.Given as goal

-- so many lines, and those of what is left
abbrev pub invariant-loop-after : goal.invariant-loop-after
invariant-loop-after l = record {
  count : l.count + length (lines_of l.rest) ≡ length (lines_of l.text);
  room : l.count + length l.rest ≤ length l.text;
}

abbrev pub decreases-loop-after : goal.decreases-loop-after
decreases-loop-after l = length l.rest
