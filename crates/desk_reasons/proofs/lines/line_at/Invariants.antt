use Rattle.std.proofs.Common.{◌≡◌, ◌-◌, [], get_or}
use Rattle.desk_text.specs.Lines.{lines_of}
use Rattle.desk_reasons.specs.BlockFaults.{line_at}
use Rattle.desk_reasons.proofs.lines.line_at.Given as goal

-- what is left begins with the line of the next number
abbrev pub invariant-loop-line : goal.invariant-loop-line
invariant-loop-line l = get_or (lines_of l.rest) (l.number - l._line) [] ≡ line_at l.number l.text
