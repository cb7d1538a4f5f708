use Rattle.std.proofs.Common.{◌≡◌, length}
use Rattle.std.specs.List.{list_all}
use Rattle.desk_text.specs.Lines.{value_lines}
use Rattle.desk_text.specs.BlockGrammar.{is_further}
use Rattle.desk_text.proofs.spelling.are_further_lines.Given as goal

abbrev pub invariant-loop-line : goal.invariant-loop-line
invariant-loop-line l = list_all is_further (value_lines l.rest) ≡ list_all is_further (value_lines l.lines)

abbrev pub decreases-loop-line : goal.decreases-loop-line
decreases-loop-line l = length l.rest
