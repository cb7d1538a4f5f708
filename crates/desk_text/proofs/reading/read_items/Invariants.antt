use Rattle.std.proofs.Common.{◌≡◌, ◌≤◌, ◌+◌, [], false, length, map}
use Rattle.desk_text.specs.Lines.{lines_of}
use Rattle.desk_text.specs.Reading.{read_from, after_found}
use Rattle.desk_text.specs.Signs.{sign_of}
use Rattle.desk_text.specs.Steps.{open_names, found_by}
use Rattle.desk_text.proofs.reading.read_items.Given as goal

abbrev pub invariant-loop-line : goal.invariant-loop-line
invariant-loop-line l = record {
  small : l.number + length l.rest ≤ 65538;
  same : read_from (map sign_of (lines_of l.text)) [] false 2 ≡ after_found (found_by l.reader) (read_from (map sign_of (lines_of l.rest)) (open_names l.reader) l.reader.goes_on l.number);
}

abbrev pub decreases-loop-line : goal.decreases-loop-line
decreases-loop-line l = length l.rest
