use Rattle.std.proofs.Common.{◌≡◌, ◌++◌, length, map}
use Rattle.desk_book.specs.Lines.{script_lines}
use Rattle.desk.specs.Told.{stand_of, told_by, told_from, told_in}
use Rattle.desk.proofs.findings.told.told_in.Given as goal

abbrev pub invariant-loop-line : goal.invariant-loop-line
invariant-loop-line l = told_in l.answers ≡ map told_by l.told.items ++ told_from (stand_of l.place) (script_lines l.rest)

abbrev pub decreases-loop-line : goal.decreases-loop-line
decreases-loop-line l = length l.rest
