use Rattle.std.proofs.Common.{[], drop}
use Rattle.desk_book.specs.Flat.{Passes}
use Rattle.desk_book.proofs.requests.scanning.behind_spaces.Given as goal

-- all so far is white space
abbrev pub invariant-loop-index : goal.invariant-loop-index
invariant-loop-index l = Passes [] l.text (drop l.index l.text)
