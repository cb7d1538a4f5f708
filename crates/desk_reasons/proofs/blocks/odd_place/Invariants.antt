use Rattle.std.proofs.Common.{◌≡◌, ◌+◌, drop}
use Rattle.desk_reasons.specs.BlockFaults.{odd_place}
use Rattle.desk_reasons.proofs.blocks.odd_place.Given as goal

-- so many are printable
abbrev pub invariant-loop-index : goal.invariant-loop-index
invariant-loop-index l = odd_place l.line ≡ l.index + odd_place (drop l.index l.line)
