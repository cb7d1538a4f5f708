use Rattle.std.proofs.Common.{◌≡◌, ◌-◌, take}
use Rattle.desk_text.specs.Lines.{lines_of}
use Rattle.desk_reasons.specs.BlockFaults.{opened_from, opened_before}
use Rattle.desk_reasons.proofs.blocks.opened_before.Given as goal

-- what these are, behind the lines that are left
abbrev pub invariant-loop-at : goal.invariant-loop-at
invariant-loop-at l = opened_from l.at l.begun.items (take (l.number - l.at) (lines_of l.rest)) ≡ opened_before l.number l.text
