use Rattle.std.proofs.Common.{◌≡◌, take, sum_by}
use Rattle.sql_rows.specs.Held.{number_shown}
use Rattle.sql_rows.proofs.amounts.reading.sum_shown.Given as goal

-- the numbers so far are added up
abbrev pub invariant-loop-row : goal.invariant-loop-row
invariant-loop-row l = l.sum ≡ sum_by number_shown (take l.row-index l.rows)
