use Rattle.std.proofs.Common.{◌≡◌, drop}
use Rattle.desk_msg.specs.Finding.{found_all}
use Rattle.desk_msg.specs.Reads.{belonging}
use Rattle.desk_reasons.specs.Rows.{row_of}
use Rattle.desk_reasons.proofs.rows.next_belonging.Given as goal

-- no field so far belongs to the row
abbrev pub invariant-loop-index : goal.invariant-loop-index
invariant-loop-index l = belonging (row_of l.word) (found_all l.fields) ≡ belonging (row_of l.word) (found_all (drop l.index l.fields))
