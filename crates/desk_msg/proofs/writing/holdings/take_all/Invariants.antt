use Rattle.std.proofs.Common.{take}
use Rattle.desk_msg.specs.TookRows.{TookAll}
use Rattle.desk_msg.proofs.writing.holdings.take_all.Given as goal

abbrev pub invariant-loop-row : goal.invariant-loop-row
invariant-loop-row g l = TookAll g.S.RowSink.took l.fn.sink (take l.row-index l.rows) l.sink
