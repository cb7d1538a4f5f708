use Rattle.std.proofs.Common.{◌≡◌, vec_len}
use Rattle.memory_rows.specs.Lists.{listed, undone}
use Rattle.memory_rows.proofs.changing.changes.undo_all.Given as goal

abbrev pub invariant-loop-change : goal.invariant-loop-change
invariant-loop-change l = undone l.changes.items (listed l.lists) ≡ undone l.fn.changes.items (listed l.fn.lists)

abbrev pub decreases-loop-change : goal.decreases-loop-change
decreases-loop-change l = vec_len l.changes
