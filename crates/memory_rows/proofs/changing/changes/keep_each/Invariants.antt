use Rattle.std.proofs.Common.{◌≡◌, vec_len}
use Rattle.memory_rows.specs.BalanceKeys.{HasNoNought}
use Rattle.memory_rows.specs.Lists.{balance_in, listed, undone}
use Rattle.memory_rows.specs.Moves.{SameEntries}
use Rattle.memory_rows.proofs.KeepLemmas.{NoughtsAreMoved}
use Rattle.memory_rows.proofs.changing.changes.keep_each.Given as goal

abbrev pub invariant-loop-change : goal.invariant-loop-change
invariant-loop-change l =
    (balance_in (listed l.lists) ≡ balance_in (listed l.fn.lists)) × SameEntries (listed l.fn.lists) (listed l.lists)
    × (HasNoNought (undone l.fn.changes.items (listed l.fn.lists)).balances → NoughtsAreMoved (listed l.lists) l.changes.items)

abbrev pub decreases-loop-change : goal.decreases-loop-change
decreases-loop-change l = vec_len l.changes
