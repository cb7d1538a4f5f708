use Rattle.std.proofs.Common.{◌<◌, ◌-◌, ℕ, length}
use Rattle.memory_rows.specs.RowsView.{view_of_rows}
use Rattle.desk_register.specs.Looked.{IsOppositeAt}
use Rattle.memory_register.proofs.pairs.opposites.first_open_opposite.Given as goal

abbrev pub invariant-numbers : goal.invariant-numbers
invariant-numbers l = record { below : (k : ℕ) → k < l.from → IsOppositeAt (view_of_rows l.held).content l.wanted k → ⊥ }

abbrev pub decreases-numbers : goal.decreases-numbers
decreases-numbers l = length (view_of_rows l.held).content.register - l.from
