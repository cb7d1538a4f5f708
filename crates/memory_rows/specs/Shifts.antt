-- How a balance changes. Only private contracts and proofs speak of it.
use Rattle.std.specs.Prelude.{ℕ, ◌+◌, ◌-◌, ◌<◌, ◌≤◌, ◌^◌}
use Rattle.memory_rows.specs.declared.changing.shift.Shift.{Shift}
use Rattle.memory_rows.specs.declared.changing.shift.Shift.TheVariants.{Less, More}

-- an amount that is so much more, or so much less
abbrev pub shifted : ℕ → Shift → ℕ
shifted was (More amount) = was + amount
shifted was (Less amount) = was - amount

-- what is put on can be counted, and what is taken off is there
abbrev pub CanShift : ℕ → Shift → Type 0
CanShift was (More amount) = was + amount < 2 ^ 64
CanShift was (Less amount) = amount ≤ was
