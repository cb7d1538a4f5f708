-- Why a reader gave no text.
use Rattle.std.specs.Prelude.{◌≡◌, ℕ, ◌<◌, Bool, true, List, length, Option, IfSome}
use Rattle.desk_streams.specs.declared.fault.InputFault.{InputFault}
use Rattle.desk_streams.specs.declared.fault.InputFault.TheVariants.{Memory, ReadFailed, TooLong}
use Rattle.desk.specs.declared.status.Failure.{Failure}
use Rattle.desk.specs.declared.status.Failure.TheVariants as failure

-- these bytes came, as far as it is known which a reader gives
abbrev pub Came : Option (List ℕ) → List ℕ → Type 0
Came given input = IfSome given (λ known. known ≡ input)

-- When a reader may be told to give no text of at most so many bytes: there was no room for one, and nothing was read; a
-- read failed, as the reader's may; it has more bytes, as far as these are known.
abbrev pub MayGiveNone : ℕ → Option (List ℕ) → Type 0 → Bool → InputFault → Type 0
MayGiveNone longest given IsUnread may_fail Memory = IsUnread
MayGiveNone longest given IsUnread may_fail ReadFailed = may_fail ≡ true
MayGiveNone longest given IsUnread may_fail TooLong = IfSome given (λ input. longest < length input)

-- the failure that is told for it
abbrev pub failure_of : InputFault → Failure
failure_of Memory = failure.Memory
failure_of ReadFailed = failure.Input
failure_of TooLong = failure.Input
