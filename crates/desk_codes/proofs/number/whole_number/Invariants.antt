use Rattle.std.proofs.Common.{◌≡◌, take}
use Rattle.desk_codes.specs.Number.{number_of}
use Rattle.desk_codes.proofs.number.whole_number.Given as goal

abbrev pub invariant-loop-c : goal.invariant-loop-c
invariant-loop-c l = l.value ≡ number_of (take l.c-index l.digits)
