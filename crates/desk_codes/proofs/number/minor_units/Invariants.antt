use Rattle.std.proofs.Common.{◌≡◌, ◌++◌, take, replicate}
use Rattle.desk_codes.specs.Number.{number_of}
use Rattle.desk_codes.proofs.number.minor_units.Given as goal

abbrev pub invariant-loop-index : goal.invariant-loop-index
invariant-loop-index l = l.value ≡ number_of (l.whole ++ take l.index (l.part ++ replicate l.decimals 48))
