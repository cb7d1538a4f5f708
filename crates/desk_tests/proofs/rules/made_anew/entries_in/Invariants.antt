use Rattle.std.proofs.Common.{◌≡◌, take}
use Rattle.desk_engine.specs.KeptHistory.{entries_of}
use Rattle.desk_tests.proofs.rules.made_anew.entries_in.Given as goal

-- those of the first ones so far
abbrev pub invariant-loop-one : goal.invariant-loop-one
invariant-loop-one l = l.entries.items ≡ entries_of (take l.one-index l.kept)
