use Rattle.std.proofs.Common.{◌≡◌, drop}
use Rattle.desk_reasons.specs.Characters.{has_slashes}
use Rattle.desk_reasons.proofs.characters.has_slashes.Given as goal

-- so far no two slashes stand together
abbrev pub invariant-loop-index : goal.invariant-loop-index
invariant-loop-index l = has_slashes (drop l.index l.text) ≡ has_slashes l.text
