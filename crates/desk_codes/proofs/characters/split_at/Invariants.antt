use Rattle.std.proofs.Common.{◌≢◌, All, take}
use Rattle.desk_codes.proofs.characters.split_at.Given as goal

-- the separator stands at none of the places so far
abbrev pub invariant-loop-index : goal.invariant-loop-index
invariant-loop-index l = All (λ c. c ≢ l.separator) (take l.index l.text)
