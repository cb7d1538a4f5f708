use Rattle.std.proofs.Common.{◌≡◌, ◌*◌, take}
use Rattle.desk_codes.proofs.words.order_words.Given as goal

-- the words so far are the same
abbrev pub invariant-loop-index : goal.invariant-loop-index
invariant-loop-index l = take (8 * l.index) l.a ≡ take (8 * l.index) l.b
