use Rattle.std.proofs.Common.{◌≡◌, ◌^◌, ◌-◌, length, min, take}
use Rattle.std.specs.List.{flat_map}
use Rattle.desk_msg.proofs.writing.pieces.room_of.Given as goal

-- the bytes of the pieces so far
abbrev pub invariant-loop-piece : goal.invariant-loop-piece
invariant-loop-piece l = l.room ≡ min (length (flat_map (λ piece. piece.now) (take l.piece-index l.pieces))) (2 ^ 64 - 1)
