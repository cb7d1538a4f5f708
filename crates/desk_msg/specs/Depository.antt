-- The depository itself.
use Rattle.std.specs.Prelude.{ℕ, List, codes}

-- its own BIC: the place of settlement of the instructions that it takes, and of its confirmations
abbrev pub desk_bic : List ℕ
desk_bic = codes "DESKDEFF"
