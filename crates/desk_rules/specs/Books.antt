-- A history with what follows from it: which instructions are paired, and which pairs its runs settled.
use Rattle.std.specs.Prelude.{ℕ, Bool, List}
use Rattle.std.specs.List.{list_any}
use Rattle.desk_rules.specs.declared.history.entry.Entry.{Entry}
use Rattle.desk_rules.specs.declared.history.pair.Pair.{Pair}
use Rattle.desk_rules.specs.declared.history.pair.Settled.{Settled}
use Rattle.desk_rules.specs.Pairing.{IsPairing, has_side}
use Rattle.desk_rules.specs.Settlement.{IsSettlement}

pub record Books : Type 0 where
  pub history : List Entry
  pub pairs : List Pair
  pub settled : List Settled

-- the pairs are the history's pairing, and what is settled is its settlement
pub record AreBooks (books : Books) : Type 0 where
  pub pairing : IsPairing books.history books.pairs
  pub settlement : IsSettlement books.history books.pairs books.settled

-- an instruction is a side of one of the pairs, of one of the settled ones
abbrev pub is_paired : Books → ℕ → Bool
is_paired books k = list_any (has_side k) books.pairs

abbrev pub is_settled : Books → ℕ → Bool
is_settled books k = list_any (λ s. has_side k s.pair) books.settled
