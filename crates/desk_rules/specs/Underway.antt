-- How far a run has come, said by relations: the form that steps of a register are proved in. Only proofs and private
-- contracts speak of it.
use Rattle.std.specs.Prelude.{◌≡◌, ◌⊎◌, ◌↔◌, ℕ, ◌<◌, Bool, true, false, List, Contains, AllPairs, Option}
use Rattle.desk_rules.specs.declared.history.entry.Entry.{Entry}
use Rattle.desk_rules.specs.declared.history.pair.Pair.{Pair}
use Rattle.desk_rules.specs.declared.history.pair.Place.{Place}
use Rattle.desk_rules.specs.declared.history.pair.Settled.{Settled}
use Rattle.desk_rules.specs.Settlement.{IsUnsettled, Settles, is_due, is_past, is_sooner, place_of, precedes, settled_before}

-- a pair is past a place, in the order of a pass
abbrev pub is_above : List Entry → Option Place → Pair → Bool
is_above history last p = is_past last (place_of history p)

-- A settlement of a pair numbered below its run was decided on by then: it is of a run before this one, of a pass of the
-- run before this one, or of the pass, and not above the place.
pub record IsReached (history : List Entry) (run pass : ℕ) (place : Option Place) (s : Settled) : Type 0 where
  pub numbered : s.pair.later < s.run
  pub reached : (s.run < run) ⊎ ((s.run ≡ run) × ((s.pass < pass) ⊎ ((s.pass ≡ pass) × (is_above history place s.pair ≡ false))))

-- The settlement of a history whose last entry is the run, as far as a place in a pass.
pub record IsSettledAsFar (history : List Entry) (pairs : List Pair) (run pass : ℕ) (place : Option Place) (settled : List Settled) : Type 0 where
  pub exact : (s : Settled) → IsReached history run pass place s → Contains settled s ↔ Settles history pairs (settled_before history s settled) s
  pub within : (s : Settled) → Contains settled s → IsReached history run pass place s
  pub in_order : AllPairs (λ s t. precedes history s t ≡ true) settled

-- a pair that the pass may yet settle: above the place, due, and not yet settled
pub record IsOpen (history : List Entry) (pairs : List Pair) (settled : List Settled) (run : ℕ) (place : Option Place) (p : Pair) : Type 0 where
  pub paired : Contains pairs p
  pub due : is_due history run p ≡ true
  pub unsettled : IsUnsettled settled p
  pub above : is_above history place p ≡ true

-- the next pair that the pass takes: the least of the open ones
pub record IsNext (history : List Entry) (pairs : List Pair) (settled : List Settled) (run : ℕ) (place : Option Place) (p : Pair) : Type 0 where
  pub is_open : IsOpen history pairs settled run place p
  pub least : (q : Pair) → IsOpen history pairs settled run place q → is_sooner history q p ≡ false
