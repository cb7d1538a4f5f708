-- The numbers that came to stand otherwise. Only private contracts and proofs speak of it.
use Rattle.std.specs.Prelude.{ℕ, List, [], ◌∷◌, ◌++◌}
use Rattle.desk_register.specs.declared.outcome.Outcome.{Outcome}
use Rattle.desk_register.specs.declared.outcome.Outcome.TheVariants.{Settled}

-- the numbers that stand otherwise after a pair was tried: its two also, where it settled, else those that did
abbrev pub then_touched : Outcome → ℕ → ℕ → List ℕ → List ℕ
then_touched Settled earlier later touched = touched ++ earlier ∷ later ∷ []
then_touched outcome earlier later touched = touched
