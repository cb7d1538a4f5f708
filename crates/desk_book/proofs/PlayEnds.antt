-- A script that was read, before it is asked.
use Rattle.std.proofs.Common.{◌≡◌, ℕ, List, [], Option, Some, None, refl, sym, ◌∙◌}
use Rattle.std.specs.Prelude.{IfSome}
use Rattle.std.specs.Io.KnownBytes.{Consumes}

-- nothing was read yet
pub nothing_taken : (remaining : Option (List ℕ)) → Consumes remaining remaining []
nothing_taken None = tt
nothing_taken (Some input) = refl

-- what was read is all that there was
pub read_as : (remaining : Option (List ℕ)) (text script : List ℕ) → script ≡ text → IfSome remaining (λ input. text ≡ input) → IfSome remaining (λ input. input ≡ script)
read_as None text script is whole = whole
read_as (Some input) text script is whole = sym (is ∙ whole)
