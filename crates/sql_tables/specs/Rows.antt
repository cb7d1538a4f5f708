-- The rows of a look-up, which shows one column of one row, or no row; and the rows of a table whose only column is its key.
use Rattle.std.specs.Prelude.{◌≡◌, ◌⊎◌, ℕ, pos, List, [], ◌∷◌, Option, Some, None}
use Rattle.sqlite.specs.declared.types.Value.TheVariants.{Null, Int, Text as Words}
use Rattle.sqlite.specs.Order.{Row}

-- the number that was found, or none was
abbrev pub number_rows : Option ℕ → List Row
number_rows None = []
number_rows (Some number) = (Int (pos number) ∷ []) ∷ []

-- the text that was found, or none was
abbrev pub text_rows : Option (List ℕ) → List Row
text_rows None = []
text_rows (Some text) = (Words text ∷ []) ∷ []

-- What such a row holds behind its number: NULL in the column's own place, or nothing, as other programs may write it. No
-- query tells the two apart.
abbrev pub IsBare : Row → Type 0
IsBare rest = (rest ≡ Null ∷ []) ⊎ (rest ≡ [])
