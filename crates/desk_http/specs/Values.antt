-- How many values a field has. Only private contracts speak of it.
use Rattle.std.specs.Prelude.{◌≡◌, ◌≤◌, ℕ, List, [], ◌∷◌, length, Option, Some, None}
use Rattle.std.specs.Borrow.{Bor}
use Rattle.desk_http.specs.declared.field.Values.{Values}
use Rattle.desk_http.specs.declared.field.Values.TheVariants.{Absent, One, Several}

-- these are the values
abbrev pub AreValues : Values → List (List ℕ) → Type 0
AreValues Absent values = values ≡ []
AreValues (One value) values = values ≡ value.now ∷ []
AreValues Several values = 2 ≤ length values

-- one value, or none
abbrev pub values_in : Option (Bor (List ℕ)) → List (List ℕ)
values_in None = []
values_in (Some value) = value.now ∷ []
