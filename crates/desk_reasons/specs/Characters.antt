-- What is looked for in a text.
use Rattle.std.specs.Prelude.{ℕ, Bool, false, ◌&&◌, ◌||◌, ◌==◌, nat_le, nat_eq, List, [], ◌∷◌, length, codes, if◌then◌else◌}
use Rattle.std.specs.List.{list_any, list_all, starts_with, ends_with}
use Rattle.std.specs.Str.{byte}

-- a character stands in a text
abbrev pub stands_in : ℕ → List ℕ → Bool
stands_in c text = list_any (λ d. d == c) text

-- a lower case letter stands in a text
abbrev pub has_lower_case : List ℕ → Bool
has_lower_case text = list_any (λ c. nat_le (byte "a") c && nat_le c (byte "z")) text

-- a text begins so
abbrev pub begins_so : List ℕ → List ℕ → Bool
begins_so text front = starts_with nat_eq text front

-- a text ends so
abbrev pub ends_so : List ℕ → List ℕ → Bool
ends_so text end = ends_with nat_eq text end

-- two slashes stand together
abbrev pub has_slashes : List ℕ → Bool
has_slashes [] = false
has_slashes (c ∷ text) = ((c == byte "/") && begins_so text (codes "/")) || has_slashes text

-- a text has no character
abbrev pub is_empty : List ℕ → Bool
is_empty text = length text == 0

-- what stands behind the first of these characters
abbrev pub behind_first : ℕ → List ℕ → List ℕ
behind_first c [] = []
behind_first c (d ∷ text) = if d == c then text else behind_first c text

-- capital letters
abbrev pub are_capitals : List ℕ → Bool
are_capitals text = list_all (λ c. nat_le (byte "A") c && nat_le c (byte "Z")) text

-- digits and commas
abbrev pub are_of_numbers : List ℕ → Bool
are_of_numbers text = list_all (λ c. (nat_le (byte "0") c && nat_le c (byte "9")) || (c == byte ",")) text
