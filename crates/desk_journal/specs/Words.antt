-- The words of a text.
use Rattle.std.specs.Prelude.{ℕ, ◌==◌, List, Option, slice_get}
use Rattle.std.specs.List.{slice_split}
use Rattle.std.specs.Str.{byte}

-- the word of that index, where one space stands between a word and the next
unfoldable pub word_at : List ℕ → ℕ → Option (List ℕ)
word_at text index = slice_get (slice_split (λ c. c == byte " ") text) index
