-- What a line of a block can be, by itself.
use Rattle.std.specs.Prelude.{ℕ, ◌&&◌, ◌==◌, List, [], ◌∷◌, codes, Option, Some, None, if◌then◌else◌}
use Rattle.std.specs.Str.{byte, bytes_eq}
use Rattle.desk_text.specs.BlockGrammar.{is_name, is_tag, is_first, is_further}

-- what a line after the first can be, by itself
pub data Sign : Type 0 where
  opens : (name : List ℕ) → Sign
  closes : (name : List ℕ) → Sign
  starts : (tag first : List ℕ) → Sign
  further : (line : List ℕ) → Sign
  ends : Sign
  strange : Sign

-- a line `:tag:value`, by its tag
abbrev pub sign_of_tag : List ℕ → List ℕ → Sign
sign_of_tag tag value =
    if bytes_eq tag (codes "16R") then (if is_name value then opens value else strange)
    else if bytes_eq tag (codes "16S") then (if is_name value then closes value else strange)
    else if is_tag tag && is_first value then starts tag value
    else strange

-- the tag and the value behind the first colon of a line, where a tag of two or three characters stands there
abbrev pub split_tag : List ℕ → Option (List ℕ × List ℕ)
split_tag (a ∷ b ∷ c ∷ d ∷ rest) = if c == byte ":" then Some (a ∷ b ∷ [], d ∷ rest) else if d == byte ":" then Some (a ∷ b ∷ c ∷ [], rest) else None
split_tag (a ∷ b ∷ c ∷ []) = if c == byte ":" then Some (a ∷ b ∷ [], []) else None
split_tag text = None

abbrev pub sign_of_split : Option (List ℕ × List ℕ) → Sign
sign_of_split None = strange
sign_of_split (Some (tag, value)) = sign_of_tag tag value

abbrev pub sign_of : List ℕ → Sign
sign_of [] = further []
sign_of (c ∷ line) =
    if c == byte ":" then sign_of_split (split_tag line)
    else if bytes_eq (c ∷ line) (codes "-}") then ends
    else if is_further (c ∷ line) then further (c ∷ line)
    else strange
