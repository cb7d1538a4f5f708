-- The length of a body, by the fields of its head (RFC 9112, section 6). A field is a pair of its name and its value.
use Rattle.std.specs.Prelude.{◌≡◌, ◌≤◌, ◌⊎◌, ℕ, Bool, List, [], ◌∷◌, length, All, map, filter, codes, if◌then◌else◌, nat_lt, Result, Ok, Err}
use Rattle.std.specs.Char.{to_ascii_lowercase}
use Rattle.std.specs.Str.{bytes_eq}
use Rattle.desk_text.specs.declared.limits.TheConstants.{LONGEST_TEXT}
use Rattle.desk_codes.specs.Characters.{IsDigit}
use Rattle.desk_codes.specs.Number.{number_of}
use Rattle.desk_http.specs.declared.limits.TheConstants.{MOST_LENGTH_DIGITS}
use Rattle.desk_http.specs.declared.refusal.Refusal.{Refusal}
use Rattle.desk_http.specs.declared.refusal.Refusal.TheVariants.{BadRequest, LengthRequired, PayloadTooLarge}

abbrev pub Fields : Type 0
Fields = List (List ℕ × List ℕ)

-- the field has this name, in whatever case
abbrev pub is_named : List ℕ → List ℕ × List ℕ → Bool
is_named name field = bytes_eq (map to_ascii_lowercase field.0) (map to_ascii_lowercase name)

-- the values of the fields of this name
abbrev pub values_of : List ℕ → Fields → List (List ℕ)
values_of name fields = map (λ field. field.1) (filter (λ field. is_named name field) fields)

-- a length: some digits, and few enough
pub record IsLength (text : List ℕ) : Type 0 where
  pub some : 1 ≤ length text
  pub short : length text ≤ MOST_LENGTH_DIGITS
  pub all : All IsDigit text

-- what is longer than a text may be is refused
abbrev pub within_limit : ℕ → Result ℕ Refusal
within_limit count = if nat_lt LONGEST_TEXT count then Err PayloadTooLarge else Ok count

-- the length by the values of `Content-Length`: just one, and a length
abbrev pub LengthBy : List (List ℕ) → Result ℕ Refusal → Type 0
LengthBy [] result = result ≡ Err LengthRequired
LengthBy (text ∷ []) result = (IsLength text × (result ≡ within_limit (number_of text))) ⊎ ((¬ IsLength text) × (result ≡ Err BadRequest))
LengthBy texts result = result ≡ Err BadRequest

-- what has a transfer encoding has no length
abbrev pub LengthUnder : List (List ℕ) → List (List ℕ) → Result ℕ Refusal → Type 0
LengthUnder [] lengths result = LengthBy lengths result
LengthUnder encodings lengths result = result ≡ Err LengthRequired

-- the length of the body, or the refusal
abbrev pub BodyLength : Fields → Result ℕ Refusal → Type 0
BodyLength fields result = LengthUnder (values_of (codes "Transfer-Encoding") fields) (values_of (codes "Content-Length") fields) result
