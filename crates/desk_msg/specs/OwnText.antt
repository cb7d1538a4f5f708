-- What the desk's own texts are made of.
use Rattle.std.specs.Prelude.{ℕ, zero, suc, ◌+◌, ◌/◌, ◌%◌, List, [], ◌∷◌, ◌++◌, codes}
use Rattle.std.specs.Str.{byte}
use Rattle.desk_text.specs.Written.{Part, open_part, field_part, close_part}
use Rattle.desk_msg.specs.declared.writing.status.Own.{Own}
use Rattle.desk_msg.specs.declared.writing.status.Own.TheVariants.{Answer, Sent}

-- the last k decimal digits of a number, as characters
unfoldable pub last_digits : ℕ → ℕ → List ℕ
last_digits zero n = []
last_digits (suc k) n = last_digits k (n / 10) ++ (byte "0" + n % 10) ∷ []

-- the reference of a text of the desk's own: S and the number of entries, or D and the number of the sent message, in 15 digits
abbrev pub own_reference : Own → List ℕ
own_reference (Answer entries) = codes "S" ++ last_digits 15 entries
own_reference (Sent n) = codes "D" ++ last_digits 15 n

-- a field with a qualifier, `:tag::QUAL//value`
abbrev pub generic_part : List ℕ → List ℕ → List ℕ → Part
generic_part tag qualifier value = field_part tag (codes ":" ++ (qualifier ++ (codes "//" ++ value)))

-- a sequence of that name round parts
abbrev pub sequence_parts : List ℕ → List Part → List Part
sequence_parts name parts = open_part name ∷ (parts ++ close_part name ∷ [])
