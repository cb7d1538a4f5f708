-- What the words of an answer name, and the text that explains it.
use Rattle.std.specs.Prelude.{ℕ, ◌==◌, ◌&&◌, ◌||◌, Bool, Option, Some, None, find, if◌then◌else◌, map, nat_lt, List, [], ◌∷◌, ◌++◌, length, codes}
use Rattle.std.specs.Borrow.{Bor}
use Rattle.std.specs.List.{flat_map}
use Rattle.std.specs.Option.{option_map}
use Rattle.std.specs.Str.{all_ascii_digits, bytes_eq}
use Rattle.std.specs.Str.Parse.{digits_value, without_leading_plus}
use Rattle.desk_msg.specs.declared.fault.Word.{Word}
use Rattle.desk_msg.specs.declared.fault.Word.TheVariants.{Eset, Rela}
use Rattle.desk_words.specs.Causes.{CauseValue, catalogue, catalogue_text, cause_text, value_of_cause}
use Rattle.desk_words.specs.declared.topics.Quoted.{Quoted}
use Rattle.desk_words.specs.declared.topics.Topic.{Topic}
use Rattle.desk_words.specs.declared.topics.Topic.TheVariants.{Catalogue, Cause, Detail, Other}
use Rattle.desk_words.specs.declared.topics.TheConstants.{COMMANDS, FIELDS, OTHERS}

-- what may stand behind a number
pub record DetailValue : Type 0 where
  pub name : List ℕ
  pub text : List ℕ

abbrev pub value_of_detail : Bor (List ℕ) × Bor (List ℕ) → DetailValue
value_of_detail detail = record { name = detail.0.now; text = detail.1.now }

-- what is told with none of the desk's numbers: `refused` or `fault`, and the key that stands behind it
pub record OtherValue : Type 0 where
  pub word : List ℕ
  pub key : List ℕ
  pub meaning : List ℕ
  pub remedy : List ℕ

abbrev pub value_of_other : Bor (List ℕ) × Bor (List ℕ) × Bor (List ℕ) × Bor (List ℕ) → OtherValue
value_of_other other = record { word = other.0.now; key = other.1.now; meaning = other.2.now; remedy = other.3.now }

unfoldable pub fields : List DetailValue
fields = map (λ row. record { name = row.0.now; text = row.1.now }) FIELDS

unfoldable pub commands : List DetailValue
commands = map (λ row. record { name = row.0.now; text = row.1.now }) COMMANDS

unfoldable pub others : List OtherValue
others = map (λ row. record { word = row.0.now; key = row.1.now; meaning = row.2.now; remedy = row.3.now }) OTHERS

-- an answer may begin with the word
abbrev pub is_kind : List ℕ → Bool
is_kind word = bytes_eq word (codes "refused") || bytes_eq word (codes "fault")

-- one decimal digit or more, and nothing else
abbrev pub is_numeral : List ℕ → Bool
is_numeral text = nat_lt 0 (length text) && all_ascii_digits text

-- a text spells the number, before which a plus and zeros may stand
abbrev pub spells : ℕ → List ℕ → Bool
spells number text = is_numeral (without_leading_plus text) && (digits_value 10 (without_leading_plus text) == number)

-- the first whose number the text spells, that has it for a key, or that has it for a name
abbrev pub spelled_among : List ℕ → List CauseValue → Option CauseValue
spelled_among text causes = find (λ cause. spells cause.number text) causes

abbrev pub other_among : List ℕ → List OtherValue → Option OtherValue
other_among text rows = find (λ other. bytes_eq other.key text) rows

abbrev pub detail_among : List ℕ → List DetailValue → Option DetailValue
detail_among name details = find (λ detail. bytes_eq detail.name name) details

-- behind these numbers the word of a field stands
abbrev pub tells_field : ℕ → Bool
tells_field number = (number == 5) || (number == 6) || (number == 7)

-- What may stand behind a number: the words of fields, and of an operator's command its name and its members.
abbrev pub details_of : ℕ → List DetailValue
details_of number = if tells_field number then fields else if number == 30 then commands else []

-- a refusal may tell the word: these two are of confirmations alone
abbrev pub IsTold : Word → Type 0
IsTold Rela = ⊥
IsTold Eset = ⊥
IsTold word = Unit {0}

-- behind these the line of a text stands
abbrev pub tells_line : ℕ → Bool
tells_line number = (number == 2) || (number == 3)

abbrev pub detail_text : DetailValue → List ℕ
detail_text detail = detail.name ++ codes ": " ++ detail.text ++ codes "\n"

abbrev pub other_text : OtherValue → List ℕ
other_text other = other.word ++ codes " " ++ other.key ++ codes ": " ++ other.meaning ++ codes "\n    " ++ other.remedy ++ codes "\n"

-- a cause, with all that may stand behind its number
abbrev pub whole_text : CauseValue → List ℕ
whole_text cause = cause_text cause ++ flat_map detail_text (details_of cause.number)

-- a number by itself, or what stands in its place
abbrev pub either_text : Option CauseValue → Option OtherValue → Option (List ℕ)
either_text None other = option_map other_text other
either_text (Some cause) other = Some (whole_text cause)

abbrev pub explained_alone : List ℕ → Option (List ℕ)
explained_alone key = either_text (spelled_among key catalogue) (other_among key others)

-- a number, with this behind it: the line of a text, or what has the name
abbrev pub text_with : List ℕ → Option CauseValue → Option (List ℕ)
text_with name None = None
text_with name (Some cause) =
    if tells_line cause.number && is_numeral name then Some (whole_text cause)
    else option_map (λ detail. cause_text cause ++ detail_text detail) (detail_among name (details_of cause.number))

abbrev pub explained_with : List ℕ → List ℕ → Option (List ℕ)
explained_with key name = text_with name (spelled_among key catalogue)

abbrev pub explained_behind : List (List ℕ) → Option (List ℕ)
explained_behind (key ∷ []) = explained_alone key
explained_behind (key ∷ name ∷ []) = explained_with key name
explained_behind words = None

-- The text that explains an answer of these words, before which `refused` or `fault` may stand; of no words it is that of each
-- number. None, where the desk gives no such answer.
abbrev pub explanation : List (List ℕ) → Option (List ℕ)
explanation [] = Some catalogue_text
explanation (word ∷ words) = if is_kind word then explained_behind words else explained_behind (word ∷ words)

-- the words that are given, up to the first that is not
abbrev pub listed : Option (Bor (List ℕ)) → List (List ℕ) → List (List ℕ)
listed None words = []
listed (Some word) words = word.now ∷ words

abbrev pub words_quoted : Quoted → List (List ℕ)
words_quoted quoted = listed quoted.first (listed quoted.second (listed quoted.third []))

-- what is told of a topic
abbrev pub topic_text : Topic → List ℕ
topic_text Catalogue = catalogue_text
topic_text (Cause cause) = whole_text (value_of_cause cause)
topic_text (Detail cause detail) = cause_text (value_of_cause cause) ++ detail_text (value_of_detail detail)
topic_text (Other other) = other_text (value_of_other other)
