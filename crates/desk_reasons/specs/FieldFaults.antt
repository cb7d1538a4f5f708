-- Where the fields of a block fail, and why.
use Rattle.std.specs.Prelude.{◌≡◌, ℕ, ◌<◌, Bool, ◌&&◌, ◌||◌, ◌==◌, nat_eq, List, [], ◌∷◌, length, take, drop, get_or, Some, None, find, if◌then◌else◌}
use Rattle.std.specs.List.{list_any, starts_with}
use Rattle.std.specs.Str.{bytes_eq, str_eq_ignore_ascii_case}
use Rattle.std.specs.Cmp.Lexicographic.{pointwise}
use Rattle.desk_text.specs.Fields.{Found}
use Rattle.desk_msg.specs.declared.fault.Word.{Word}
use Rattle.desk_msg.specs.declared.fault.MsgFault.{MsgFault}
use Rattle.desk_msg.specs.declared.fault.MsgFault.TheVariants as faults
use Rattle.desk_msg.specs.Profile.{function_row}
use Rattle.desk_msg.specs.Reads.{belonging, first_value}
use Rattle.desk_reasons.specs.declared.reasons.Reason.{Reason}
use Rattle.desk_reasons.specs.declared.reasons.Reason.TheVariants.{Missing, Repeated, Value, OtherFunction}
use Rattle.desk_reasons.specs.declared.reasons.MissingReason.{MissingReason}
use Rattle.desk_reasons.specs.declared.reasons.MissingReason.TheVariants.{OtherOption, OneColon, LowerCaseQualifier, OtherSequence, Absent}
use Rattle.desk_reasons.specs.Characters.{begins_so}
use Rattle.desk_reasons.specs.Rows.{row_of}
use Rattle.desk_reasons.specs.Values.{IsValueReason}

-- the field's value begins as the row of the word says
abbrev pub value_fits : Word → Found → Bool
value_fits word field = starts_with nat_eq (first_value field.values) (row_of word).begins

-- it stands in the row's sequences
abbrev pub stands_there : Word → Found → Bool
stands_there word field = pointwise bytes_eq field.path (row_of word).path

-- its tag has three characters, of which the first two are the digits of the row's tags
abbrev pub has_digits : Word → Found → Bool
has_digits word field = (length field.tag == 3) && begins_so field.tag (take 2 (first_value (row_of word).tags))

-- of a row to which no field belongs: a field in its place with another letter behind the tag's digits, and one in another place
abbrev pub is_other_option : Word → Found → Bool
is_other_option word field = has_digits word field && value_fits word field && stands_there word field

abbrev pub is_elsewhere : Word → Found → Bool
is_elsewhere word field = list_any (bytes_eq field.tag) (row_of word).tags && value_fits word field

-- in its place with its tag, but with a qualifier that is spelled otherwise: behind one colon in place of two, or its own but for letters in lower case
abbrev pub has_one_colon : Word → Found → Bool
has_one_colon word field = starts_with nat_eq (first_value field.values) (drop 1 (row_of word).begins)

abbrev pub has_lower_qualifier : Word → Found → Bool
has_lower_qualifier word field = str_eq_ignore_ascii_case (take 6 (first_value field.values)) (row_of word).begins

abbrev pub is_misspelt : Word → Found → Bool
is_misspelt word field =
    list_any (bytes_eq field.tag) (row_of word).tags && stands_there word field && (has_one_colon word field || has_lower_qualifier word field)

abbrev pub spelling_reason : Word → Found → MissingReason
spelling_reason word field = if has_one_colon word field then OneColon else LowerCaseQualifier

-- Why no field belongs to a row, and where: the first field that has another option, else the first that is misspelt, else the first that stands elsewhere, else none does.
pub data IsMissing (word : Word) (fields : List Found) (line : ℕ) (reason : MissingReason) : Type 0 where
  as_option : (field : Found) → find (is_other_option word) fields ≡ Some field → line ≡ field.line → reason ≡ OtherOption (get_or field.tag 2 0)
      → IsMissing word fields line reason
  misspelt : find (is_other_option word) fields ≡ None → (field : Found) → find (is_misspelt word) fields ≡ Some field → line ≡ field.line
      → reason ≡ spelling_reason word field → IsMissing word fields line reason
  elsewhere : find (is_other_option word) fields ≡ None → find (is_misspelt word) fields ≡ None → (field : Found)
      → find (is_elsewhere word) fields ≡ Some field → line ≡ field.line → reason ≡ OtherSequence → IsMissing word fields line reason
  absent : find (is_other_option word) fields ≡ None → find (is_misspelt word) fields ≡ None → find (is_elsewhere word) fields ≡ None → line ≡ 1
      → reason ≡ Absent → IsMissing word fields line reason

-- What is told of the fields of a block, by the fault that they have: in which line it stands, and why.
abbrev pub TellsFields : List Found → MsgFault → ℕ → Reason → Type 0
TellsFields fields (faults.Missing word) line (Missing reason) = IsMissing word fields line reason
TellsFields fields (faults.Repeated word) line (Repeated at) =
    (first second : Found) × (rest : List Found) × (belonging (row_of word) fields ≡ first ∷ second ∷ rest) × (at ≡ first.line) × (line ≡ second.line)
TellsFields fields (faults.BadValue word) line (Value reason) =
    (field : Found) × (belonging (row_of word) fields ≡ field ∷ []) × (line ≡ field.line) × IsValueReason word field reason
TellsFields fields faults.Function line OtherFunction = (field : Found) × (belonging function_row fields ≡ field ∷ []) × (line ≡ field.line)
TellsFields fields fault line reason = ⊥

-- how many fields belong to the row of a fault's word; only private contracts speak of it
abbrev pub FailsSo : List Found → MsgFault → Type 0
FailsSo fields (faults.Missing word) = belonging (row_of word) fields ≡ []
FailsSo fields (faults.Repeated word) = 1 < length (belonging (row_of word) fields)
FailsSo fields (faults.BadValue word) = (field : Found) × (belonging (row_of word) fields ≡ field ∷ [])
FailsSo fields faults.Function = (field : Found) × (belonging function_row fields ≡ field ∷ [])
