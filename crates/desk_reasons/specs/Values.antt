-- Why the value of a field does not fit, by the word of its row.
use Rattle.std.specs.Prelude.{◌≡◌, ◌≢◌, ℕ, ◌<◌, true, false, List, [], ◌∷◌, length, drop}
use Rattle.desk_text.specs.Fields.{Found}
use Rattle.desk_msg.specs.declared.fault.Word.{Word}
use Rattle.desk_msg.specs.declared.fault.Word.TheVariants.{Field23G, Seme, Prev, Date, Field35B, Field36B, Safe, Setr, Pset, Deag, Reag, Field19A, Rela, Eset}
use Rattle.desk_reasons.specs.declared.reasons.ValueReason.{ValueReason}
use Rattle.desk_reasons.specs.declared.reasons.ValueReason.TheVariants.{SecondLine, OneSlash, Empty, Function, Reference, Day, Security, Quantity, Account, Settlement, Party, Amount, Other}
use Rattle.desk_reasons.specs.declared.reasons.SecurityReason.{SecurityReason}
use Rattle.desk_reasons.specs.Characters.{begins_so}
use Rattle.desk_reasons.specs.Amounts.{IsAmountReason}
use Rattle.desk_reasons.specs.Quantities.{IsQuantityReason}
use Rattle.desk_reasons.specs.Codes.{IsSecurityReason, IsPartyReason, IsDayReason, account_reason, reference_reason, settlement_reason, function_reason}
use Rattle.desk_reasons.specs.Rows.{before_text}

-- of the text that is read of a field with that word and tag
abbrev pub IsTextReason : Word → List ℕ → List ℕ → ValueReason → Type 0
IsTextReason Field23G tag text reason = reason ≡ Function (function_reason text)
IsTextReason Seme tag text reason = reason ≡ Reference (reference_reason text)
IsTextReason Prev tag text reason = reason ≡ Reference (reference_reason text)
IsTextReason Rela tag text reason = reason ≡ Reference (reference_reason text)
IsTextReason Date tag text (Day reason) = IsDayReason tag text reason
IsTextReason Eset tag text (Day reason) = IsDayReason tag text reason
IsTextReason Field36B tag text (Quantity reason) = IsQuantityReason text reason
IsTextReason Safe tag text reason = reason ≡ Account (account_reason text)
IsTextReason Setr tag text reason = reason ≡ Settlement (settlement_reason text)
IsTextReason Pset tag text (Party reason) = IsPartyReason text reason
IsTextReason Deag tag text (Party reason) = IsPartyReason text reason
IsTextReason Reag tag text (Party reason) = IsPartyReason text reason
IsTextReason Field19A tag text (Amount reason) = IsAmountReason text reason
IsTextReason word tag text reason = ⊥

-- Of a value's one line: it begins otherwise, has nothing behind its beginning, or of the text that stands there.
pub data IsLineReason (word : Word) (tag line : List ℕ) (reason : ValueReason) : Type 0 where
  begins_otherwise : begins_so line (before_text word) ≡ false → reason ≡ OneSlash → IsLineReason word tag line reason
  has_nothing : begins_so line (before_text word) ≡ true → drop (length (before_text word)) line ≡ [] → reason ≡ Empty → IsLineReason word tag line reason
  has_text : begins_so line (before_text word) ≡ true → drop (length (before_text word)) line ≢ []
      → IsTextReason word tag (drop (length (before_text word)) line) reason → IsLineReason word tag line reason

-- Of a field: it has no line; of the first line of a security, behind which others may stand; of the one line of another value; or that has a second line.
pub data IsValueReason (word : Word) (field : Found) (reason : ValueReason) : Type 0 where
  has_no_line : field.values ≡ [] → reason ≡ Other → IsValueReason word field reason
  of_security : (line : List ℕ) (further : List (List ℕ)) (why : SecurityReason) → word ≡ Field35B → field.values ≡ line ∷ further
      → IsSecurityReason line why → reason ≡ Security why → IsValueReason word field reason
  of_line : (line : List ℕ) → word ≢ Field35B → field.values ≡ line ∷ [] → IsLineReason word field.tag line reason → IsValueReason word field reason
  has_second_line : word ≢ Field35B → 1 < length field.values → reason ≡ SecondLine → IsValueReason word field reason
