-- What is wrong with a line of a script that asks nothing: of several things the first.
use Rattle.std.specs.Prelude.{◌≡◌, ◌≢◌, ◌<◌, ◌≤◌, ℕ, true, if◌then◌else◌, List, [], ◌∷◌, ◌++◌, length, All, Option, Some, None, codes, Err}
use Rattle.std.specs.Str.{byte}
use Rattle.desk_codes.specs.Bic.{ReadsBic}
use Rattle.desk_msg.specs.MessageType.{digits_of_type}
use Rattle.desk_book.specs.Asked.{Asked, mt_of}
use Rattle.desk_book.specs.Forms.{Asks, IsCount, SpellsBic}
use Rattle.desk_book.specs.Lines.{has_body, is_skipped, said_by, script_lines}
use Rattle.desk_book.specs.Script.{Asking, BeginsWith, ask, bad_line}
use Rattle.desk_book.specs.declared.limits.TheConstants.{LONGEST_LINE}
use Rattle.desk_book.specs.declared.requests.question.InstructionType.{InstructionType}
use Rattle.desk_findings.specs.declared.lines.fault.LineFault.{LineFault}
use Rattle.desk_findings.specs.declared.lines.fault.LineFault.TheVariants.{TooLong, UnknownWord, BehindCommand, BehindSums, PartMissing, NoBic, BehindType, NoType, NoNumber, NoStop}
use Rattle.desk_findings.specs.declared.lines.form.Form.{Form}
use Rattle.desk_findings.specs.declared.lines.form.Form.TheVariants as forms
use Rattle.desk_findings.specs.declared.lines.form.Named.{Named}
use Rattle.desk_findings.specs.declared.lines.form.Named.TheVariants.{Message, Status, Sent, Holdings}

-- the first word of the lines of a form
abbrev pub word_of : Form → List ℕ
word_of forms.Command = codes "op"
word_of forms.Sums = codes "sums"
word_of (forms.Named Message) = codes "in"
word_of (forms.Named Status) = codes "status"
word_of (forms.Named Sent) = codes "sent"
word_of (forms.Named Holdings) = codes "holdings"

-- A line that says this asks something, with any body, if its first word has one.
pub record CanAsk (said : List ℕ) : Type 0 where
  pub asks : (text : List ℕ) → (a : Asked) × Asks said (if has_body said then Some text else None) a

-- no space stands in the text
abbrev pub NoSpace : List ℕ → Type 0
NoSpace text = All (λ c. c ≢ byte " ") text

-- the first word, and what stands behind the space behind it
abbrev pub IsWords : List ℕ → Option (List ℕ) → List ℕ → Type 0
IsWords word None said = NoSpace word × (said ≡ word)
IsWords word (Some rest) said = NoSpace word × (said ≡ word ++ byte " " ∷ rest)

-- a word, a space and what stands behind
abbrev pub IsSplit : List ℕ → List ℕ → List ℕ → Type 0
IsSplit text word behind = NoSpace word × (text ≡ word ++ byte " " ∷ behind)

-- What is wrong with what must be a type: it is one and more behind a space, or neither.
abbrev pub IsTypeFault : List ℕ → LineFault → Type 0
IsTypeFault behind BehindType = (kind : InstructionType) × (more : List ℕ) × (behind ≡ digits_of_type (mt_of kind) ++ byte " " ∷ more)
IsTypeFault behind NoType = ((kind : InstructionType) → ¬ (digits_of_type (mt_of kind) ≡ behind)) × ((kind : InstructionType) (more : List ℕ) → ¬ (behind ≡ digits_of_type (mt_of kind) ++ byte " " ∷ more))
IsTypeFault behind fault = ⊥

-- What is wrong with what stands behind the BIC.
abbrev pub IsLastFault : Named → List ℕ → LineFault → Type 0
IsLastFault Message behind fault = IsTypeFault behind fault
IsLastFault Sent behind NoNumber = (number : ℕ) → ¬ IsCount behind number
IsLastFault named behind fault = ⊥

-- What is wrong with what stands behind the first word, where that is followed by a BIC.
abbrev pub IsNamedFault : Named → List ℕ → LineFault → Type 0
IsNamedFault named rest (PartMissing form) = (form ≡ named) × NoSpace rest
IsNamedFault named rest (NoBic fault) = (bic behind : List ℕ) × IsSplit rest bic behind × ReadsBic bic (Err fault)
IsNamedFault named rest fault = (bic party behind : List ℕ) × IsSplit rest bic behind × SpellsBic bic party × IsLastFault named behind fault

-- What is wrong with a line of a form.
abbrev pub IsFormFault : Form → Option (List ℕ) → LineFault → Type 0
IsFormFault forms.Command (Some rest) BehindCommand = Unit {0}
IsFormFault forms.Sums (Some rest) BehindSums = Unit {0}
IsFormFault (forms.Named named) None (PartMissing form) = form ≡ named
IsFormFault (forms.Named named) (Some rest) fault = IsNamedFault named rest fault
IsFormFault form rest fault = ⊥

-- What is wrong with a line that says this. That its body does not end is told of a line that can ask something.
abbrev pub IsLineFault : List ℕ → LineFault → Type 0
IsLineFault said TooLong = LONGEST_LINE < length said
IsLineFault said UnknownWord = (length said ≤ LONGEST_LINE) × ((word : List ℕ) × (rest : Option (List ℕ)) × IsWords word rest said × ((form : Form) → ¬ (word_of form ≡ word)))
IsLineFault said NoStop = CanAsk said
IsLineFault said fault = (length said ≤ LONGEST_LINE) × ((form : Form) × (rest : Option (List ℕ)) × IsWords (word_of form) rest said × IsFormFault form rest fault)

-- The first line of a script begins what is no request, and this is wrong with it.
pub record IsBadFor (script : List ℕ) (fault : LineFault) : Type 0 where
  pub line : List ℕ
  pub more : List (List ℕ)
  pub first : script_lines script ≡ line ∷ more
  pub rest : List ℕ
  pub begins : BeginsWith (script_lines script) bad_line rest
  pub wrong : IsLineFault (said_by line) fault

-- A script asks nothing, or its first line does, or begins a request.
pub data IsNoBadLine (script : List ℕ) : Type 0 where
  nothing : Asking (script_lines script) [] → IsNoBadLine script
  skipped_line : (line : List ℕ) (more : List (List ℕ)) → script_lines script ≡ line ∷ more → is_skipped (said_by line) ≡ true → IsNoBadLine script
  request : (a : Asked) (rest : List ℕ) → BeginsWith (script_lines script) (ask a) rest → IsNoBadLine script

-- What stands behind the first word, where nothing is wrong: what the form has there. Only private contracts speak of it.
abbrev pub IsLastRight : Named → List ℕ → Type 0
IsLastRight Message behind = (kind : InstructionType) × (digits_of_type (mt_of kind) ≡ behind)
IsLastRight Sent behind = (number : ℕ) × IsCount behind number
IsLastRight named behind = Unit {0}

abbrev pub IsRightBehind : Named → List ℕ → Type 0
IsRightBehind named rest = (bic party behind : List ℕ) × (rest ≡ bic ++ byte " " ∷ behind) × SpellsBic bic party × IsLastRight named behind

abbrev pub IsRight : Form → Option (List ℕ) → Type 0
IsRight forms.Command None = Unit {0}
IsRight forms.Sums None = Unit {0}
IsRight (forms.Named named) (Some rest) = IsRightBehind named rest
IsRight form rest = ⊥
