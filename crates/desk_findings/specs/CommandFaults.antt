-- What is wrong with a text that is no operator's command: of several things the first.
use Rattle.std.specs.Prelude.{◌≡◌, ◌≢◌, ◌<◌, ◌≤◌, ℕ, ◌+◌, List, [], ◌∷◌, ◌++◌, length, map, All, Some, None, option_map, codes, IsUtf8, Err}
use Rattle.std.specs.Char.{to_ascii_uppercase}
use Rattle.serde_json.specs.Data.{Data}
use Rattle.serde_json.specs.Events.{members_len}
use Rattle.serde_json.specs.Find.{as_object, get}
use Rattle.serde_json.specs.Read.{read}
use Rattle.desk_text.specs.declared.limits.TheConstants.{LONGEST_TEXT}
use Rattle.desk_codes.specs.Account.{IsAccount}
use Rattle.desk_codes.specs.Bic.{ReadsBic}
use Rattle.desk_codes.specs.Characters.{IsDigit, IsPrintable}
use Rattle.desk_codes.specs.CheckDigit.{IsIsin}
use Rattle.desk_codes.specs.Currency.{letters_of}
use Rattle.desk_codes.specs.Day.{IsDay}
use Rattle.desk_codes.specs.Isin.{ReadsIsin}
use Rattle.desk_codes.specs.Reference.{IsReference}
use Rattle.desk_codes.specs.declared.currency.Ccy.{Ccy}
use Rattle.desk_codes.specs.declared.fault.CodeFault.{CodeFault}
use Rattle.desk_msg.specs.Profile.{code_of_kind}
use Rattle.desk_msg.specs.declared.instruction.Kind.{Kind as KindValue}
use Rattle.desk_rules.specs.declared.limits.TheConstants.{MOST_PAID, MOST_QUANTITY}
use Rattle.desk_book.specs.Forms.{SpellsBic}
use Rattle.desk_book.specs.Members.{text_at, number_at}
use Rattle.desk_findings.specs.declared.commands.fault.CommandFault.{CommandFault}
use Rattle.desk_findings.specs.declared.commands.fault.CommandFault.TheVariants as commands
use Rattle.desk_findings.specs.declared.commands.fault.MemberFault.{MemberFault}
use Rattle.desk_findings.specs.declared.commands.fault.MemberFault.TheVariants.{Missing, NoText, Wrong, NoNumber, Range}
use Rattle.desk_findings.specs.declared.commands.fault.TextFault.{TextFault}
use Rattle.desk_findings.specs.declared.commands.fault.TextFault.TheVariants.{Empty, Unprintable, TooLong, Slash, Code, NoKind, NotEightDigits, NoDate, LowerCase, NoCurrency}
use Rattle.desk_findings.specs.declared.commands.member.Member.{Member}
use Rattle.desk_findings.specs.declared.commands.member.Member.TheVariants.{Text, Number}
use Rattle.desk_findings.specs.declared.commands.member.NumberMember.{NumberMember}
use Rattle.desk_findings.specs.declared.commands.member.NumberMember.TheVariants.{Quantity, Amount}
use Rattle.desk_findings.specs.declared.commands.member.Operation.{Operation}
use Rattle.desk_findings.specs.declared.commands.member.Operation.TheVariants as ops
use Rattle.desk_findings.specs.declared.commands.member.TextMember.{TextMember}
use Rattle.desk_findings.specs.declared.commands.member.TextMember.TheVariants.{Reference, Party, Account, Security, Kind, Day, Currency}

-- the names of the members
abbrev pub text_name : TextMember → List ℕ
text_name Reference = codes "ref"
text_name Party = codes "bic"
text_name Account = codes "account"
text_name Security = codes "isin"
text_name Kind = codes "kind"
text_name Day = codes "day"
text_name Currency = codes "ccy"

abbrev pub number_name : NumberMember → List ℕ
number_name Quantity = codes "quantity"
number_name Amount = codes "amount"

abbrev pub name_of : Member → List ℕ
name_of (Text member) = text_name member
name_of (Number member) = number_name member

-- what names an operation
abbrev pub word_of : Operation → List ℕ
word_of ops.Participant = codes "participant"
word_of ops.Account = codes "account"
word_of ops.Security = codes "security"
word_of ops.Issue = codes "issue"
word_of ops.Redeem = codes "redeem"
word_of ops.PayIn = codes "payin"
word_of ops.PayOut = codes "payout"
word_of ops.Run = codes "run"

-- the members of an operation besides `op`, in the order in which they are looked at
abbrev pub members_of : Operation → List Member
members_of ops.Participant = Text Reference ∷ Text Party ∷ []
members_of ops.Account = Text Reference ∷ Text Party ∷ Text Account ∷ []
members_of ops.Security = Text Reference ∷ Text Security ∷ Text Kind ∷ []
members_of ops.Issue = Text Reference ∷ Text Account ∷ Text Security ∷ Number Quantity ∷ []
members_of ops.Redeem = Text Reference ∷ Text Account ∷ Text Security ∷ Number Quantity ∷ []
members_of ops.PayIn = Text Reference ∷ Text Party ∷ Text Currency ∷ Number Amount ∷ []
members_of ops.PayOut = Text Reference ∷ Text Party ∷ Text Currency ∷ Number Amount ∷ []
members_of ops.Run = Text Reference ∷ Text Day ∷ []

-- the text is one of those that a member may be
abbrev pub IsText : TextMember → List ℕ → Type 0
IsText Reference text = IsReference text
IsText Party text = (bic : List ℕ) × SpellsBic text bic
IsText Account text = IsAccount text
IsText Security text = IsIsin text
IsText Kind text = (kind : KindValue) × (code_of_kind kind ≡ text)
IsText Day text = IsDay text
IsText Currency text = (ccy : Ccy) × (letters_of ccy ≡ text)

-- the most that a number may be
abbrev pub most_of : NumberMember → ℕ
most_of Quantity = MOST_QUANTITY
most_of Amount = MOST_PAID

-- the member is in order: a text or a number of its own
abbrev pub IsInOrder : Data → Member → Type 0
IsInOrder d (Text member) = (text : List ℕ) × (text_at (text_name member) d ≡ Some text) × IsText member text
IsInOrder d (Number member) = (n : ℕ) × (number_at (number_name member) d ≡ Some n) × (0 < n) × (n ≤ most_of member)

-- these members are
pub record AreInOrder (d : Data) (members : List Member) : Type 0 where
  pub each : All (IsInOrder d) members

-- some characters, and so many at most
abbrev pub IsWithin : ℕ → List ℕ → Type 0
IsWithin most text = (text ≢ []) × (length text ≤ most)

-- What is wrong with a text that must be some printable characters, and so many at most.
abbrev pub IsShapeFault : ℕ → List ℕ → TextFault → Type 0
IsShapeFault most text Empty = text ≡ []
IsShapeFault most text Unprintable = ¬ All IsPrintable text
IsShapeFault most text (TooLong longest) = All IsPrintable text × (longest ≡ most) × (most < length text)
IsShapeFault most text fault = ⊥

-- What is wrong with a text that must be a code, of which that is read: one that is not printable is told as that.
abbrev pub IsCodeFault : (List ℕ → CodeFault → Type 0) → List ℕ → TextFault → Type 0
IsCodeFault Reads text Unprintable = ¬ All IsPrintable text
IsCodeFault Reads text (Code fault) = All IsPrintable text × Reads text fault
IsCodeFault Reads text fault = ⊥

-- What is wrong with the text of a member.
abbrev pub IsWrong : TextMember → List ℕ → TextFault → Type 0
IsWrong Reference text Slash = IsWithin 16 text × All IsPrintable text × ¬ IsReference text
IsWrong Reference text fault = IsShapeFault 16 text fault
IsWrong Party text fault = IsCodeFault (λ code wrong. ReadsBic code (Err wrong)) text fault
IsWrong Account text fault = IsShapeFault 35 text fault
IsWrong Security text fault = IsCodeFault (λ code wrong. ReadsIsin code (Err wrong)) text fault
IsWrong Kind text NoKind = (kind : KindValue) → ¬ (code_of_kind kind ≡ text)
IsWrong Day text NotEightDigits = ¬ ((length text ≡ 8) × All IsDigit text)
IsWrong Day text NoDate = (length text ≡ 8) × All IsDigit text × ¬ IsDay text
IsWrong Currency text LowerCase = ((ccy : Ccy) → ¬ (letters_of ccy ≡ text)) × ((ccy : Ccy) × (letters_of ccy ≡ map to_ascii_uppercase text))
IsWrong Currency text NoCurrency = (ccy : Ccy) → ¬ (letters_of ccy ≡ map to_ascii_uppercase text)
IsWrong member text fault = ⊥

-- What is wrong with a member of a value: that there is none, its text or its number, or what is neither.
abbrev pub IsMemberFault : Data → Member → MemberFault → Type 0
IsMemberFault d member Missing = get (name_of member) d ≡ None
IsMemberFault d (Text member) NoText = (get (text_name member) d ≢ None) × (text_at (text_name member) d ≡ None)
IsMemberFault d (Text member) (Wrong fault) = (text : List ℕ) × (text_at (text_name member) d ≡ Some text) × IsWrong member text fault
IsMemberFault d (Number member) NoNumber = (get (number_name member) d ≢ None) × (number_at (number_name member) d ≡ None)
IsMemberFault d (Number member) (Range most) = (n : ℕ) × (number_at (number_name member) d ≡ Some n) × (most ≡ most_of member) × ¬ ((0 < n) × (n ≤ most))
IsMemberFault d member fault = ⊥

-- of these members this one is wrong, and those before it are in order
pub record IsFirstWrong (d : Data) (members : List Member) (wrong : Member) (fault : MemberFault) : Type 0 where
  pub before : List Member
  pub after : List Member
  pub split : members ≡ before ++ wrong ∷ after
  pub right : AreInOrder d before
  pub is : IsMemberFault d wrong fault

-- how many members an object has
abbrev pub HasMembers : Data → ℕ → Type 0
HasMembers d n = option_map members_len (as_object d) ≡ Some n

-- What is wrong with a value in JSON.
abbrev pub IsValueFault : Data → CommandFault → Type 0
IsValueFault d commands.NoObject = as_object d ≡ None
IsValueFault d commands.NoOperation = (as_object d ≢ None) × (get (codes "op") d ≡ None)
IsValueFault d commands.UnknownOperation = (get (codes "op") d ≢ None) × ((operation : Operation) → ¬ (text_at (codes "op") d ≡ Some (word_of operation)))
IsValueFault d (commands.Wrong member fault) = (operation : Operation) × (text_at (codes "op") d ≡ Some (word_of operation)) × IsFirstWrong d (members_of operation) member fault
IsValueFault d commands.OtherMembers = (operation : Operation) × (text_at (codes "op") d ≡ Some (word_of operation)) × AreInOrder d (members_of operation) × ¬ HasMembers d (length (members_of operation) + 1)
IsValueFault d fault = ⊥

-- What is wrong with a text. Of one that is no JSON the line and the column are not said here.
abbrev pub IsCommandFault : List ℕ → CommandFault → Type 0
IsCommandFault bytes commands.TooLong = LONGEST_TEXT < length bytes
IsCommandFault bytes (commands.NoJson line column) = (length bytes ≤ LONGEST_TEXT) × ((d : Data) → IsUtf8 bytes → ¬ (read bytes ≡ Some d))
IsCommandFault bytes fault = (length bytes ≤ LONGEST_TEXT) × IsUtf8 bytes × ((d : Data) × (read bytes ≡ Some d) × IsValueFault d fault)

-- the text is JSON with this text at `ref`
pub record GivesReference (bytes reference : List ℕ) : Type 0 where
  pub utf8 : IsUtf8 bytes
  pub value : Data
  pub reads : read bytes ≡ Some value
  pub gives : text_at (codes "ref") value ≡ Some reference

-- an object has a member of this name, which is neither `op` nor one of these
pub record IsOtherMember (d : Data) (members : List Member) (name : List ℕ) : Type 0 where
  pub there : get name d ≢ None
  pub no_op : name ≢ codes "op"
  pub others : All (λ member. name_of member ≢ name) members

-- one that its operation does not have
abbrev pub OtherMember : Data → List ℕ → Type 0
OtherMember d name = (operation : Operation) × (text_at (codes "op") d ≡ Some (word_of operation)) × IsOtherMember d (members_of operation) name

-- the text is JSON with such a member
pub record HasOtherMember (bytes name : List ℕ) : Type 0 where
  pub utf8 : IsUtf8 bytes
  pub value : Data
  pub reads : read bytes ≡ Some value
  pub other : OtherMember value name
