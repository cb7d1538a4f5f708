-- The profile of the settlement instructions MT540 to MT543 (ISO 15022): the used fields as a table, and what their values say.
use Rattle.std.specs.Prelude.{◌≡◌, ◌⊎◌, ℕ, ◌≤◌, if◌then◌else◌, List, [], ◌∷◌, ◌++◌, length, All, codes, Ok}
use Rattle.std.specs.Str.{byte}
use Rattle.desk_codes.specs.Characters.{IsCodeChar, IsDigit}
use Rattle.desk_codes.specs.Reference.{IsReference}
use Rattle.desk_codes.specs.Account.{IsAccount}
use Rattle.desk_codes.specs.Day.{IsDay}
use Rattle.desk_codes.specs.CheckDigit.{IsIsin}
use Rattle.desk_codes.specs.Bic.{ReadsBic}
use Rattle.desk_codes.specs.Number.{ReadsNumber}
use Rattle.desk_codes.specs.Currency.{letters_of, decimals_of}
use Rattle.desk_codes.specs.declared.currency.Ccy.{Ccy}
use Rattle.desk_text.specs.Fields.{Found}
use Rattle.desk_msg.specs.declared.mt.Mt.{Mt}
use Rattle.desk_msg.specs.declared.reading.function.FunctionCode.{FunctionCode}
use Rattle.desk_msg.specs.declared.reading.function.FunctionCode.TheVariants.{Newm, Canc}
use Rattle.desk_msg.specs.declared.fault.Word.{Word}
use Rattle.desk_msg.specs.declared.fault.Word.TheVariants.{Field23G, Seme, Prev, Date, Field35B, Field36B, Safe, Setr, Pset, Deag, Reag, Field19A}
use Rattle.desk_msg.specs.declared.instruction.Kind.{Kind}
use Rattle.desk_msg.specs.declared.instruction.Kind.TheVariants.{Unit as Units, FaceAmount}
use Rattle.desk_msg.specs.MessageType.{is_against_payment, is_delivery}

-- the forms of values
pub data Form : Type 0 where
  function_form : Form
  reference_form : Form
  day_form : Form
  security_form : Form
  quantity_form : Form
  account_form : Form
  settlement_form : Form
  party_form : Form
  amount_form : Form

-- A row of the table: the word that names it, the sequences that its field stands in (the outermost first), the tags that the field may have, what its value begins with (nothing where it has no qualifier), and the form of the value.
pub record Row : Type 0 where
  pub word : Word
  pub path : List (List ℕ)
  pub tags : List (List ℕ)
  pub begins : List ℕ
  pub form : Form

abbrev pub row : Word → List (List ℕ) → List (List ℕ) → List ℕ → Form → Row
row word path tags begins form = record { word = word; path = path; tags = tags; begins = begins; form = form }

-- a path of one name, and of two
abbrev pub within : List ℕ → List (List ℕ)
within name = name ∷ []

abbrev pub within_two : List ℕ → List ℕ → List (List ℕ)
within_two outer inner = outer ∷ inner ∷ []

abbrev pub function_row : Row
function_row = row Field23G (within (codes "GENL")) (codes "23G" ∷ []) [] function_form

abbrev pub seme_row : Row
seme_row = row Seme (within (codes "GENL")) (codes "20C" ∷ []) (codes ":SEME/") reference_form

abbrev pub prev_row : Row
prev_row = row Prev (within_two (codes "GENL") (codes "LINK")) (codes "20C" ∷ []) (codes ":PREV/") reference_form

abbrev pub date_row : Row
date_row = row Date (within (codes "TRADDET")) (codes "98A" ∷ codes "98C" ∷ []) (codes ":SETT/") day_form

abbrev pub security_row : Row
security_row = row Field35B (within (codes "TRADDET")) (codes "35B" ∷ []) [] security_form

abbrev pub quantity_row : Row
quantity_row = row Field36B (within (codes "FIAC")) (codes "36B" ∷ []) (codes ":SETT/") quantity_form

abbrev pub safe_row : Row
safe_row = row Safe (within (codes "FIAC")) (codes "97A" ∷ []) (codes ":SAFE/") account_form

abbrev pub setr_row : Row
setr_row = row Setr (within (codes "SETDET")) (codes "22F" ∷ []) (codes ":SETR/") settlement_form

abbrev pub pset_row : Row
pset_row = row Pset (within_two (codes "SETDET") (codes "SETPRTY")) (codes "95P" ∷ []) (codes ":PSET/") party_form

abbrev pub deag_row : Row
deag_row = row Deag (within_two (codes "SETDET") (codes "SETPRTY")) (codes "95P" ∷ []) (codes ":DEAG/") party_form

abbrev pub reag_row : Row
reag_row = row Reag (within_two (codes "SETDET") (codes "SETPRTY")) (codes "95P" ∷ []) (codes ":REAG/") party_form

abbrev pub amount_row : Row
amount_row = row Field19A (within_two (codes "SETDET") (codes "AMT")) (codes "19A" ∷ []) (codes ":SETT/") amount_form

-- the other side: the delivering agent of a receipt, the receiving agent of a delivery
abbrev pub counterparty_row : Mt → Row
counterparty_row mt = if is_delivery mt then reag_row else deag_row

-- the amount, against payment
abbrev pub payment_rows : Mt → List Row
payment_rows mt = if is_against_payment mt then amount_row ∷ [] else []

-- The rows behind the function that apply to a type and function, in the order in which they are looked for.
abbrev pub rows_of : Mt → FunctionCode → List Row
rows_of mt Newm = seme_row ∷ date_row ∷ security_row ∷ quantity_row ∷ safe_row ∷ setr_row ∷ pset_row ∷ counterparty_row mt ∷ payment_rows mt
rows_of mt Canc = seme_row ∷ prev_row ∷ []

-- what a value says: a text, a quantity of that kind, or an amount; and `unsaid`, which none says
pub data Said : Type 0 where
  text_said : (text : List ℕ) → Said
  quantity_said : (kind : Kind) (quantity : ℕ) → Said
  amount_said : (ccy : Ccy) (amount : ℕ) → Said
  unsaid : Said

-- the value has one line, which begins so, and this is the rest of it
abbrev pub Bears : List ℕ → Found → List ℕ → Type 0
Bears begins field text = field.values ≡ (begins ++ text) ∷ []

-- of the rest of the value behind that beginning P holds
abbrev pub Behind : List ℕ → Found → (List ℕ → Type 0) → Type 0
Behind begins field P = (text : List ℕ) × Bears begins field text × P text

-- so many characters A to Z or 0 to 9
abbrev pub IsCode : ℕ → List ℕ → Type 0
IsCode n text = (length text ≡ n) × All IsCodeChar text

-- four characters, or these, a slash and four more
abbrev pub IsFunctionText : List ℕ → List ℕ → Type 0
IsFunctionText text function =
    IsCode 4 function × ((text ≡ function) ⊎ ((further : List ℕ) × IsCode 4 further × (text ≡ function ++ byte "/" ∷ further)))

abbrev pub IsReferenceText : List ℕ → List ℕ → Type 0
IsReferenceText text reference = IsReference reference × (text ≡ reference)

-- a text, and six digits behind it
abbrev pub IsTimed : List ℕ → List ℕ → Type 0
IsTimed text front = (time : List ℕ) × (length time ≡ 6) × All IsDigit time × (text ≡ front ++ time)

-- eight digits of a day; under 98C six digits more, of any value
abbrev pub IsDayText : List ℕ → List ℕ → List ℕ → Type 0
IsDayText tag text day = IsDay day × (((tag ≡ codes "98A") × (text ≡ day)) ⊎ ((tag ≡ codes "98C") × IsTimed text day))

-- `ISIN`, a space and the code
abbrev pub IsSecurityText : List ℕ → List ℕ → Type 0
IsSecurityText line isin = IsIsin isin × (line ≡ codes "ISIN " ++ isin)

-- the code of how a security is counted
abbrev pub code_of_kind : Kind → List ℕ
code_of_kind Units = codes "UNIT"
code_of_kind FaceAmount = codes "FAMT"

-- how the security is counted, a slash and the number
abbrev pub IsQuantityText : List ℕ → Kind → ℕ → Type 0
IsQuantityText text kind quantity = (number : List ℕ) × (text ≡ code_of_kind kind ++ byte "/" ∷ number) × ReadsNumber number 0 (Ok quantity)

abbrev pub IsAccountText : List ℕ → List ℕ → Type 0
IsAccountText text account = IsAccount account × (text ≡ account)

-- an issuer code of at most eight characters or none, a slash and four characters
abbrev pub IsSettlementText : List ℕ → List ℕ → Type 0
IsSettlementText text settlement =
    IsCode 4 settlement × ((issuer : List ℕ) × (length issuer ≤ 8) × All IsCodeChar issuer × (text ≡ issuer ++ byte "/" ∷ settlement))

abbrev pub IsPartyText : List ℕ → List ℕ → Type 0
IsPartyText text party = ReadsBic text (Ok party)

-- the currency and the number
abbrev pub IsAmountText : List ℕ → Ccy → ℕ → Type 0
IsAmountText text ccy amount = (number : List ℕ) × (text ≡ letters_of ccy ++ number) × ReadsNumber number (decimals_of ccy) (Ok amount)

-- `:QUAL//`, where the value begins `:QUAL/`
abbrev pub slashed : List ℕ → List ℕ
slashed begins = begins ++ codes "/"

-- What text the value of a field says, by the form of the row and what the value begins with. The lines of a security after the first are free.
abbrev pub SaysText : Form → List ℕ → Found → List ℕ → Type 0
SaysText function_form begins field said = Behind begins field (λ text. IsFunctionText text said)
SaysText reference_form begins field said = Behind (slashed begins) field (λ text. IsReferenceText text said)
SaysText day_form begins field said = Behind (slashed begins) field (λ text. IsDayText field.tag text said)
SaysText security_form begins field said = (line : List ℕ) × (further : List (List ℕ)) × (field.values ≡ line ∷ further) × IsSecurityText line said
SaysText account_form begins field said = Behind (slashed begins) field (λ text. IsAccountText text said)
SaysText settlement_form begins field said = Behind begins field (λ text. IsSettlementText text said)
SaysText party_form begins field said = Behind (slashed begins) field (λ text. IsPartyText text said)
SaysText form begins field said = ⊥

-- the value of a field says this
abbrev pub Says : Row → Found → Said → Type 0
Says row field (text_said said) = SaysText row.form row.begins field said
Says row field (quantity_said kind quantity) = (row.form ≡ quantity_form) × Behind (slashed row.begins) field (λ text. IsQuantityText text kind quantity)
Says row field (amount_said ccy amount) = (row.form ≡ amount_form) × Behind (slashed row.begins) field (λ text. IsAmountText text ccy amount)
Says row field unsaid = ⊥
