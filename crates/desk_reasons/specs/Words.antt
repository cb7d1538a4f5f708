-- The words of each reason.
use Rattle.std.specs.Prelude.{ℕ, ◌==◌, ◌/◌, ◌%◌, List, [], ◌∷◌, ◌++◌, codes, decimal, get_or, if◌then◌else◌}
use Rattle.std.specs.List.{flat_map}
use Rattle.desk_codes.specs.Currency.{letters_of}
use Rattle.desk_codes.specs.declared.currency.TheConstants.{CURRENCIES}
use Rattle.desk_reasons.specs.declared.reasons.BlockReason.{BlockReason}
use Rattle.desk_reasons.specs.declared.reasons.BlockReason.TheVariants as blocks
use Rattle.desk_reasons.specs.declared.reasons.LineReason.{LineReason}
use Rattle.desk_reasons.specs.declared.reasons.LineReason.TheVariants as lines
use Rattle.desk_reasons.specs.declared.reasons.NestingReason.{NestingReason}
use Rattle.desk_reasons.specs.declared.reasons.NestingReason.TheVariants as nestings
use Rattle.desk_reasons.specs.declared.reasons.MissingReason.{MissingReason}
use Rattle.desk_reasons.specs.declared.reasons.MissingReason.TheVariants as missings
use Rattle.desk_reasons.specs.declared.reasons.ShapeReason.{ShapeReason}
use Rattle.desk_reasons.specs.declared.reasons.ShapeReason.TheVariants as shapes
use Rattle.desk_reasons.specs.declared.reasons.NumberReason.{NumberReason}
use Rattle.desk_reasons.specs.declared.reasons.NumberReason.TheVariants as numbers
use Rattle.desk_reasons.specs.declared.reasons.CurrencyReason.{CurrencyReason}
use Rattle.desk_reasons.specs.declared.reasons.CurrencyReason.TheVariants as currencies
use Rattle.desk_reasons.specs.declared.reasons.AmountReason.{AmountReason}
use Rattle.desk_reasons.specs.declared.reasons.AmountReason.TheVariants as amounts
use Rattle.desk_reasons.specs.declared.reasons.KindReason.{KindReason}
use Rattle.desk_reasons.specs.declared.reasons.KindReason.TheVariants as kinds
use Rattle.desk_reasons.specs.declared.reasons.QuantityReason.{QuantityReason}
use Rattle.desk_reasons.specs.declared.reasons.QuantityReason.TheVariants as quantities
use Rattle.desk_codes.specs.declared.fault.CodeFault.{CodeFault}
use Rattle.desk_codes.specs.declared.fault.CodeFault.TheVariants as faults
use Rattle.desk_reasons.specs.declared.reasons.SecurityReason.{SecurityReason}
use Rattle.desk_reasons.specs.declared.reasons.SecurityReason.TheVariants as securities
use Rattle.desk_reasons.specs.declared.reasons.PartyReason.{PartyReason}
use Rattle.desk_reasons.specs.declared.reasons.PartyReason.TheVariants as parties
use Rattle.desk_reasons.specs.declared.reasons.DayReason.{DayReason}
use Rattle.desk_reasons.specs.declared.reasons.DayReason.TheVariants as days
use Rattle.desk_reasons.specs.declared.reasons.AccountReason.{AccountReason}
use Rattle.desk_reasons.specs.declared.reasons.AccountReason.TheVariants as accounts
use Rattle.desk_reasons.specs.declared.reasons.ReferenceReason.{ReferenceReason}
use Rattle.desk_reasons.specs.declared.reasons.ReferenceReason.TheVariants as references
use Rattle.desk_reasons.specs.declared.reasons.SettlementReason.{SettlementReason}
use Rattle.desk_reasons.specs.declared.reasons.SettlementReason.TheVariants as settlements
use Rattle.desk_reasons.specs.declared.reasons.FunctionReason.{FunctionReason}
use Rattle.desk_reasons.specs.declared.reasons.FunctionReason.TheVariants as functions
use Rattle.desk_reasons.specs.declared.reasons.ValueReason.{ValueReason}
use Rattle.desk_reasons.specs.declared.reasons.ValueReason.TheVariants as values
use Rattle.desk_reasons.specs.declared.reasons.Reason.{Reason}
use Rattle.desk_reasons.specs.declared.reasons.Reason.TheVariants as reasons

-- a byte by its name, where it has one, and before its two digits
abbrev pub byte_words : ℕ → List ℕ
byte_words byte =
    if byte == 9 then codes "here stands a tab, the byte 0x"
    else if byte == 13 then codes "here stands a carriage return without line feed, the byte 0x"
    else codes "here stands the byte 0x"

abbrev pub block_words : BlockReason → List ℕ
block_words blocks.Empty = codes "the text is empty"
block_words blocks.ByteOrderMark = codes "the text begins with a byte order mark"
block_words blocks.EarlierBlock = codes "the text begins with a block 1, 2 or 3"
block_words blocks.ReturnAlone = codes "a carriage return without line feed stands behind {4:"
block_words blocks.NoLineFeed = codes "the text has no line feed"
block_words blocks.FirstLine = codes "the first line is not {4:"
block_words blocks.CutOff = codes "the text ends before its -}"

abbrev pub line_words : LineReason → List ℕ
line_words (lines.Byte more byte) = byte_words byte
line_words lines.Trailer = codes "a block 5 begins here"
line_words lines.BehindEnd = codes "something stands behind -}"
line_words lines.Hyphen = codes "the line begins with a hyphen"
line_words lines.Name = codes "the name of the sequence is not 1 to 16 capitals or digits"
line_words lines.LowerCaseTag = codes "the letter of the tag is in lower case"
line_words lines.Tag = codes "no tag of two digits and a letter stands between the first two colons"
line_words lines.Blank = codes "the line is empty, and no value goes on here"
line_words lines.NoValue = codes "no value goes on here"
line_words lines.Other = codes "the line may not stand here"

abbrev pub nesting_words : NestingReason → List ℕ
nesting_words nestings.TooMany = codes "more than 16 sequences would be open"
nesting_words nestings.NoneOpen = codes "no sequence is open here"
nesting_words (nestings.OtherOpen more) = codes "the sequence to be closed here is that of line "
nesting_words (nestings.StillOpen more) = codes "a sequence is still open, that of line "

abbrev pub missing_words : MissingReason → List ℕ
missing_words (missings.OtherOption more) = codes "it stands here with an option that is not read: "
missing_words missings.OneColon = codes "one colon stands before its qualifier, where two must"
missing_words missings.LowerCaseQualifier = codes "its qualifier has a letter in lower case"
missing_words missings.OtherSequence = codes "it stands here, and not in its own sequence"
missing_words missings.Absent = codes "it stands nowhere"

abbrev pub shape_words : ShapeReason → List ℕ
shape_words shapes.Empty = codes "the number is missing"
shape_words shapes.Space = codes "a space stands in the number"
shape_words shapes.Sign = codes "the number has a sign"
shape_words shapes.Point = codes "a point stands in the number, and no comma"
shape_words shapes.Thousands = codes "a point stands in the number, and a comma too"
shape_words shapes.NotDigit = codes "a character of the number is neither digit nor comma"
shape_words shapes.NoComma = codes "the number has no comma"
shape_words shapes.NoWhole = codes "the number begins with a comma"
shape_words shapes.TwoCommas = codes "the number has more than one comma"
shape_words shapes.Other = codes "the number does not fit"

abbrev pub number_words : NumberReason → List ℕ
number_words (numbers.Shape reason) = shape_words reason
number_words numbers.TooLong = codes "the number is longer than 15 characters"
number_words (numbers.Decimals more) = codes "the number has too many decimals; the most are "
number_words numbers.Nought = codes "the number is 0"
number_words numbers.Other = codes "the number does not fit"

abbrev pub currency_words : CurrencyReason → List ℕ
currency_words currencies.Negative = codes "N, the sign of a negative amount, stands before the currency"
currency_words currencies.LowerCase = codes "a letter in lower case stands where the currency must"
currency_words currencies.NoCurrency = codes "the amount does not begin with a currency of three letters"
currency_words currencies.Unknown = codes "the currency is none of these:"

abbrev pub amount_words : AmountReason → List ℕ
amount_words (amounts.Currency reason) = currency_words reason
amount_words (amounts.Number reason) = number_words reason

abbrev pub kind_words : KindReason → List ℕ
kind_words kinds.LowerCase = codes "a letter in lower case stands where UNIT or FAMT must"
kind_words kinds.NoSlash = codes "no slash stands directly behind UNIT or FAMT"
kind_words kinds.Unknown = codes "the quantity begins with neither UNIT/ nor FAMT/"

abbrev pub quantity_words : QuantityReason → List ℕ
quantity_words (quantities.Kind reason) = kind_words reason
quantity_words (quantities.Number reason) = number_words reason

abbrev pub isin_words : CodeFault → List ℕ
isin_words faults.Length = codes "not twelve characters stand in the first line behind ISIN and a space"
isin_words faults.Prefix = codes "the ISIN does not begin with two letters"
isin_words faults.Body = codes "the ISIN has a character that is no letter and no digit"
isin_words (faults.Check more) = codes "the check digit of the ISIN should be "
isin_words faults.Shape = codes "the ISIN does not fit"

abbrev pub security_words : SecurityReason → List ℕ
security_words securities.NoIsin = codes "the first line does not begin with ISIN and a space"
security_words securities.LowerCase = codes "a letter in lower case stands in the first line behind ISIN and a space"
security_words (securities.Isin fault) = isin_words fault
security_words securities.Other = codes "the security does not fit"

abbrev pub bic_words : CodeFault → List ℕ
bic_words faults.Length = codes "not 8 or 11 characters stand behind the two slashes"
bic_words faults.Shape = codes "a character of the BIC may not stand in its place"
bic_words fault = codes "the BIC does not fit"

abbrev pub party_words : PartyReason → List ℕ
party_words parties.LowerCase = codes "a letter in lower case stands behind the two slashes"
party_words (parties.Bic fault) = bic_words fault
party_words parties.Other = codes "the party does not fit"

abbrev pub day_words : DayReason → List ℕ
day_words days.NotEightDigits = codes "the day is not eight digits"
day_words days.NotFourteenDigits = codes "the day and the time are not fourteen digits"
day_words days.NoSuchDate = codes "the calendar has no such date"
day_words days.Other = codes "the day does not fit"

abbrev pub account_words : AccountReason → List ℕ
account_words accounts.TooLong = codes "the account is longer than 35 characters"
account_words accounts.Other = codes "the account does not fit"

abbrev pub reference_words : ReferenceReason → List ℕ
reference_words references.TooLong = codes "the reference is longer than 16 characters"
reference_words references.SlashFirst = codes "the reference begins with a slash"
reference_words references.SlashLast = codes "the reference ends with a slash"
reference_words references.TwoSlashes = codes "two slashes stand together in the reference"
reference_words references.Other = codes "the reference does not fit"

abbrev pub settlement_words : SettlementReason → List ℕ
settlement_words settlements.LowerCase = codes "a letter in lower case stands behind SETR"
settlement_words settlements.NoSlash = codes "one slash stands behind SETR, where two must"
settlement_words settlements.Other = codes "its form is neither //TRAD nor /ISSUER/TRAD, with one to eight capitals or digits for ISSUER and four for TRAD"

abbrev pub function_words : FunctionReason → List ℕ
function_words functions.LowerCase = codes "a letter in lower case stands in the value"
function_words functions.Other = codes "the function has not the form NEWM or NEWM/CODE"

abbrev pub value_words : ValueReason → List ℕ
value_words values.SecondLine = codes "the value has a second line"
value_words values.OneSlash = codes "two slashes must stand behind the qualifier"
value_words values.Empty = codes "the value is empty"
value_words (values.Function reason) = function_words reason
value_words (values.Reference reason) = reference_words reason
value_words (values.Day reason) = day_words reason
value_words (values.Security reason) = security_words reason
value_words (values.Quantity reason) = quantity_words reason
value_words (values.Account reason) = account_words reason
value_words (values.Settlement reason) = settlement_words reason
value_words (values.Party reason) = party_words reason
value_words (values.Amount reason) = amount_words reason
value_words values.Other = codes "the value does not fit"

abbrev pub front_words : Reason → List ℕ
front_words (reasons.Block reason) = block_words reason
front_words (reasons.Line reason) = line_words reason
front_words (reasons.Nesting reason) = nesting_words reason
front_words reasons.TooLong = codes "the text has more than 65,536 bytes"
front_words (reasons.Missing reason) = missing_words reason
front_words (reasons.Repeated more) = codes "it stands here too, first in line "
front_words (reasons.Value reason) = value_words reason
front_words reasons.OtherFunction = codes "the function is neither NEWM nor CANC"

-- one of the sixteen digits
abbrev pub hex_digit : ℕ → ℕ
hex_digit n = get_or (codes "0123456789ABCDEF") n 0

-- the two digits of a byte
abbrev pub hex_digits : ℕ → List ℕ
hex_digits byte = hex_digit (byte / 16) ∷ hex_digit (byte % 16) ∷ []

-- what a line's byte and column add
abbrev pub byte_tail : ℕ → ℕ → List ℕ
byte_tail column byte = hex_digits byte ++ (codes ", in column " ++ decimal column)

-- all currencies of the desk
abbrev pub known_currencies : List ℕ
known_currencies = flat_map (λ ccy. codes " " ++ letters_of ccy) CURRENCIES

abbrev pub number_tail : NumberReason → List ℕ
number_tail (numbers.Decimals most) = decimal most
number_tail reason = []

abbrev pub amount_tail : AmountReason → List ℕ
amount_tail (amounts.Currency currencies.Unknown) = known_currencies
amount_tail (amounts.Number reason) = number_tail reason
amount_tail reason = []

abbrev pub quantity_tail : QuantityReason → List ℕ
quantity_tail (quantities.Number reason) = number_tail reason
quantity_tail reason = []

abbrev pub security_tail : SecurityReason → List ℕ
security_tail (securities.Isin (faults.Check digit)) = decimal digit
security_tail reason = []

abbrev pub value_tail : ValueReason → List ℕ
value_tail (values.Amount reason) = amount_tail reason
value_tail (values.Quantity reason) = quantity_tail reason
value_tail (values.Security reason) = security_tail reason
value_tail reason = []

abbrev pub nesting_tail : NestingReason → List ℕ
nesting_tail (nestings.OtherOpen line) = decimal line
nesting_tail (nestings.StillOpen line) = decimal line
nesting_tail reason = []

-- what a reason has of the text, behind its words
abbrev pub tail_words : Reason → List ℕ
tail_words (reasons.Line (lines.Byte column byte)) = byte_tail column byte
tail_words (reasons.Nesting reason) = nesting_tail reason
tail_words (reasons.Missing (missings.OtherOption letter)) = letter ∷ []
tail_words (reasons.Repeated line) = decimal line
tail_words (reasons.Value reason) = value_tail reason
tail_words reason = []

-- all words of a reason
abbrev pub words_of : Reason → List ℕ
words_of reason = front_words reason ++ tail_words reason
