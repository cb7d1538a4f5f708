-- What a shown row says, column by column.
use Rattle.std.specs.Prelude.{◌≡◌, ℕ, ◌+◌, pos, List, [], Option, Some, None}
use Rattle.sqlite.specs.declared.types.Value.TheVariants.{Int, Text as Words}
use Rattle.sqlite.specs.Order.{Row, column}
use Rattle.desk_codes.specs.Currency.{letters_of}
use Rattle.desk_msg.specs.declared.instruction.Cash.{Cash}
use Rattle.desk_msg.specs.declared.instruction.Instruction.{Instruction}
use Rattle.desk_msg.specs.MessageType.{number_of_type}
use Rattle.desk_msg.specs.Profile.{code_of_kind}
use Rattle.desk_rules.specs.declared.answers.reply.Reply.{Reply}
use Rattle.desk_rules.specs.declared.history.entry.Movement.{Movement}
use Rattle.desk_rules.specs.declared.history.entry.Payment.{Payment}
use Rattle.desk_rules.specs.declared.history.entry.Entry.{Entry}
use Rattle.desk_rules.specs.declared.history.entry.RunRule.{RunRule}
use Rattle.desk_rules.specs.declared.history.entry.Entry.TheVariants.{Participant, Account, Security, Issue, Redeem, PayIn, PayOut, Instruct, Cancel, Run}
use Rattle.sql_entries.specs.declared.places.TheConstants.{SENDER, REFERENCE, BIC, ACCOUNT, ISIN, UNIT, QUANTITY, CURRENCY, AMOUNT, DAY, RULE, MT, SETTLEMENT, PLACE, PREVIOUS}
use Rattle.sql_entries.specs.Columns.{kind_number, number_of_rule}
use Rattle.sql_entries.specs.Entries.{type_value}

pub record SaysMovement (row : Row) (movement : Movement) : Type 0 where
  pub reference : column row REFERENCE ≡ Words movement.reference
  pub account : column row ACCOUNT ≡ Words movement.account
  pub isin : column row ISIN ≡ Words movement.isin
  pub quantity : column row QUANTITY ≡ Int (pos movement.quantity)

pub record SaysPayment (row : Row) (payment : Payment) : Type 0 where
  pub reference : column row REFERENCE ≡ Words payment.reference
  pub bic : column row BIC ≡ Words payment.bic
  pub currency : column row CURRENCY ≡ Words (letters_of payment.ccy)
  pub amount : column row AMOUNT ≡ Int (pos payment.amount)

pub record SaysAmount (row : Row) (cash : Cash) : Type 0 where
  pub currency : column row CURRENCY ≡ Words (letters_of cash.ccy)
  pub amount : column row AMOUNT ≡ Int (pos cash.amount)

abbrev pub SaysCash : Row → Option Cash → Type 0
SaysCash row None = column row CURRENCY ≡ Words []
SaysCash row (Some cash) = SaysAmount row cash

pub record SaysInstruction (row : Row) (instruction : Instruction) : Type 0 where
  pub mt : column row MT ≡ Int (pos (number_of_type instruction.mt))
  pub reference : column row REFERENCE ≡ Words instruction.reference
  pub day : column row DAY ≡ Words instruction.day
  pub isin : column row ISIN ≡ Words instruction.isin
  pub unit : column row UNIT ≡ Words (code_of_kind instruction.kind)
  pub quantity : column row QUANTITY ≡ Int (pos instruction.quantity)
  pub account : column row ACCOUNT ≡ Words instruction.account
  pub settlement : column row SETTLEMENT ≡ Words instruction.settlement
  pub counterparty : column row BIC ≡ Words instruction.counterparty
  pub place : column row PLACE ≡ Words instruction.place
  pub cash : SaysCash row instruction.cash

-- the columns that such an entry uses say it
abbrev pub Says : Row → Entry → Type 0
Says row (Participant reference bic) = (column row REFERENCE ≡ Words reference) × (column row BIC ≡ Words bic)
Says row (Account reference bic account) = (column row REFERENCE ≡ Words reference) × (column row BIC ≡ Words bic) × (column row ACCOUNT ≡ Words account)
Says row (Security reference isin kind) = (column row REFERENCE ≡ Words reference) × (column row ISIN ≡ Words isin) × (column row UNIT ≡ Words (code_of_kind kind))
Says row (Issue movement) = SaysMovement row movement
Says row (Redeem movement) = SaysMovement row movement
Says row (PayIn payment) = SaysPayment row payment
Says row (PayOut payment) = SaysPayment row payment
Says row (Instruct sender instruction) = (column row SENDER ≡ Words sender) × SaysInstruction row instruction
Says row (Cancel sender order) =
    (column row SENDER ≡ Words sender) × (column row MT ≡ Int (pos (number_of_type order.mt))) × (column row REFERENCE ≡ Words order.reference)
    × (column row PREVIOUS ≡ Words order.previous)
Says row (Run reference day rule) = (column row REFERENCE ≡ Words reference) × (column row DAY ≡ Words day) × (column row RULE ≡ Int (pos (number_of_rule rule)))

-- and it is of this kind
pub record SaysOf (kind : ℕ) (row : Row) (entry : Entry) : Type 0 where
  pub kind_is : kind_number entry ≡ kind
  pub says : Says row entry

-- it is a run of a rule, whose reference and day the row says
pub record SaysRun (row : Row) (rule : RunRule) (entry : Entry) : Type 0 where
  pub reference : List ℕ
  pub day : List ℕ
  pub is : entry ≡ Run reference day rule
  pub says_reference : column row REFERENCE ≡ Words reference
  pub says_day : column row DAY ≡ Words day

-- three columns, from a place on, say a reply
pub record SaysReply (row : Row) (at : ℕ) (reply : Reply) : Type 0 where
  pub status : column row at ≡ Int (pos reply.status)
  pub mt : column row (at + 1) ≡ type_value reply.mt
  pub text : column row (at + 2) ≡ Words reply.text
