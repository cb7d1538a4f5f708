-- What the columns of the table `register` say of an entry. A column that an entry does not use is empty, or 0.
use Rattle.std.specs.Prelude.{ℕ, List, []}
use Rattle.desk_codes.specs.Currency.{letters_of}
use Rattle.desk_msg.specs.MessageType.{number_of_type}
use Rattle.desk_msg.specs.Profile.{code_of_kind}
use Rattle.desk_rules.specs.declared.history.entry.Sender.{Sender}
use Rattle.desk_rules.specs.declared.history.entry.Sender.TheVariants.{Operator, Participant as FromParticipant}
use Rattle.desk_rules.specs.declared.history.entry.RunRule.{RunRule}
use Rattle.desk_rules.specs.declared.history.entry.RunRule.TheVariants.{OnePass, Passes}
use Rattle.desk_rules.specs.declared.history.entry.Entry.{Entry}
use Rattle.desk_rules.specs.declared.history.entry.Entry.TheVariants.{Participant, Account, Security, Issue, Redeem, PayIn, PayOut, Instruct, Cancel, Run}
use Rattle.sql_tables.specs.CashColumns.{amount_of, currency_of}

-- who sent it: a participant's BIC, and nothing for the operator
abbrev pub sender_text : Sender → List ℕ
sender_text Operator = []
sender_text (FromParticipant bic) = bic

-- the number of its kind
abbrev pub kind_number : Entry → ℕ
kind_number (Participant reference bic) = 1
kind_number (Account reference bic account) = 2
kind_number (Security reference isin kind) = 3
kind_number (Issue movement) = 4
kind_number (Redeem movement) = 5
kind_number (PayIn payment) = 6
kind_number (PayOut payment) = 7
kind_number (Instruct sender instruction) = 8
kind_number (Cancel sender order) = 9
kind_number (Run reference day rule) = 10

-- what it registers, by which it is looked up
abbrev pub about_of : Entry → List ℕ
about_of (Participant reference bic) = bic
about_of (Account reference bic account) = account
about_of (Security reference isin kind) = isin
about_of entry = []

abbrev pub number_of_rule : RunRule → ℕ
number_of_rule OnePass = 1
number_of_rule Passes = 2

-- the other columns
pub record Columns : Type 0 where
  pub bic : List ℕ
  pub account : List ℕ
  pub isin : List ℕ
  -- the quantity type code
  pub unit : List ℕ
  pub quantity : ℕ
  pub currency : List ℕ
  -- in minor units
  pub amount : ℕ
  pub day : List ℕ
  pub rule : ℕ
  pub mt : ℕ
  pub settlement : List ℕ
  pub place : List ℕ
  -- the reference of the instruction that is cancelled
  pub previous : List ℕ

abbrev pub blank : Columns
blank = record {
  bic = [];
  account = [];
  isin = [];
  unit = [];
  quantity = 0;
  currency = [];
  amount = 0;
  day = [];
  rule = 0;
  mt = 0;
  settlement = [];
  place = [];
  previous = [];
}

abbrev pub columns_of : Entry → Columns
columns_of (Participant reference bic) = record blank { bic = bic }
columns_of (Account reference bic account) = record blank { bic = bic; account = account }
columns_of (Security reference isin kind) = record blank { isin = isin; unit = code_of_kind kind }
columns_of (Issue movement) = record blank { account = movement.account; isin = movement.isin; quantity = movement.quantity }
columns_of (Redeem movement) = record blank { account = movement.account; isin = movement.isin; quantity = movement.quantity }
columns_of (PayIn payment) = record blank { bic = payment.bic; currency = letters_of payment.ccy; amount = payment.amount }
columns_of (PayOut payment) = record blank { bic = payment.bic; currency = letters_of payment.ccy; amount = payment.amount }
columns_of (Instruct sender instruction) = record blank {
  bic = instruction.counterparty;
  account = instruction.account;
  isin = instruction.isin;
  unit = code_of_kind instruction.kind;
  quantity = instruction.quantity;
  currency = currency_of instruction.cash;
  amount = amount_of instruction.cash;
  day = instruction.day;
  mt = number_of_type instruction.mt;
  settlement = instruction.settlement;
  place = instruction.place;
}
columns_of (Cancel sender order) = record blank { mt = number_of_type order.mt; previous = order.previous }
columns_of (Run reference day rule) = record blank { day = day; rule = number_of_rule rule }
