-- What a row of `register`, and of `sent`, says.
use Rattle.std.proofs.Common.{◌⊎◌, inl, inr, refl}
use Rattle.std.specs.Prelude.{◌≡◌, ℕ, ℤ, pos, ◌<◌, ◌≤◌, ◌==◌, if◌then◌else◌, List, [], ◌∷◌, length, unwrap_or, bytes_eq, is_some, Bool, true, false, Option, None, Some}
use Rattle.std.specs.List.{find}
use Rattle.std.specs.Int.{w64, cast_unsigned}
use Rattle.std.proofs.lemmas.Bool.{cases_lt}
use Rattle.sqlite_value.specs.Order.{Row, column}
use Rattle.sqlite.specs.declared.types.Value.{Value}
use Rattle.sqlite.specs.declared.types.Value.TheVariants.{Int, Text as Words}
use Rattle.desk_codes.specs.Currency.{ccy_of, decimals_of}
use Rattle.desk_codes.specs.Number.{written_number}
use Rattle.desk_codes.specs.declared.currency.Ccy.{Ccy}
use Rattle.desk_msg.specs.declared.instruction.Cash.{Cash}
use Rattle.desk_msg.specs.declared.instruction.Kind.{Kind}
use Rattle.desk_msg.specs.declared.instruction.Kind.TheVariants.{Unit as Units, FaceAmount}
use Rattle.desk_msg.specs.declared.mt.Mt.{Mt}
use Rattle.desk_msg.specs.declared.mt.Mt.TheVariants.{Mt540, Mt541, Mt542, Mt543, Mt544, Mt545, Mt546, Mt547}
use Rattle.desk_msg.specs.MessageType.{is_against_payment, is_instruction, number_of_type}
use Rattle.desk_msg.specs.Profile.{code_of_kind}
use Rattle.desk_rules.specs.declared.history.entry.Entry.{Entry}
use Rattle.desk_rules.specs.declared.history.entry.Entry.TheVariants.{Participant, Account, Security, Issue, Redeem, PayIn, PayOut, Instruct, Cancel, Run}
use Rattle.desk_rules.specs.declared.history.entry.Movement.{Movement}
use Rattle.desk_rules.specs.declared.history.entry.Payment.{Payment}
use Rattle.desk_rules.specs.declared.history.entry.RunRule.{RunRule}
use Rattle.desk_rules.specs.declared.history.entry.RunRule.TheVariants.{OnePass, Passes}
use Rattle.desk_rules.specs.declared.limits.TheConstants.{MOST_PAID, MOST_QUANTITY}
use Rattle.desk_rules.specs.declared.answers.reply.Kept.{Kept}
use Rattle.desk_rules.specs.declared.answers.reply.Sent.{Sent}
use Rattle.sql_entries.specs.Columns.{number_of_rule}

-- ---- values

abbrev pub text_in : Value → List ℕ
text_in (Words text) = text
text_in _ = []

abbrev pub number_in : Value → ℕ
number_in (Int (pos n)) = n
number_in _ = 0

abbrev pub signed_in : Value → ℤ
signed_in (Int z) = z
signed_in _ = pos 0

-- the message type of a reply, where it is a message
abbrev pub type_in : Value → Option ℕ
type_in (Int (pos n)) = Some n
type_in _ = None

-- ---- codes

-- the first of some things that passes a test, else another one
abbrev pub one_of : {X : Type 0} → X → List X → (X → Bool) → X
one_of other all test = unwrap_or (find test all) other

abbrev pub unit_of : List ℕ → Kind
unit_of code = one_of Units (Units ∷ FaceAmount ∷ []) (λ kind. bytes_eq (code_of_kind kind) code)

abbrev pub type_of : ℕ → Mt
type_of number = one_of Mt540 (Mt540 ∷ Mt541 ∷ Mt542 ∷ Mt543 ∷ Mt544 ∷ Mt545 ∷ Mt546 ∷ Mt547 ∷ []) (λ mt. number_of_type mt == number)

abbrev pub rule_of : ℕ → RunRule
rule_of number = one_of OnePass (OnePass ∷ Passes ∷ []) (λ rule. number_of_rule rule == number)

-- ---- what is made only of what its type allows

-- what is made of a fact, where it is one; else another thing
abbrev pub where_so : {P N X : Type 0} → P ⊎ N → X → (P → X) → X
where_so (inl so) other make = make so
where_so (inr not) other make = other

abbrev pub turned : {P N : Type 0} → P ⊎ N → N ⊎ P
turned (inl p) = inr p
turned (inr n) = inl n

-- a number is not above another, or it is
abbrev pub within : (n most : ℕ) → (n ≤ most) ⊎ (most < n)
within n most = turned (cases_lt most n)

abbrev pub same_or : (a b : Bool) → (a ≡ b) ⊎ Unit {0}
same_or true true = inl refl
same_or true false = inr tt
same_or false true = inr tt
same_or false false = inl refl

-- the entry of a row that says none
abbrev pub no_entry : Entry
no_entry = Run [] [] OnePass

abbrev pub movement_in : (Movement → Entry) → List ℕ → List ℕ → List ℕ → ℕ → Entry
movement_in kind reference account isin quantity =
    where_so (cases_lt 0 quantity) no_entry (λ some. where_so (within quantity MOST_QUANTITY) no_entry
    (λ within. kind (record { reference = reference; account = account; isin = isin; quantity = quantity; some = some; within = within })))

abbrev pub payment_in : (Payment → Entry) → List ℕ → List ℕ → Option Ccy → ℕ → Entry
payment_in kind reference bic None amount = no_entry
payment_in kind reference bic (Some ccy) amount =
    where_so (cases_lt 0 amount) no_entry (λ some. where_so (within amount MOST_PAID) no_entry
    (λ within. kind (record { reference = reference; bic = bic; ccy = ccy; amount = amount; some = some; within = within })))

abbrev pub cash_in : Ccy → ℕ → Option Cash
cash_in ccy amount =
    where_so (cases_lt 0 amount) None (λ some. where_so (within (length (written_number amount (decimals_of ccy))) 15) None
    (λ short. Some (record { ccy = ccy; amount = amount; some = some; short = short })))

-- no currency, no cash
abbrev pub cash_with : Option Ccy → ℕ → Option Cash
cash_with None amount = None
cash_with (Some ccy) amount = cash_in ccy amount

abbrev pub cash_of : List ℕ → ℕ → Option Cash
cash_of letters amount = cash_with (ccy_of letters) amount

-- ---- rows

module _ (row : Row) where
  abbrev text : ℕ → List ℕ
  text place = text_in (column row place)

  abbrev number : ℕ → ℕ
  number place = number_in (column row place)

  abbrev pub instruct_in : Entry
  instruct_in =
      where_so (same_or (is_instruction (type_of (number 15))) true) no_entry (λ instructs. where_so (cases_lt 0 (number 10)) no_entry
      (λ some. where_so (within (length (written_number (number 10) 0)) 15) no_entry
      (λ short. where_so (same_or (is_some (cash_of (text 11) (number 12))) (is_against_payment (type_of (number 15)))) no_entry (λ paid. Instruct (text 2) (record {
        mt = type_of (number 15);
        reference = text 3;
        day = text 13;
        isin = text 8;
        kind = unit_of (text 9);
        quantity = number 10;
        account = text 7;
        settlement = text 16;
        counterparty = text 6;
        place = text 17;
        cash = cash_of (text 11) (number 12);
        instructs = instructs;
        some = some;
        short = short;
        paid = paid;
      })))))

  abbrev pub cancel_in : Entry
  cancel_in = where_so (same_or (is_instruction (type_of (number 15))) true) no_entry
      (λ instructs. Cancel (text 2) (record { mt = type_of (number 15); reference = text 3; previous = text 18; instructs = instructs }))

  -- the entry, by the number of its kind
  abbrev pub entry_in : Entry
  entry_in =
      if number 4 == 1 then Participant (text 3) (text 6)
      else if number 4 == 2 then Account (text 3) (text 6) (text 7)
      else if number 4 == 3 then Security (text 3) (text 8) (unit_of (text 9))
      else if number 4 == 4 then movement_in Issue (text 3) (text 7) (text 8) (number 10)
      else if number 4 == 5 then movement_in Redeem (text 3) (text 7) (text 8) (number 10)
      else if number 4 == 6 then payment_in PayIn (text 3) (text 6) (ccy_of (text 11)) (number 12)
      else if number 4 == 7 then payment_in PayOut (text 3) (text 6) (ccy_of (text 11)) (number 12)
      else if number 4 == 8 then instruct_in
      else if number 4 == 9 then cancel_in
      else Run (text 3) (text 13) (rule_of (number 14))

  abbrev pub kept_in : Kept
  kept_in = record { entry = entry_in; reply = record { status = number 19; mt = type_in (column row 20); text = text 21 } }

  -- what a row of `sent` says
  abbrev pub sent_in : Sent
  sent_in = record { bic = text 2; mt = number 3; about = cast_unsigned w64 (signed_in (column row 4)); text = text 5 }
