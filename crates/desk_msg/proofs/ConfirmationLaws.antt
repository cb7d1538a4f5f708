-- The confirmation of an instruction that was read is a block whose fields say what was settled.
use Rattle.std.proofs.Common.{◌≡◌, ℕ, Bool, true, false, if◌then◌else◌, List, [], ◌∷◌, ◌++◌, codes, refl, sym, ◌∙◌, ap, Option, Some, None, Ok, subst, is_some, arith, All, length, ◌<◌, ◌≤◌, ◌^◌}
use Rattle.std.specs.List.{list_all}
use Rattle.std.specs.Option.{ForSome}
use Rattle.desk_codes.specs.Number.{written_number, ReadsNumber}
use Rattle.desk_codes.specs.Currency.{decimals_of}
use Rattle.desk_codes.specs.Day.{IsDay}
use Rattle.desk_codes.specs.Characters.{IsCodeChar}
use Rattle.desk_codes.specs.Reference.{IsReference}
use Rattle.desk_codes.specs.Account.{IsAccount}
use Rattle.desk_codes.specs.CheckDigit.{IsIsin}
use Rattle.desk_codes.specs.Bic.{IsBic}
use Rattle.desk_codes.proofs.BicLemmas.{shape_codes}
use Rattle.desk_codes.proofs.CurrencyLemmas.{few_decimals}
use Rattle.desk_codes.proofs.WrittenSpells.{written_spells}
use Rattle.desk_text.specs.BlockGrammar.{is_printable}
use Rattle.desk_text.specs.Fields.{Found, IsBlock}
use Rattle.desk_text.specs.Lines.{value_lines}
use Rattle.desk_text.specs.Written.{AreParts, fields_written}
use Rattle.desk_text.proofs.LawLemmas.{value-line}
use Rattle.desk_text.proofs.PartLemmas.{parts_block}
use Rattle.desk_msg.specs.declared.mt.Mt.{Mt}
use Rattle.desk_msg.specs.declared.mt.Mt.TheVariants.{Mt540, Mt541, Mt542, Mt543, Mt544, Mt545, Mt546, Mt547}
use Rattle.desk_msg.specs.declared.fault.Word.{Word}
use Rattle.desk_msg.specs.declared.fault.Word.TheVariants.{Field19A}
use Rattle.desk_msg.specs.declared.writing.status.Own.TheVariants.{Sent}
use Rattle.desk_msg.specs.declared.instruction.Cash.{Cash}
use Rattle.desk_msg.specs.declared.instruction.Instruction.{Instruction}
use Rattle.desk_msg.specs.declared.instruction.Message.TheVariants.{New}
use Rattle.desk_msg.specs.MessageType.{is_delivery, is_against_payment}
use Rattle.desk_msg.specs.OwnText.{own_reference}
use Rattle.desk_msg.specs.Profile.{Said, code_of_kind, amount_row, reag_row, deag_row, amount_said}
use Rattle.desk_msg.specs.Reads.{ReadsFields, Gives, GiveAll, cash_said, instruction_said}
use Rattle.desk_msg.specs.ConfirmationText.{confirmation, confirmation_parts, confirming_type}
use Rattle.desk_msg.specs.Confirms.{Confirms, confirmed_of, paid_row, paid_by, paid_said}
use Rattle.desk_msg.proofs.PrintableLemmas.{digits-printable, printable_text}
use Rattle.desk_msg.proofs.ConfirmedTexts.{code_text, day_text, isin_text, party_text, number_back, number_text, amount_printable}
use Rattle.desk_msg.proofs.ConfirmationLemmas.{ArePrintable, IsPrintedCash, quantity_first, party_first, confirmation_right}
use Rattle.desk_msg.proofs.ConfirmedFields.{said_fields, written_are, same_with, amount_text, paid_in, one_paid, party_value, function_given, rela_given, eset_given, security_given, settled_given, safe_given, paid_given}

-- the amount is read back from its written form
abbrev pub IsReadCash : Option Cash → Type 0
IsReadCash None = Unit {0}
IsReadCash (Some cash) = ReadsNumber (written_number cash.amount (decimals_of cash.ccy)) (decimals_of cash.ccy) (Ok cash.amount)

read_cash : (fields : List Found) (against : Bool) (cash : Option Cash) (part : Word → Said) → is_some cash ≡ against → part Field19A ≡ cash_said cash → GiveAll fields (if against then amount_row ∷ [] else []) part → IsReadCash cash
read_cash fields against None part e is all = tt
read_cash fields false (Some cash) part e is all = absurd (let h = e in cc)
read_cash fields true (Some cash) part e is all =
    let given : Gives fields amount_row (amount_said cash.ccy cash.amount) = subst (Gives fields amount_row) is all.0 in
    let text = given.says.1.2 in
    number_back text.0 cash.amount (decimals_of cash.ccy) (few_decimals cash.ccy) text.2

pub printed_cash : (cash : Option Cash) → IsReadCash cash → IsPrintedCash cash
printed_cash None read = tt
printed_cash (Some cash) read = amount_printable cash.ccy (written_number cash.amount (decimals_of cash.ccy)) (number_text cash.amount (decimals_of cash.ccy) read)

party_given : (delivers : Bool) (fields : List Found) (i : Instruction) → Gives fields (if delivers then reag_row else deag_row) (instruction_said i (if delivers then reag_row else deag_row).word) → list_all is_printable i.counterparty ≡ true
party_given true fields i given = party_text given.says.0 i.counterparty given.says.2
party_given false fields i given = party_text given.says.0 i.counterparty given.says.2

paid_lines : (cash : Option Cash) → IsPrintedCash cash → paid_in (λ c. value_lines (amount_text c)) cash ≡ paid_in (λ c. amount_text c ∷ []) cash
paid_lines None p = refl
paid_lines (Some cash) p = ap one_paid (value-line (amount_text cash) p)

-- each value of a confirmation has one line
fields_are : (n : ℕ) (i : Instruction) (day : List ℕ) → ArePrintable i day → IsPrintedCash i.cash → fields_written (confirmation_parts n i day) ≡ said_fields n i day i.cash
fields_are n i day p paid =
    written_are n i day i.cash refl
    ∙ same_with _ _ _ _ _ _ _ _ _ _ _ _ _ _ _ _ _ _
    (value-line (codes ":SEME//" ++ own_reference (Sent n)) (digits-printable 15 n))
    (value-line (codes ":RELA//" ++ i.reference) p.reference)
    (value-line (codes ":ESET//" ++ day) p.day_text)
    (value-line (codes "ISIN " ++ i.isin) p.isin)
    (value-line (codes ":ESTT//" ++ code_of_kind i.kind ++ 47 ∷ written_number i.quantity 0) (quantity_first i.kind (written_number i.quantity 0) p.quantity))
    (value-line (codes ":SAFE//" ++ i.account) p.account)
    (value-line (codes ":SETR//" ++ i.settlement) p.settlement)
    (value-line (party_value i) (party_first (is_delivery i.mt) i.counterparty p.counterparty))
    (paid_lines i.cash paid)

against_same : (mt : Mt) → is_against_payment (confirming_type mt) ≡ is_against_payment mt
against_same Mt540 = refl
against_same Mt541 = refl
against_same Mt542 = refl
against_same Mt543 = refl
against_same Mt544 = refl
against_same Mt545 = refl
against_same Mt546 = refl
against_same Mt547 = refl

paid_same : (cash : Option Cash) → is_some (paid_by cash) ≡ is_some cash
paid_same None = refl
paid_same (Some cash) = refl

paid_all : (n : ℕ) (i : Instruction) (day : List ℕ) (against : Bool) (cash : Option Cash) (part : Word → Said) → is_some cash ≡ against → part Field19A ≡ paid_said (paid_by cash) → IsReadCash cash → GiveAll (said_fields n i day cash) (if against then paid_row ∷ [] else []) part
paid_all n i day false cash part e is read = tt
paid_all n i day true None part e is read = absurd (let h = e in cc)
paid_all n i day true (Some cash) part e is read = (subst (Gives (said_fields n i day (Some cash)) paid_row) (sym is) (paid_given n i day cash read), tt)

-- What a confirmation of an instruction says is read back: its texts are codes, and its numbers are read from their written form.
pub record AreReadBack (i : Instruction) (day : List ℕ) : Type 0 where
  pub reference : IsReference i.reference
  pub is_day : IsDay day
  pub isin : IsIsin i.isin
  pub quantity : ReadsNumber (written_number i.quantity 0) 0 (Ok i.quantity)
  pub account : IsAccount i.account
  pub settlement : All IsCodeChar i.settlement
  pub counterparty : list_all is_printable i.counterparty ≡ true
  pub cash : IsReadCash i.cash

pub are_printed : (i : Instruction) (day : List ℕ) → AreReadBack i day → ArePrintable i day
are_printed i day back = record {
  reference = printable_text i.reference back.reference.printable;
  day_text = day_text day back.is_day;
  isin = isin_text i.isin back.isin;
  quantity = number_text i.quantity 0 back.quantity;
  account = printable_text i.account back.account.printable;
  settlement = code_text i.settlement back.settlement;
  counterparty = back.counterparty;
}

pub parts_right : (n : ℕ) (i : Instruction) (day : List ℕ) → AreReadBack i day → AreParts [] (confirmation_parts n i day)
parts_right n i day back = confirmation_right n i day (are_printed i day back) (printed_cash i.cash back.cash)

-- the text is a block, and its fields say what was settled
pub said_back : (n : ℕ) (i : Instruction) (day : List ℕ) → AreReadBack i day → (said : List Found) × IsBlock (confirmation n i day) said × Confirms (confirming_type i.mt) said (Ok (confirmed_of i day))
unfolding confirmation
said_back n i day back =
    let block = parts_block (confirmation_parts n i day) (parts_right n i day back) in
    let against : is_some i.cash ≡ is_against_payment (confirming_type i.mt) = i.paid ∙ sym (against_same i.mt) in (
      said_fields n i day i.cash,
      subst (IsBlock (confirmation n i day)) (fields_are n i day (are_printed i day back) (printed_cash i.cash back.cash)) block,
      (
        paid_same i.cash ∙ against,
        (
          function_given n i day i.cash,
          (
            rela_given n i day i.cash back.reference,
            (
              eset_given n i day i.cash back.is_day,
              (
                security_given n i day i.cash back.isin,
                (
                  settled_given n i day i.cash back.quantity,
                  (
                    safe_given n i day i.cash back.account,
                    paid_all n i day (is_against_payment (confirming_type i.mt)) i.cash _ against refl back.cash,
                  ),
                ),
              ),
            ),
          ),
        ),
      ),
    )

pub confirms : (n : ℕ) (i : Instruction) (day : List ℕ) (fields : List Found) → ReadsFields i.mt fields (Ok (New i)) → IsDay day → (said : List Found) × IsBlock (confirmation n i day) said × Confirms (confirming_type i.mt) said (Ok (confirmed_of i day))
confirms n i day fields reads is_day =
    let quantity = reads.1.1.1.1.1.0.says.1.2 in
    said_back n i day record {
      reference = reads.1.1.0.says.2.0;
      is_day = is_day;
      isin = reads.1.1.1.1.0.says.3.0;
      quantity = number_back quantity.0 i.quantity 0 (omega arith) quantity.2;
      account = reads.1.1.1.1.1.1.0.says.2.0;
      settlement = reads.1.1.1.1.1.1.1.0.says.2.0.1;
      counterparty = party_given (is_delivery i.mt) fields i reads.1.1.1.1.1.1.1.1.1.0;
      cash = read_cash fields (is_against_payment i.mt) i.cash (instruction_said i) i.paid refl reads.1.1.1.1.1.1.1.1.1.1;
    }

-- a number with a short written form is read back
pub short_number : (value d : ℕ) → value < 2 ^ 64 → d ≤ 3 → 0 < value → length (written_number value d) ≤ 15 → ReadsNumber (written_number value d) d (Ok value)
short_number value d small few some short = (written_spells value d small few, short, some)

-- an amount of its type is read back
pub cash_back : (cash : Option Cash) → ForSome cash (λ c. c.amount < 2 ^ 64) → IsReadCash cash
cash_back None small = tt
cash_back (Some cash) small = short_number cash.amount (decimals_of cash.ccy) (small cash refl) (few_decimals cash.ccy) cash.some cash.short

pub bic_text : (bic : List ℕ) → IsBic bic → list_all is_printable bic ≡ true
bic_text bic is = code_text bic (shape_codes bic is.shaped)
