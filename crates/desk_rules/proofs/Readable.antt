-- An entry is well formed exactly where its texts are codes.
use Rattle.std.proofs.Common.{List, Bool, true, false, if◌then◌else◌, refl, lit≤}
use Rattle.desk_codes.specs.Bic.{IsBic}
use Rattle.desk_text.specs.Fields.{Found}
use Rattle.desk_msg.specs.declared.instruction.Instruction.{Instruction}
use Rattle.desk_msg.specs.declared.instruction.Message.TheVariants.{New}
use Rattle.desk_msg.specs.MessageType.{is_against_payment, is_delivery}
use Rattle.desk_msg.specs.Profile.{reag_row, deag_row}
use Rattle.desk_msg.specs.Reads.{Gives, instruction_said}
use Rattle.desk_rules.specs.declared.history.entry.Entry.{Entry}
use Rattle.desk_rules.specs.declared.history.entry.Entry.TheVariants.{Participant, Account, Security, Issue, Redeem, PayIn, PayOut, Instruct, Cancel, Run}
use Rattle.desk_rules.specs.WellFormed.{IsReadable, IsWellFormed}
use Rattle.desk_rules.proofs.WellFormedLemmas.{spelled_bic}
use Rattle.desk_rules.specs.Spelt.{IsInstructionSpelt, IsSpelt}
use Rattle.desk_rules.proofs.CancellationFields.{readable_cancellation, cancellation_spelt}
use Rattle.desk_rules.proofs.InstructionFields.{instructing_fields, function_given, seme_given, date_given, security_given, quantity_given, safe_given, setr_given, pset_given, party_given, payment_given}
use Rattle.desk_rules.proofs.PartLemmas.{number_itself, cash_itself}

-- some fields read as an instruction whose texts are codes
pub readable_instruction : (i : Instruction) → IsInstructionSpelt i → IsReadable i.mt (New i)
readable_instruction i is = (
  instructing_fields (is_delivery i.mt) i i.cash,
  (
    refl,
    (
      function_given (is_delivery i.mt) i i.cash,
      (
        seme_given (is_delivery i.mt) i i.cash is.reference,
        (
          date_given (is_delivery i.mt) i i.cash is.day,
          (
            security_given (is_delivery i.mt) i i.cash is.isin,
            (
              quantity_given (is_delivery i.mt) i i.cash (number_itself i.quantity 0 (lit≤ tt) i.some i.short),
              (
                safe_given (is_delivery i.mt) i i.cash is.account,
                (
                  setr_given (is_delivery i.mt) i i.cash is.settlement,
                  (
                    pset_given (is_delivery i.mt) i i.cash is.place,
                    (
                      party_given (is_delivery i.mt) i i.cash is.counterparty,
                      payment_given (is_delivery i.mt) (is_against_payment i.mt) i i.cash (instruction_said i) i.paid refl (cash_itself i.cash),
                    ),
                  ),
                ),
              ),
            ),
          ),
        ),
      ),
    ),
  ),
)

-- whoever's texts are codes is well formed
pub spelt_formed : (entry : Entry) → IsSpelt entry → IsWellFormed entry
spelt_formed (Participant reference bic) is = is
spelt_formed (Account reference bic account) is = is
spelt_formed (Security reference isin kind) is = is
spelt_formed (Issue movement) is = record { reference = is.reference; account = is.account; isin = is.isin; some = movement.some; within = movement.within }
spelt_formed (Redeem movement) is = record { reference = is.reference; account = is.account; isin = is.isin; some = movement.some; within = movement.within }
spelt_formed (PayIn payment) is = record { reference = is.reference; bic = is.bic; some = payment.some; within = payment.within }
spelt_formed (PayOut payment) is = record { reference = is.reference; bic = is.bic; some = payment.some; within = payment.within }
spelt_formed (Instruct sender i) is = (is.0, readable_instruction i is.1)
spelt_formed (Cancel sender order) is = (is.0, readable_cancellation order (is.1, is.2))
spelt_formed (Run reference day rule) is = is

party_spelt : (delivers : Bool) (fields : List Found) (i : Instruction) → Gives fields (if delivers then reag_row else deag_row) (instruction_said i (if delivers then reag_row else deag_row).word) → IsBic i.counterparty
party_spelt true fields i given = spelled_bic given.says.0 i.counterparty given.says.2
party_spelt false fields i given = spelled_bic given.says.0 i.counterparty given.says.2

-- the texts of an instruction that fields read as are codes
pub instruction_spelt : (i : Instruction) → IsReadable i.mt (New i) → IsInstructionSpelt i
instruction_spelt i (fields, reads) = let all = reads.1 in record {
  reference = all.1.0.says.2.0;
  day = all.1.1.0.says.2.0;
  isin = all.1.1.1.0.says.3.0;
  account = all.1.1.1.1.1.0.says.2.0;
  settlement = all.1.1.1.1.1.1.0.says.2.0;
  place = let party = all.1.1.1.1.1.1.1.0.says in spelled_bic party.0 i.place party.2;
  counterparty = party_spelt (is_delivery i.mt) fields i all.1.1.1.1.1.1.1.1.0;
}

-- and those of whatever is well formed
pub formed_spelt : (entry : Entry) → IsWellFormed entry → IsSpelt entry
formed_spelt (Participant reference bic) is = is
formed_spelt (Account reference bic account) is = is
formed_spelt (Security reference isin kind) is = is
formed_spelt (Issue movement) is = record { reference = is.reference; account = is.account; isin = is.isin }
formed_spelt (Redeem movement) is = record { reference = is.reference; account = is.account; isin = is.isin }
formed_spelt (PayIn payment) is = record { reference = is.reference; bic = is.bic }
formed_spelt (PayOut payment) is = record { reference = is.reference; bic = is.bic }
formed_spelt (Instruct sender i) is = (is.0, instruction_spelt i is.1)
formed_spelt (Cancel sender order) is = let references = cancellation_spelt order is.1 in (is.0, references.0, references.1)
formed_spelt (Run reference day rule) is = is
