use Rattle.desk_rules.proofs.CancellationFields.{readable_cancellation, cancellation_spelt}
use Rattle.desk_rules.proofs.Readable.{readable_instruction, instruction_spelt, spelt_formed, formed_spelt}
use Rattle.desk_rules.proofs.laws.spelt_are_well_formed.Goals as goal

pub returns-clause-entries : goal.returns-clause-entries
returns-clause-entries c = λ entry. (spelt_formed entry, formed_spelt entry)

pub returns-clause-instructions : goal.returns-clause-instructions
returns-clause-instructions c = λ i. (readable_instruction i, instruction_spelt i)

pub returns-clause-cancellations : goal.returns-clause-cancellations
returns-clause-cancellations c = λ order. (readable_cancellation order, cancellation_spelt order)
