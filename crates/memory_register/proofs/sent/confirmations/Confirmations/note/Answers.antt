use Rattle.std.proofs.Common.{sym}
use Rattle.memory_register.proofs.ConfirmationLemmas.{kept, noted}
use Rattle.memory_register.proofs.KeyIndexLemmas.{on_ok}
use Rattle.memory_register.proofs.sent.confirmations.Confirmations.note.Goals as goal

pub returns-then-is_confirmation-clause-noted : goal.returns-then-is_confirmation-clause-noted
returns-then-is_confirmation-clause-noted c headings are is =
    on_ok c.put_first.result (noted c.args.self.now headings c.args.heading.now c.args.number is c.put_first.new.numbers (sym c.if-is_confirmation.ensures) are) c.put_first.ensures.put

pub returns-clause-noted : goal.returns-clause-noted
returns-clause-noted c headings are is = kept c.args.self.now headings c.args.heading.now c.args.number is (sym c.if-is_confirmation.ensures) are
