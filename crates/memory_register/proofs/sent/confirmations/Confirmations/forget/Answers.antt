use Rattle.std.proofs.Common.{sym}
use Rattle.memory_register.proofs.ConfirmationLemmas.{forgotten, stays}
use Rattle.memory_register.proofs.sent.confirmations.Confirmations.forget.Goals as goal

pub returns-then-is_confirmation : goal.returns-then-is_confirmation
returns-then-is_confirmation c headings are is = forgotten c.args.self.now headings c.args.heading.now c.args.number is c.take_number.new.numbers (sym c.if-is_confirmation.ensures) are c.take_number.ensures

pub returns-else-is_confirmation : goal.returns-else-is_confirmation
returns-else-is_confirmation c headings are is = stays c.args.self.now headings c.args.heading.now c.args.number is (sym c.if-is_confirmation.ensures) are
