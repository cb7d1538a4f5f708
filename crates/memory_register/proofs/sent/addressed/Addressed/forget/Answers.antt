use Rattle.memory_register.proofs.AddressedLemmas.{forgotten}
use Rattle.memory_register.proofs.sent.addressed.Addressed.forget.Goals as goal

pub returns : goal.returns
returns c headings are = forgotten c.args.self.now headings c.args.heading.now c.pop_number.new.numbers are c.pop_number.ensures
