use Rattle.std.proofs.Common.{◌∙◌}
use Rattle.memory_register.proofs.KeyIndexLemmas.{on_err, on_ok}
use Rattle.memory_register.proofs.AddressedLemmas.{noted}
use Rattle.memory_register.proofs.sent.addressed.Addressed.note.Goals as goal

pub returns-clause-noted : goal.returns-clause-noted
returns-clause-noted c headings are is =
    on_ok c.push_number.result (noted c.args.self.now headings c.args.heading.now c.push_number.new.numbers c.args.number is are) c.push_number.ensures.pushed

pub returns-clause-err : goal.returns-clause-err
returns-clause-err c headings are =
    on_err c.push_number.result (λ same. record { numbers = λ b. same b ∙ are.numbers b }) c.push_number.ensures.err
