use Rattle.std.proofs.Common.{sym, subst}
use Rattle.std.specs.Prelude.{Ok}
use Rattle.desk_msg.specs.declared.mt.Mt.{Mt}
use Rattle.desk_msg.specs.Refused.{ReadsText}
use Rattle.desk_rules.specs.WellFormed.{IsWellFormed}
use Rattle.desk_book.proofs.FormedLemmas.{entry_formed}
use Rattle.desk_book.proofs.requests.task.message_task.Goals as goal

pub returns-in-Ok-clause-task : goal.returns-in-Ok-clause-task
returns-in-Ok-clause-task c =
    let P : Mt → Type 0 = λ mt. ReadsText mt c.args.text.now (Ok c.in-Ok.message) in
    (c.in-Ok.message, subst P c.mt.ensures.is (rw c.in-Ok.is at c.read_instruction_text.ensures), c.entry_of_message.ensures, c.as_bytes.ensures.bic)

pub returns-in-Ok-clause-formed : goal.returns-in-Ok-clause-formed
returns-in-Ok-clause-formed c =
    subst IsWellFormed (sym c.entry_of_message.ensures) (entry_formed c.args.sender c.mt.result c.args.text.now c.in-Ok.message c.as_bytes.ensures.bic (rw c.in-Ok.is at c.read_instruction_text.ensures))
