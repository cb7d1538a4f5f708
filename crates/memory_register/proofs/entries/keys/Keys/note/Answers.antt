use Rattle.std.proofs.Common.{◌∙◌, ap, sym}
use Rattle.memory_register.specs.Keys.{command_key, message_key}
use Rattle.memory_register.proofs.KeyIndexLemmas.{noted_command, noted_message, on_err, on_ok}
use Rattle.memory_register.proofs.entries.keys.Keys.note.Goals as goal

pub returns-in-Operator-clause-noted : goal.returns-in-Operator-clause-noted
returns-in-Operator-clause-noted c history keys is =
    on_ok c.put_first.result
    (noted_command c.args.self.now history c.args.entry.now c.args.number is c.command_key.result c.put_first.new.numbers (sym c.sender.ensures ∙ c.in-Operator.is) (c.command_key.ensures ∙ ap command_key c.reference-reference.ensures) keys)
    c.put_first.ensures.put

pub returns-in-Operator-clause-err : goal.returns-in-Operator-clause-err
returns-in-Operator-clause-err c history keys =
    on_err c.put_first.result (λ same. record { commands = λ q. same (command_key q) ∙ keys.commands q; messages = keys.messages }) c.put_first.ensures.err

pub returns-in-Participant-clause-noted : goal.returns-in-Participant-clause-noted
returns-in-Participant-clause-noted c history keys is =
    on_ok c.put_first-in-Participant.result
    (noted_message c.args.self.now history c.args.entry.now c.args.number is c.in-Participant.bic c.message_key.result c.put_first-in-Participant.new.numbers (sym c.sender.ensures ∙ c.in-Participant.is)
    (c.message_key.ensures ∙ ap (message_key c.in-Participant.bic) c.reference-reference.ensures) keys)
    c.put_first-in-Participant.ensures.put

pub returns-in-Participant-clause-err : goal.returns-in-Participant-clause-err
returns-in-Participant-clause-err c history keys =
    on_err c.put_first-in-Participant.result (λ same. record { commands = keys.commands; messages = λ b q. same (message_key b q) ∙ keys.messages b q }) c.put_first-in-Participant.ensures.err
