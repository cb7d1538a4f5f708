use Rattle.std.proofs.Common.{◌∙◌, ap, sym}
use Rattle.memory_register.specs.Keys.{command_key, message_key}
use Rattle.memory_register.proofs.KeyIndexLemmas.{forgot_command, forgot_message}
use Rattle.memory_register.proofs.entries.keys.Keys.forget.Goals as goal

pub returns-in-Operator : goal.returns-in-Operator
returns-in-Operator c history keys is =
    forgot_command c.args.self.now history c.args.entry.now c.args.number is c.command_key.result c.take_number.new.numbers (sym c.sender.ensures ∙ c.in-Operator.is) (c.command_key.ensures ∙ ap command_key c.reference-reference.ensures) keys c.take_number.ensures

pub returns-in-Participant : goal.returns-in-Participant
returns-in-Participant c history keys is =
    forgot_message c.args.self.now history c.args.entry.now c.args.number is c.in-Participant.bic c.message_key.result c.take_number-in-Participant.new.numbers (sym c.sender.ensures ∙ c.in-Participant.is)
    (c.message_key.ensures ∙ ap (message_key c.in-Participant.bic) c.reference-reference.ensures) keys
    c.take_number-in-Participant.ensures
