use Rattle.std.proofs.Common.{rules, append_assoc}
use Rattle.desk_msg.specs.FieldsText.{message_text}
use Rattle.desk_msg.proofs.writing.lines.cancellation_text.Goals as goal

pub returns : goal.returns
unfolding message_text
returns c = search (rules, append_assoc)
