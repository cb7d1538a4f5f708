use Rattle.std.proofs.Common.{codes}
use Rattle.desk_msg.specs.FieldsText.{named}
use Rattle.desk_msg.proofs.LineLemmas.{line_is, fed_four}
use Rattle.desk_msg.proofs.writing.lines.add_settlement.Goals as goal

pub returns : goal.returns
returns c =
    fed_four c.args.text.now.items c.add_line.new.text.items c.add_line-2.new.text.items c.add_line-3.new.text.items c.add_line-4.new.text.items
    (named (codes "account") c.args.instruction.now.account) (named (codes "settlement") c.args.instruction.now.settlement) (named (codes "place") c.args.instruction.now.place) (named (codes "counterparty") c.args.instruction.now.counterparty)
    (line_is c.args.text.now.items c.add_line.new.text.items (codes "account") c.as_bytes.result.now c.args.instruction.now.account c.in_ok-add_line.ensures c.as_bytes.ensures.bytes)
    (line_is c.add_line.new.text.items c.add_line-2.new.text.items (codes "settlement") c.as_bytes-2.result.now c.args.instruction.now.settlement c.in_ok-add_line-2.ensures c.as_bytes-2.ensures.bytes)
    (line_is c.add_line-2.new.text.items c.add_line-3.new.text.items (codes "place") c.as_bytes-3.result.now c.args.instruction.now.place c.in_ok-add_line-3.ensures c.as_bytes-3.ensures.bytes)
    (line_is c.add_line-3.new.text.items c.add_line-4.new.text.items (codes "counterparty") c.as_bytes-4.result.now c.args.instruction.now.counterparty c.in_ok-add_line-4.ensures c.as_bytes-4.ensures.bytes)
