use Rattle.std.proofs.Common.{codes, ◌∙◌, ap}
use Rattle.desk_codes.specs.Number.{written_number}
use Rattle.desk_msg.specs.Profile.{code_of_kind}
use Rattle.desk_msg.specs.FieldsText.{named}
use Rattle.desk_msg.proofs.LineLemmas.{line_is, fed_four}
use Rattle.desk_msg.proofs.writing.lines.add_trade.Goals as goal

pub returns : goal.returns
returns c =
    fed_four c.args.text.now.items c.add_line.new.text.items c.add_line-2.new.text.items c.add_line-3.new.text.items c.add_line-4.new.text.items
    (named (codes "reference") c.args.instruction.now.reference) (named (codes "date") c.args.instruction.now.day) (named (codes "isin") c.args.instruction.now.isin) (named (codes "quantity") (named (code_of_kind c.args.instruction.now.kind) (written_number c.args.instruction.now.quantity 0)))
    (line_is c.args.text.now.items c.add_line.new.text.items (codes "reference") c.as_bytes-2.result.now c.args.instruction.now.reference c.in_ok-add_line.ensures c.as_bytes-2.ensures.bytes)
    (line_is c.add_line.new.text.items c.add_line-2.new.text.items (codes "date") c.as_bytes-3.result.now c.args.instruction.now.day c.in_ok-add_line-2.ensures c.as_bytes-3.ensures)
    (line_is c.add_line-2.new.text.items c.add_line-3.new.text.items (codes "isin") c.as_bytes-4.result.now c.args.instruction.now.isin c.in_ok-add_line-3.ensures c.as_bytes-4.ensures.bytes)
    (line_is c.add_line-3.new.text.items c.add_line-4.new.text.items (codes "quantity") c.deref.result.now (named (code_of_kind c.args.instruction.now.kind) (written_number c.args.instruction.now.quantity 0)) c.in_ok-add_line-4.ensures (c.deref.ensures.value ∙ c.in_ok-quantity.ensures ∙ ap (λ z. named z (written_number c.args.instruction.now.quantity 0)) (c.as_bytes.ensures.value ∙ c.as_str-kind.ensures)))
