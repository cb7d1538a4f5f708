use Rattle.std.proofs.Common.{◌∙◌, ap, ◌++◌, codes}
use Rattle.desk_msg.specs.FieldsText.{message_text, trade_lines, settlement_lines, cash_lines}
use Rattle.desk_msg.specs.FedLines.{fed}
use Rattle.desk_msg.proofs.LineLemmas.{fed_thrice}
use Rattle.desk_msg.proofs.writing.lines.instruction_text.Goals as goal

pub returns : goal.returns
unfolding message_text
returns c =
    fed_thrice (codes "function NEWM") c.add_trade.new.text.items c.add_settlement.new.text.items c.add_cash.new.text.items
    (trade_lines c.args.instruction.now) (settlement_lines c.args.instruction.now) (cash_lines c.args.instruction.now.cash)
    (c.in_ok-add_trade.ensures ∙ ap (λ z. z ++ fed (trade_lines c.args.instruction.now)) c.in_ok-text.ensures) c.in_ok-add_settlement.ensures c.in_ok-add_cash.ensures
