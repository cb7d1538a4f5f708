use Rattle.std.proofs.Common.{refl}
use Rattle.desk_text.specs.Seen.{found_of}
use Rattle.desk_msg.specs.Profile.{IsAmountText, amount_form, amount_said, slashed}
use Rattle.desk_msg.specs.Finding.{row_seen, amount_of_cash}
use Rattle.desk_msg.proofs.RowLemmas.{said_behind, says_amount}
use Rattle.desk_msg.proofs.reading.value.CashValue.read.Goals as goal

pub returns : goal.returns
returns c =
    said_behind amount_of_cash (λ y. amount_said y.0 y.1) (λ t y. IsAmountText t y.0 y.1) (row_seen amount_form c.args.row.now) (slashed c.args.row.now.begins.now) c.in_ok-text.text.now (found_of c.args.field.now) (λ y h. (refl, h)) (λ z h. says_amount (row_seen amount_form c.args.row.now) (found_of c.args.field.now) z refl h)
    c.in_ok-text.ensures c.amount_of.result c.amount_of.ensures
