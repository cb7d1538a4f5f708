use Rattle.std.proofs.Common.{refl}
use Rattle.desk_text.specs.Seen.{found_of}
use Rattle.desk_msg.specs.Profile.{IsQuantityText, quantity_form, quantity_said, slashed}
use Rattle.desk_msg.specs.Finding.{row_seen, quantity_itself}
use Rattle.desk_msg.proofs.RowLemmas.{said_behind, says_quantity}
use Rattle.desk_msg.proofs.reading.value.Tuple2KindU64Value.read.Goals as goal

pub returns : goal.returns
returns c =
    said_behind quantity_itself (λ y. quantity_said y.0 y.1) (λ t y. IsQuantityText t y.0 y.1) (row_seen quantity_form c.args.row.now) (slashed c.args.row.now.begins.now) c.in_ok-text.text.now (found_of c.args.field.now) (λ y h. (refl, h)) (λ z h. says_quantity (row_seen quantity_form c.args.row.now) (found_of c.args.field.now) z refl h)
    c.in_ok-text.ensures c.quantity_of.result c.quantity_of.ensures
