use Rattle.desk_text.specs.Seen.{found_of}
use Rattle.desk_msg.specs.Profile.{IsSettlementText, settlement_form}
use Rattle.desk_msg.specs.Finding.{row_seen}
use Rattle.desk_msg.proofs.RowLemmas.{text_behind}
use Rattle.desk_msg.proofs.reading.value.SettlementTypeValue.read.Goals as goal

pub returns : goal.returns
returns c =
    text_behind IsSettlementText (row_seen settlement_form c.args.row.now) c.args.row.now.begins.now c.in_ok-text.text.now (found_of c.args.field.now) (λ e. cc) (λ e. cc) (λ y h. h) (λ y h. h)
    c.in_ok-text.ensures c.settlement_of.result c.settlement_of.ensures
