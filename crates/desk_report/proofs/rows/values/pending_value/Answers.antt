use Rattle.std.proofs.Common.{Ok, ap, ◌∙◌}
use Rattle.serde_json.specs.Data.{object}
use Rattle.desk_msg.specs.Profile.{code_of_kind}
use Rattle.desk_msg.specs.StatusText.{code_of_reason}
use Rattle.desk_report.specs.RowData.{amount_data, ccy_data, number_data, or_null, side_data}
use Rattle.desk_report.proofs.ObjectLemmas.{member_told, text_told, value_told}
use Rattle.desk_report.proofs.rows.values.pending_value.Goals as goal

pub returns : goal.returns
returns c =
    let row = c.args.row.now in
    let m1 = value_told _ _ _ _ (Ok c.amount_value.result) (amount_data row.cash) c.amount_value.ensures c.new.ensures c.in_ok-with.ensures in
    let m2 = value_told _ _ _ _ c.ccy_value.result (ccy_data row.cash) c.ccy_value.ensures m1 c.in_ok-with-2.ensures in
    let m3 = text_told _ _ _ _ c.as_str.result.now row.day c.as_str.ensures m2 c.in_ok-text.ensures in
    let m4 = value_told _ _ _ _ c.side_value.result (side_data row.deliverer) c.side_value.ensures m3 c.in_ok-with-3.ensures in
    let m5 = text_told _ _ _ _ c.as_str-2.result.now row.isin c.as_str-2.ensures m4 c.in_ok-text-2.ensures in
    let m6 = text_told _ _ _ _ c.as_str-3.result.now (code_of_kind row.kind) c.as_str-3.ensures m5 c.in_ok-text-3.ensures in
    let m7 = value_told _ _ _ _ (Ok c.optional_number.result) (or_null number_data row.lacking) c.optional_number.ensures m6 c.in_ok-with-4.ensures in
    let m8 = member_told _ _ _ _ (number_data row.quantity) m7 c.in_ok-number.ensures in
    let m9 = text_told _ _ _ _ c.reason_code.result.now (code_of_reason row.reason) c.reason_code.ensures m8 c.in_ok-text-4.ensures in
    let m10 = value_told _ _ _ _ c.side_value-2.result (side_data row.receiver) c.side_value-2.ensures m9 c.in_ok-object.ensures in
    c.into_value.ensures ∙ ap object m10
