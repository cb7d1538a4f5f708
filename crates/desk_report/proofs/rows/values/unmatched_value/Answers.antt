use Rattle.std.proofs.Common.{Ok, ap, ◌∙◌}
use Rattle.serde_json.specs.Data.{object}
use Rattle.desk_msg.specs.MessageType.{number_of_type}
use Rattle.desk_msg.specs.Profile.{code_of_kind}
use Rattle.desk_report.specs.RowData.{amount_data, ccy_data, nearest_data, number_data, or_null}
use Rattle.desk_report.proofs.ObjectLemmas.{member_told, number_told, text_told, value_told}
use Rattle.desk_report.proofs.rows.values.unmatched_value.Goals as goal

pub returns : goal.returns
returns c =
    let row = c.args.row.now in
    let instruction = row.instructed.instruction in
    let m1 = text_told _ _ _ _ c.as_str.result.now instruction.account c.as_str.ensures c.new.ensures c.in_ok-text.ensures in
    let m2 = value_told _ _ _ _ (Ok c.amount_value.result) (amount_data instruction.cash) c.amount_value.ensures m1 c.in_ok-with.ensures in
    let m3 = text_told _ _ _ _ c.as_str-2.result.now row.instructed.sender c.as_str-2.ensures m2 c.in_ok-text-2.ensures in
    let m4 = value_told _ _ _ _ c.ccy_value.result (ccy_data instruction.cash) c.ccy_value.ensures m3 c.in_ok-with-2.ensures in
    let m5 = text_told _ _ _ _ c.as_str-3.result.now instruction.counterparty c.as_str-3.ensures m4 c.in_ok-text-3.ensures in
    let m6 = text_told _ _ _ _ c.as_str-4.result.now instruction.day c.as_str-4.ensures m5 c.in_ok-text-4.ensures in
    let m7 = text_told _ _ _ _ c.as_str-5.result.now instruction.isin c.as_str-5.ensures m6 c.in_ok-text-5.ensures in
    let m8 = text_told _ _ _ _ c.as_str-6.result.now (code_of_kind instruction.kind) c.as_str-6.ensures m7 c.in_ok-text-6.ensures in
    let m9 = number_told _ _ _ _ c.from.result (number_of_type instruction.mt) (c.from.ensures ∙ c.number.ensures) m8 c.in_ok-number.ensures in
    let m10 = value_told _ _ _ _ c.nearest_value.result (or_null nearest_data row.nearest) c.nearest_value.ensures m9 c.in_ok-with-3.ensures in
    let m11 = member_told _ _ _ _ (number_data row.number) m10 c.in_ok-number-2.ensures in
    let m12 = member_told _ _ _ _ (number_data instruction.quantity) m11 c.in_ok-number-3.ensures in
    let m13 = text_told _ _ _ _ c.as_str-7.result.now instruction.reference c.as_str-7.ensures m12 c.in_ok-object.ensures in
    c.into_value.ensures ∙ ap object m13
