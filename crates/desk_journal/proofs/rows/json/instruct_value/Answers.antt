use Rattle.std.proofs.Common.{Ok, ap, codes, ◌∙◌}
use Rattle.serde_json.specs.Data.{object, string}
use Rattle.desk_msg.specs.MessageType.{number_of_type}
use Rattle.desk_msg.specs.Profile.{code_of_kind}
use Rattle.desk_report.specs.RowData.{amount_data, ccy_data, number_data}
use Rattle.desk_report.proofs.ObjectLemmas.{member_told, number_told, text_told, value_told}
use Rattle.desk_journal.proofs.rows.json.instruct_value.Goals as goal

pub returns : goal.returns
returns c =
    let instruction = c.args.instruction.now in
    let m1 = text_told _ _ _ _ c.as_str.result.now instruction.account c.as_str.ensures c.new.ensures c.in_ok-text.ensures in
    let m2 = value_told _ _ _ _ (Ok c.amount_value.result) (amount_data instruction.cash) c.amount_value.ensures m1 c.in_ok-with.ensures in
    let m3 = value_told _ _ _ _ c.ccy_value.result (ccy_data instruction.cash) c.ccy_value.ensures m2 c.in_ok-with-2.ensures in
    let m4 = text_told _ _ _ _ c.as_str-2.result.now instruction.counterparty c.as_str-2.ensures m3 c.in_ok-text-2.ensures in
    let m5 = text_told _ _ _ _ c.as_str-3.result.now instruction.day c.as_str-3.ensures m4 c.in_ok-text-3.ensures in
    let m6 = text_told _ _ _ _ c.as_str-4.result.now instruction.isin c.as_str-4.ensures m5 c.in_ok-text-4.ensures in
    let m7 = text_told _ _ _ _ c.as_str-5.result.now (code_of_kind instruction.kind) c.as_str-5.ensures m6 c.in_ok-text-5.ensures in
    let m8 = number_told _ _ _ _ c.from.result (number_of_type instruction.mt) (c.from.ensures ∙ c.number.ensures) m7 c.in_ok-number.ensures in
    let m9 = member_told _ _ _ _ (string (codes "instruct")) m8 c.in_ok-text-6.ensures in
    let m10 = member_told _ _ _ _ (number_data instruction.quantity) m9 c.in_ok-object.ensures in
    c.into_value.ensures ∙ ap object m10
