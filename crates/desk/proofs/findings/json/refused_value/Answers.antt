use Rattle.std.proofs.Common.{Ok, ap, ◌∙◌}
use Rattle.serde_json.specs.Data.{object, string}
use Rattle.desk_report.proofs.ObjectLemmas.{member_told, value_told}
use Rattle.desk_report.specs.RowData.{number_data}
use Rattle.desk.specs.Finding.{found_by, front_text, why_by}
use Rattle.desk.specs.FindingData.{answer_text, reference_data, within_data, words_text}
use Rattle.desk.proofs.findings.json.refused_value.Goals as goal

pub returns : goal.returns
returns c =
    let found = found_by c.args.finding.now in
    let why = why_by c.args.reason.now in
    let m1 = value_told _ _ _ _ c.answer_value.result (string (answer_text found.cause.number found.rest)) c.answer_value.ensures c.new.ensures c.in_ok-with.ensures in
    let m2 = member_told _ _ _ _ (number_data found.line) m1 c.in_ok-number.ensures in
    let m3 = value_told _ _ _ _ c.reference_value.result (reference_data found.line why) c.reference_value.ensures m2 c.in_ok-with-2.ensures in
    let m4 = value_told _ _ _ _ c.front_value.result (string (front_text found.said)) c.front_value.ensures m3 c.in_ok-with-3.ensures in
    let m5 = value_told _ _ _ _ c.words_value.result (string (words_text found.cause why)) c.words_value.ensures m4 c.in_ok-with-4.ensures in
    let m6 = value_told _ _ _ _ (Ok c.within_value.result) (within_data found.line why) c.within_value.ensures m5 c.in_ok-object.ensures in
    c.into_value.ensures ∙ ap object m6
