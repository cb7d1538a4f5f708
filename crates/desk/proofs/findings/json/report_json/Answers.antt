use Rattle.std.proofs.Common.{ap, map, ◌∙◌}
use Rattle.std.proofs.lemmas.Result.{IfOk-weaker}
use Rattle.serde_json.specs.Written.{compact_text, has_float}
use Rattle.desk.specs.Finding.{refused_by}
use Rattle.desk.proofs.FindingDataLemmas.{report_known}
use Rattle.desk.proofs.findings.json.report_json.Goals as goal

pub returns : goal.returns
returns c =
    let is = c.in_ok-report_value.ensures in
    IfOk-weaker c.to_string.result _ _ (λ text written. written (ap has_float is ∙ report_known c.args.requests (map refused_by c.args.findings.now)) ∙ ap compact_text is) c.to_string.ensures.text
