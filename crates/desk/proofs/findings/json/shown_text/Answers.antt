use Rattle.std.proofs.Common.{◌∙◌, rules, tests}
use Rattle.std.proofs.lemmas.Iterator.{YieldsList-from_map, YieldsList-from_slice, text_from_collect}
use Rattle.std.proofs.lemmas.Result.{IfOk-weaker}
use Rattle.desk.specs.Finding.{shown}
use Rattle.desk.proofs.FindingDataLemmas.{shown_as_text}
use Rattle.desk.proofs.findings.json.shown_text.Goals as goal

pub returns : goal.returns
returns c =
    IfOk-weaker c.collect.result _ _ (λ told is. is ∙ shown_as_text c.args.text.now)
    (text_from_collect c.collect.result c.collect.ensures.ran (YieldsList-from_map _ shown (YieldsList-from_slice c.args.text.now cc) c.map.ensures.closure (λ x r q k. search (rules, tests))))
