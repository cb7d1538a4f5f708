use Rattle.std.proofs.Common.{◌∙◌, ap, length, map, refl, sym}
use Rattle.std.proofs.lemmas.List.{length-map}
use Rattle.std.specs.Prelude.{Vec}
use Rattle.std.specs.declared.alloc.Global.{Global}
use Rattle.desk.specs.Told.{told_by}
use Rattle.desk.specs.declared.findings.told.Telling.{Telling}
use Rattle.desk.proofs.CheckLemmas.{counted, found_all}
use Rattle.desk.proofs.answers.check.found_in.Goals as goal

pub returns-clause-requests : goal.returns-clause-requests
returns-clause-requests c =
    let count = c.len.ensures ∙ sym c.as_slice.ensures.len ∙ ap length c.as_slice.ensures.value ∙ sym (length-map c.in_ok-told.told.items told_by) in
    counted (λ (v : Vec Telling Global). map told_by v.items) c.args.answers.now c.in_ok-told.told c.told_in.result c.len.result count c.in_ok-told.ensures.value c.told_in.ensures

pub returns-clause-found : goal.returns-clause-found
returns-clause-found c =
    found_all (λ (v : Vec Telling Global). map told_by v.items) c.in_ok-findings.findings.items c.args.script.now c.args.answers.now _ c.in_ok-told.told c.told_in.result c.findings_in.result c.in_ok-findings.findings refl
    (ap (map told_by) c.as_slice.ensures.value) c.in_ok-told.ensures.value c.told_in.ensures c.in_ok-findings.ensures.value c.findings_in.ensures
