use Rattle.std.proofs.Common.{◌≡◌, map, take}
use Rattle.serde_json.specs.View.{view}
use Rattle.desk.specs.Finding.{refused_by}
use Rattle.desk.specs.FindingData.{refused_data}
use Rattle.desk.proofs.findings.json.refused_values.Given as goal

abbrev pub invariant-loop-explained : goal.invariant-loop-explained
invariant-loop-explained l = map view l.refused.items ≡ map refused_data (map refused_by (take l.explained-index l.findings))
