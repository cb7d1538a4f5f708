use Rattle.std.proofs.Common.{◌≡◌, map, take}
use Rattle.std.specs.List.{flat_map}
use Rattle.serde_json.specs.View.{view}
use Rattle.desk.specs.Finding.{refused_by}
use Rattle.desk.specs.FindingData.{count_rows}
use Rattle.desk.proofs.findings.json.count_values.Given as goal

abbrev pub invariant-loop-cause : goal.invariant-loop-cause
invariant-loop-cause l = map view l.counts.items ≡ flat_map (λ cause. count_rows (map refused_by l.findings) cause.0) (take l.cause-index l.causes)
