use Rattle.std.proofs.Common.{take}
use Rattle.serde_json.specs.View.{view}
use Rattle.desk_findings.specs.CommandFaults.{AreInOrder}
use Rattle.desk_findings.proofs.commands.value.first_wrong.Given as goal

abbrev pub invariant-loop-member : goal.invariant-loop-member
invariant-loop-member l = AreInOrder (view l.value) (take l.member-index l.members)
