use Rattle.std.proofs.Common.{◌≡◌, length, map, take}
use Rattle.desk.specs.Finding.{shown}
use Rattle.desk.specs.declared.findings.finding.TheConstants.{TOLD}
use Rattle.desk.proofs.findings.finding.shown_front.Given as goal

abbrev pub invariant-loop-index : goal.invariant-loop-index
invariant-loop-index l = record {
  written : take l.index l.text ≡ map shown (take l.index l.front);
  all : length l.text ≡ TOLD;
}
