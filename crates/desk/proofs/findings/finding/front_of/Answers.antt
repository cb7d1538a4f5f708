use Rattle.std.proofs.Common.{arith, sym}
use Rattle.std.proofs.lemmas.List.{length-take-le, take_all}
use Rattle.desk.specs.declared.findings.finding.TheConstants.{TOLD}
use Rattle.desk.proofs.findings.finding.front_of.Goals as goal

pub returns-then-text-le-TOLD-clause-front : goal.returns-then-text-le-TOLD-clause-front
returns-then-text-le-TOLD-clause-front c = sym (take_all TOLD c.args.text.now c.if-text-le-TOLD.true)

pub slice_bounds-result-end : goal.slice_bounds-result-end
slice_bounds-result-end c = sym (length-take-le TOLD c.args.text.now (omega (arith, c.if-text-le-TOLD.false)))

pub returns-clause-within : goal.returns-clause-within
returns-clause-within c = omega (arith, length-take-le TOLD c.args.text.now (omega (arith, c.if-text-le-TOLD.false)))
