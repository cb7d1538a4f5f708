use Rattle.std.proofs.Common.{rules}
use Rattle.desk_text.specs.Lines.{lines_of}
use Rattle.desk_reasons.specs.BlockFaults.{opened_before}
use Rattle.desk_reasons.proofs.BlockLemmas.{opened_step}
use Rattle.desk_reasons.proofs.blocks.opened_before.Goals as goal

pub loop-at-preserved : goal.loop-at-preserved
loop-at-preserved c =
    opened_step c.args.number c.loop-at.at c.loop-at.begun.items c.take_line.new.begun.items (lines_of c.loop-at.rest.now) (lines_of c.in-Some.after.now) c.in-Some.line.now
    (opened_before c.args.number c.args.text.now) (search rules) c.in-Some.ensures.found (search rules) c.loop-at.invariant
