use Rattle.std.proofs.Common.{sym, ◌∙◌, arith, ◌-◌, length}
use Rattle.desk_text.specs.BlockGrammar.{is_printable}
use Rattle.desk_text.proofs.LaneLemmas.{more_pass, some_wrong, last_decides}
use Rattle.desk_text.proofs.scanning.are_printable.Goals as goal

pub returns-then-not-is_printable_at : goal.returns-then-not-is_printable_at
returns-then-not-is_printable_at c =
    sym (some_wrong is_printable c.args.line.now c.loop-at.at 16 (sym c.is_printable_at.ensures ∙ c.if-not-is_printable_at.true))

pub loop-at-preserved : goal.loop-at-preserved
loop-at-preserved c = record {
  within = omega (arith, c.loop-at-test.true);
  front = more_pass is_printable c.args.line.now c.loop-at.at 16 c.loop-at.invariant.front (sym c.is_printable_at.ensures ∙ c.if-not-is_printable_at.false);
}

pub returns : goal.returns
returns c =
    c.is_printable_at-2.ensures
    ∙ last_decides is_printable c.args.line.now c.loop-at.at (length c.args.line.now - 16) 16 (omega (arith, c.loop-at-test.false)) (omega (arith, c.if-line-lt-LANES.false)) c.loop-at.invariant.front
