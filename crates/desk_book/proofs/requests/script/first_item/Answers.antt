-- Skipped lines ask nothing.
use Rattle.std.proofs.Common.{ap, sym, ◌∙◌, []}
use Rattle.desk_book.specs.Lines.{is_skipped}
use Rattle.desk_book.specs.Script.{ended}
use Rattle.desk_book.proofs.ScriptLemmas.{skip_more}
use Rattle.desk_book.proofs.requests.script.first_item.Goals as goal

pub loop-line-preserved : goal.loop-line-preserved
loop-line-preserved c =
    skip_more c.args.script.now c.loop-line.rest.now c.in-Some.line.now c.in-Some.after.now c.loop-line.invariant c.in-Some.ensures.first c.in-Some.ensures.shorter
    (ap is_skipped (sym c.said_by.ensures) ∙ sym c.if-not-is_skipped.ensures)

pub returns-clause-none : goal.returns-clause-none
returns-clause-none c = c.loop-line.invariant.asks [] (rw c.in_default.ensures.none ended)
