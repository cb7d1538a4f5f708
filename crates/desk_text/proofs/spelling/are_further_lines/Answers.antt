use Rattle.std.proofs.Common.{sym, ◌∙◌}
use Rattle.desk_text.proofs.LinesLemmas.{value_lines-found, value_lines-last, further_stops, further_goes_on, further_last}
use Rattle.desk_text.proofs.spelling.are_further_lines.Goals as goal

pub returns-then-not-is_further_line : goal.returns-then-not-is_further_line
returns-then-not-is_further_line c =
    further_stops c.loop-line.rest.now c.in-Some.line.now c.in-Some.after.now c.args.lines.now
    (value_lines-found c.loop-line.rest.now c.in-Some.line.now c.in-Some.after.now c.in-Some.ensures.found)
    (sym c.is_further_line.ensures ∙ c.if-not-is_further_line.true)
    c.loop-line.invariant

pub loop-line-preserved : goal.loop-line-preserved
loop-line-preserved c =
    further_goes_on c.loop-line.rest.now c.in-Some.line.now c.in-Some.after.now c.args.lines.now
    (value_lines-found c.loop-line.rest.now c.in-Some.line.now c.in-Some.after.now c.in-Some.ensures.found)
    (sym c.is_further_line.ensures ∙ c.if-not-is_further_line.false)
    c.loop-line.invariant

pub returns : goal.returns
returns c =
    c.is_further_line-2.ensures
    ∙ further_last c.loop-line.rest.now c.args.lines.now (value_lines-last c.loop-line.rest.now c.in_default.ensures.none) c.loop-line.invariant
