use Rattle.std.proofs.Common.{sym, ◌∙◌}
use Rattle.desk_text.proofs.StepLemmas.{after_stops}
use Rattle.desk_text.proofs.reading.only_line_ends.Goals as goal

pub returns : goal.returns
returns c =
    sym c.loop-after.invariant.same
    ∙ after_stops c.loop-after.rest.now c.loop-after.number (sym c.is_empty.ensures ∙ c.if-is_empty.false) c.in_default.ensures.none
