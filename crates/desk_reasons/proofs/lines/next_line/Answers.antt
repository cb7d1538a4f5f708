use Rattle.std.proofs.Common.{sym}
use Rattle.desk_text.proofs.LinesLemmas.{lines_of-found, lines_of-only}
use Rattle.desk_reasons.proofs.lines.next_line.Goals as goal

pub returns-in-Some-clause-found : goal.returns-in-Some-clause-found
returns-in-Some-clause-found c = rw c.without_return.ensures (lines_of-found c.args.text.now c.in-Some.line.now c.in-Some.rest.now c.in-Some.ensures.found)

pub returns-in-None-clause-found : goal.returns-in-None-clause-found
returns-in-None-clause-found c = lines_of-only c.args.text.now (sym c.if-is_empty.ensures) c.in-None.ensures.none
