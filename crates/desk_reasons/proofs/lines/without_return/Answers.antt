use Rattle.std.proofs.Common.{sym}
use Rattle.desk_text.proofs.LinesLemmas.{strip_return-none, strip_return-some, some_length}
use Rattle.desk_reasons.proofs.lines.without_return.Goals as goal

pub returns-then-line-front-eq13 : goal.returns-then-line-front-eq13
returns-then-line-front-eq13 c = strip_return-some c.args.line.now (some_length c.args.line.now (sym c.if-is_empty.ensures)) c.if-line-front-eq13.true

pub returns : goal.returns
returns c = sym (strip_return-none c.args.line.now c.if-line-front-eq13.false)
