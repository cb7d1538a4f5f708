use Rattle.desk_text.proofs.LinesLemmas.{split_three}
use Rattle.desk_text.proofs.lines.split_tag.Goals as goal

pub returns-then-line-eq58-2 : goal.returns-then-line-eq58-2
returns-then-line-eq58-2 c = split_three c.args.line.now c.if-line-lt4.false c.if-line-eq58.false c.if-line-eq58-2.true
