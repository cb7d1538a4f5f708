use Rattle.std.proofs.Common.{◌∙◌, sym}
use Rattle.desk_words.proofs.ReportWords.{told_where_named}
use Rattle.desk_words.proofs.calls.is_told.Goals as goal

pub returns-else-is_empty : goal.returns-else-is_empty
returns-else-is_empty c = c.contains.ensures.value ∙ told_where_named c.args.named.now c.args.part.now (sym c.is_empty.ensures ∙ c.if-is_empty.false)
