-- One more byte of white space.
use Rattle.std.proofs.Common.{[], sym, ◌∙◌}
use Rattle.desk_book.proofs.FlatLemmas.{passes_both, space_at}
use Rattle.desk_book.proofs.requests.scanning.behind_spaces.Goals as goal

pub loop-index-preserved : goal.loop-index-preserved
loop-index-preserved c = passes_both [] [] _ _ _ c.loop-index.invariant (space_at c.args.text.now c.loop-index.index c.loop-index-test.true (sym c.is_space.ensures ∙ c.if-not-is_space.false))
