use Rattle.std.proofs.Common.{rules, tests}
use Rattle.std.proofs.lemmas.Iterator.Consumers.{nth_from_yields_List}
use Rattle.std.proofs.lemmas.Iterator.Splits.{YieldsList-from_slice_split}
use Rattle.desk_journal.specs.Words.{word_at}
use Rattle.desk_journal.proofs.texts.run.word.Goals as goal

-- the parts come out one after another
pub returns : goal.returns
unfolding word_at
returns c = nth_from_yields_List c.nth.result _ c.args.index c.nth.ensures.ran (YieldsList-from_slice_split _ _ c.args.text.now c.split.ensures.rest c.split.ensures.done c.split.ensures.closure (λ x r q k. search (rules, tests)))
