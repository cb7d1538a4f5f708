use Rattle.std.proofs.Common.{◌==◌, rules, tests}
use Rattle.std.proofs.lemmas.Iterator.{YieldsList-from_slice}
use Rattle.std.proofs.lemmas.Iterator.Consumers.{YieldsList-from_copied}
use Rattle.std.proofs.lemmas.Iterator.Search.{find_from_yields_List}
use Rattle.desk_words.specs.Causes.{value_of_cause}
use Rattle.desk_words.proofs.TopicLemmas.{found_so}
use Rattle.desk_words.proofs.causes.cause_in.Goals as goal

pub returns : goal.returns
returns c =
    found_so value_of_cause (λ cause. cause.number == c.args.number) c.args.causes.now c.find.result
    (find_from_yields_List (λ row. (value_of_cause row).number == c.args.number) _ _ c.find.result c.find.ensures.ran (YieldsList-from_copied (YieldsList-from_slice c.args.causes.now cc)) (λ x b q k. search (rules, tests)))
