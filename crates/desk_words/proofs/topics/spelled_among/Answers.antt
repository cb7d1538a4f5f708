use Rattle.std.proofs.Common.{Bool, rules, tests}
use Rattle.std.proofs.lemmas.Iterator.{YieldsList-from_slice}
use Rattle.std.proofs.lemmas.Iterator.Consumers.{YieldsList-from_copied}
use Rattle.std.proofs.lemmas.Iterator.Search.{find_from_yields_List}
use Rattle.desk_words.specs.Causes.{CauseValue, value_of_cause}
use Rattle.desk_words.specs.Topics.{spells}
use Rattle.desk_words.proofs.TopicLemmas.{found_so}
use Rattle.desk_words.proofs.topics.spelled_among.Goals as goal

pub returns : goal.returns
returns c =
    let test : CauseValue → Bool = λ it. spells it.number c.args.text.now in
    found_so value_of_cause test c.args.causes.now c.find.result
    (find_from_yields_List (λ row. test (value_of_cause row)) _ _ c.find.result c.find.ensures.ran (YieldsList-from_copied (YieldsList-from_slice c.args.causes.now cc)) (λ x b q k. search (rules, tests)))
