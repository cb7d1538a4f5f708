use Rattle.std.proofs.Common.{Bool, rules, tests}
use Rattle.std.proofs.lemmas.Iterator.{YieldsList-from_slice}
use Rattle.std.proofs.lemmas.Iterator.Consumers.{YieldsList-from_copied}
use Rattle.std.proofs.lemmas.Iterator.Search.{find_from_yields_List}
use Rattle.std.specs.Str.{bytes_eq}
use Rattle.desk_words.specs.Topics.{OtherValue, value_of_other}
use Rattle.desk_words.proofs.TopicLemmas.{found_so}
use Rattle.desk_words.proofs.topics.other_among.Goals as goal

pub returns : goal.returns
returns c =
    let test : OtherValue → Bool = λ it. bytes_eq it.key c.args.text.now in
    found_so value_of_other test c.args.others.now c.find.result
    (find_from_yields_List (λ row. test (value_of_other row)) _ _ c.find.result c.find.ensures.ran (YieldsList-from_copied (YieldsList-from_slice c.args.others.now cc)) (λ x b q k. search (rules, tests)))
