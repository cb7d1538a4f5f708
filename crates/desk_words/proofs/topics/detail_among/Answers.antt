use Rattle.std.proofs.Common.{Bool, rules, tests}
use Rattle.std.proofs.lemmas.Iterator.{YieldsList-from_slice}
use Rattle.std.proofs.lemmas.Iterator.Consumers.{YieldsList-from_copied}
use Rattle.std.proofs.lemmas.Iterator.Search.{find_from_yields_List}
use Rattle.std.specs.Str.{bytes_eq}
use Rattle.desk_words.specs.Topics.{DetailValue, value_of_detail}
use Rattle.desk_words.proofs.TopicLemmas.{found_so}
use Rattle.desk_words.proofs.topics.detail_among.Goals as goal

pub returns : goal.returns
returns c =
    let test : DetailValue → Bool = λ it. bytes_eq it.name c.args.name.now in
    found_so value_of_detail test c.args.details.now c.find.result
    (find_from_yields_List (λ row. test (value_of_detail row)) _ _ c.find.result c.find.ensures.ran (YieldsList-from_copied (YieldsList-from_slice c.args.details.now cc)) (λ x b q k. search (rules, tests)))
