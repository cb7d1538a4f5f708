use Rattle.std.proofs.Common.{◌∙◌, rules, sym, tests}
use Rattle.std.specs.Char.{is_ascii_digit}
use Rattle.std.proofs.lemmas.Iterator.Adapters.{YieldsList-from_bytes}
use Rattle.std.proofs.lemmas.Iterator.Search.{all_from_yields_List}
use Rattle.desk_words.proofs.TopicLemmas.{all_digits, numeral_if}
use Rattle.desk_words.proofs.topics.is_numeral.Goals as goal

pub returns-then-not-is_empty : goal.returns-then-not-is_empty
returns-then-not-is_empty c =
    all_from_yields_List is_ascii_digit _ _ c.all.result c.all.ensures.ran (YieldsList-from_bytes c.args.text.now cc) (λ x b q k. search (rules, tests)) ∙ all_digits c.args.text.now ∙ sym (numeral_if c.args.text.now (sym c.is_empty.ensures ∙ c.if-not-is_empty.true))
