use Rattle.std.proofs.Common.{◌≡◌, ◌∙◌, ap, ap₂, sym, Some, rules}
use Rattle.std.proofs.lemmas.Int.{to_z-of_z}
use Rattle.clap.specs.declared.builder.value_parser.ValueParser.TheVariants.{Signed}
use mir.Syntax.{w64}
use mir.Val.{SFits}
use Rattle.desk_words.specs.Parser.{named_rule, parser_told}
use Rattle.desk_words.proofs.ParserLemmas.{local_needed, rule_needed, rule_parsed, rule_unparsed}
use Rattle.desk_words.proofs.parser.arg_of.Goals as goal

pub returns-in-Some-clause-rule : goal.returns-in-Some-clause-rule
returns-in-Some-clause-rule c =
    let given = c.value_parser.ensures.given in
    let low : SFits w64 c.in-Some.least = search rules in
    let high : SFits w64 c.in-Some.most = search rules in
    let needed = rule_needed c.named.result c.help.result c.required-arg.result _ _ _ c.named.ensures.rule c.help.ensures c.required-arg.ensures in
    let same : c.value_parser.result.value_parser ≡ parser_told c.args.told.now.range =
    given.1 ∙ ap Some (given.2 ∙ ap₂ Signed (to_z-of_z w64 c.in-Some.least low) (to_z-of_z w64 c.in-Some.most high)) ∙ ap parser_told (sym c.in-Some.is) in
    rule_parsed c.required-arg.result c.value_parser.result c.value_parser.result.value_parser (parser_told c.args.told.now.range) _ c.value_parser.ensures.others same needed

pub returns-in-Some-clause-local : goal.returns-in-Some-clause-local
returns-in-Some-clause-local c =
    ap (λ a. a.global) c.value_parser.ensures.others ∙ local_needed c.named.result c.help.result c.required-arg.result _ _ c.named.ensures.local c.help.ensures c.required-arg.ensures

pub returns-in-None-clause-rule : goal.returns-in-None-clause-rule
returns-in-None-clause-rule c =
    let told = c.args.told.now in
    rule_needed c.named.result c.help.result c.required-arg.result _ _ _ c.named.ensures.rule c.help.ensures c.required-arg.ensures
    ∙ rule_unparsed told.form told.name.now told.is_needed
    ∙ ap (λ r. record (named_rule told.form told.name.now) { required = told.is_needed; parser = parser_told r }) (sym c.in-None.is)

pub returns-in-None-clause-local : goal.returns-in-None-clause-local
returns-in-None-clause-local c = local_needed c.named.result c.help.result c.required-arg.result _ _ c.named.ensures.local c.help.ensures c.required-arg.ensures
