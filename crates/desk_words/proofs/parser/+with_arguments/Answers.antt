use Rattle.std.proofs.Common.{◌∙◌}
use Rattle.std.proofs.lemmas.Result.{IfOk-weaker}
use Rattle.desk_words.proofs.ParserLemmas.{first_and_others, local_kept, no_rules, one_rule}
use Rattle.desk_words.proofs.parser.+with_arguments.Goals as goal

pub returns-in-empty-clause-app : goal.returns-in-empty-clause-app
returns-in-empty-clause-app t c = no_rules _ c.args.arguments.now c.in-empty.len_below

pub returns-in-empty-clause-local : goal.returns-in-empty-clause-local
returns-in-empty-clause-local t c = λ local. local

pub returns-in_ok-command-in-len1-up-clause-app : goal.returns-in_ok-command-in-len1-up-clause-app
returns-in_ok-command-in-len1-up-clause-app t c =
    let one = c.in_ok-command-in-len1-up.ensures in
    let more = one_rule _ _ _ _ _ c.args.arguments.now (one.shape c.arg_of.ensures.local) c.arg_of.ensures.rule (first_and_others c.args.arguments.now _ c.in-len1-up.len_at_least) in
    IfOk-weaker c.with_arguments.result _ _ (λ added is. is ∙ more) c.with_arguments.ensures.app

pub returns-in_ok-command-in-len1-up-clause-local : goal.returns-in_ok-command-in-len1-up-clause-local
returns-in_ok-command-in-len1-up-clause-local t c = λ local. let one = c.in_ok-command-in-len1-up.ensures in c.with_arguments.ensures.local (local_kept _ _ _ one.globals local c.arg_of.ensures.local)
