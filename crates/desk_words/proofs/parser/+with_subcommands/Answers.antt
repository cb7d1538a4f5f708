use Rattle.std.proofs.Common.{◌∙◌}
use Rattle.std.proofs.lemmas.Result.{IfOk-weaker}
use Rattle.desk_words.proofs.ParserLemmas.{first_and_others, no_subcommands, one_subcommand}
use Rattle.desk_words.proofs.parser.+with_subcommands.Goals as goal

pub returns-in-empty : goal.returns-in-empty
returns-in-empty t c = no_subcommands _ c.args.subcommands.now c.in-empty.len_below

pub returns-in_ok-command-in-len1-up : goal.returns-in_ok-command-in-len1-up
returns-in_ok-command-in-len1-up t c =
    let more = one_subcommand _ _ _ _ c.args.subcommands.now c.in_ok-command-in-len1-up.ensures (first_and_others c.args.subcommands.now _ c.in-len1-up.len_at_least) in
    IfOk-weaker c.with_subcommands.result _ _ (λ added is. is ∙ more) c.with_subcommands.ensures
