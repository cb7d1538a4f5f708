use Rattle.std.proofs.Common.{◌∙◌, ap}
use Rattle.std.proofs.lemmas.Result.{IfOk-weaker}
use Rattle.clap.specs.Words.{App, app_of, with_subcommand}
use Rattle.desk_words.proofs.parser.with_subcommand.Goals as goal

pub returns : goal.returns
returns c =
    let one = c.in_ok-command_of.ensures in
    IfOk-weaker c.subcommand.result _ _ (λ command added. added.shape one.local ∙ ap (λ (a : App). with_subcommand (app_of c.args.command) a.top) one.app) c.subcommand.ensures
