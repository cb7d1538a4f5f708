use Rattle.std.proofs.Common.{rules, ◌≡◌}
use Rattle.desk_text.specs.Written.{finished}
use Rattle.desk_text.proofs.PartLemmas.{finished-block}
use Rattle.desk_text.proofs.writing.BlockWriter.finish.Goals as goal

pub returns-clause-block : goal.returns-clause-block
returns-clause-block c = λ parts right same.
    let text : c.replace.result.items ≡ finished c.args.self.now.text = search rules in
    finished-block c.replace.result.items c.args.self.now.text parts text right same
