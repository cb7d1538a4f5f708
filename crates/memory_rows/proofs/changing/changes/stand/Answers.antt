use Rattle.std.proofs.Common.{◌≡◌, ◌++◌, ◌∷◌, [], rules}
use Rattle.memory_rows.specs.declared.lists.Change.TheVariants.{Stood}
use Rattle.memory_rows.specs.Lists.{listed}
use Rattle.memory_rows.proofs.ListsLemmas.{before_stood, set_back}
use Rattle.memory_rows.proofs.changing.changes.stand.Goals as goal

pub returns-clause-before : goal.returns-clause-before
returns-clause-before c =
    let logged : c.push.new.self.items ≡ c.args.changes.now.items ++ Stood c.args.index c.index-was.result.now ∷ [] = search rules in
    rw logged (before_stood c.args.changes.now.items (listed c.args.lists.now) c.args.index c.index-was.result.now c.args.standing (set_back c.args.lists.now.standings.items c.args.index c.index-was.result.now c.args.standing c.index-was.ensures))
