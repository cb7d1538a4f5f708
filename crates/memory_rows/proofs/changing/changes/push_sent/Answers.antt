use Rattle.std.proofs.Common.{◌≡◌, ◌++◌, ◌∷◌, [], rules}
use Rattle.memory_rows.specs.declared.lists.Change.TheVariants.{Sent}
use Rattle.memory_rows.specs.Lists.{listed}
use Rattle.memory_rows.proofs.ListsLemmas.{before_sent}
use Rattle.memory_rows.proofs.changing.changes.push_sent.Goals as goal

pub returns-clause-before : goal.returns-clause-before
returns-clause-before c =
    let logged : c.push.new.self.items ≡ c.args.changes.now.items ++ Sent ∷ [] = search rules in
    let sent : c.push-2.new.self.items ≡ c.args.lists.now.sent.items ++ c.args.message ∷ [] = search rules in
    rw (logged, sent) (before_sent c.args.changes.now.items (listed c.args.lists.now) c.args.message)
