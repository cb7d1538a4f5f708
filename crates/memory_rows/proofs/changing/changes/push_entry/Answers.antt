use Rattle.std.proofs.Common.{◌≡◌, ◌++◌, ◌∷◌, [], rules}
use Rattle.memory_rows.specs.declared.lists.Change.TheVariants.{Appended}
use Rattle.memory_rows.specs.Lists.{listed}
use Rattle.memory_rows.proofs.ListsLemmas.{before_appended}
use Rattle.memory_rows.proofs.changing.changes.push_entry.Goals as goal

pub returns-clause-before : goal.returns-clause-before
returns-clause-before c =
    let logged : c.push.new.self.items ≡ c.args.changes.now.items ++ Appended ∷ [] = search rules in
    let kept : c.push-2.new.self.items ≡ c.args.lists.now.kept.items ++ c.args.kept ∷ [] = search rules in
    let standings : c.push-3.new.self.items ≡ c.args.lists.now.standings.items ++ c.args.standing ∷ [] = search rules in
    rw (logged, kept, standings) (before_appended c.args.changes.now.items (listed c.args.lists.now) c.args.kept c.args.standing)
