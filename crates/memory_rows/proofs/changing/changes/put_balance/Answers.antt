use Rattle.std.proofs.Common.{◌≡◌, ◌++◌, ◌∷◌, [], ap, ◌∙◌, rules}
use Rattle.memory_rows.specs.declared.lists.Change.TheVariants.{Moved}
use Rattle.memory_rows.specs.Lists.{balance_in, listed, undone}
use Rattle.memory_rows.specs.Shifts.{shifted}
use Rattle.memory_rows.proofs.ListsLemmas.{before_moved}
use Rattle.memory_rows.proofs.changing.changes.put_balance.Goals as goal

pub returns-clause-before : goal.returns-clause-before
returns-clause-before c =
    let l = listed c.args.lists.now in
    let changes = c.args.changes.now.items ++ Moved c.args.key c.in_ok-was.was' ∷ [] in
    let logged : c.push.new.self.items ≡ changes = search rules in
    rw logged (ap (undone changes) c.in_ok-was.ensures.put ∙ before_moved c.args.changes.now.items l c.args.key c.in_ok-was.was' (shifted (balance_in l c.args.key) c.args.shift) c.in_ok-was.ensures.was)
