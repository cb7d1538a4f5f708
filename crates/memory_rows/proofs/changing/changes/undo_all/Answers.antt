use Rattle.std.proofs.Common.{◌≡◌, ◌++◌, ◌∷◌, [], ap, sym, ◌∙◌, rules}
use Rattle.memory_rows.specs.Lists.{listed, undone}
use Rattle.memory_rows.proofs.ListsLemmas.{undone-push}
use Rattle.memory_rows.proofs.changing.changes.undo_all.Goals as goal

pub loop-change-preserved : goal.loop-change-preserved
loop-change-preserved c =
    let changes = c.loop-change.changes.items in
    let popped : c.loop-change.changes.items ≡ c.pop.new.self.items ++ c.in-Some.change ∷ [] = search rules in
    rw c.undo.ensures (sym (undone-push c.pop.new.self.items c.in-Some.change (listed c.loop-change.lists)) ∙ ap (λ z. undone z (listed c.loop-change.lists)) (sym popped) ∙ c.loop-change.invariant)
