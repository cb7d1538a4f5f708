use Rattle.std.proofs.Common.{◌≡◌, ◌++◌, ◌∷◌, [], ap, refl, sym, subst, ◌∙◌, rules}
use Rattle.memory_rows.specs.Lists.{balance_in, listed}
use Rattle.memory_rows.proofs.KeepLemmas.{NoughtsAreMoved, all_moved, kept_amounts, kept_entries, kept_noughts}
use Rattle.memory_rows.specs.Moves.{SameEntries}
use Rattle.memory_rows.proofs.changing.changes.keep_each.Goals as goal

pub loop-change-init : goal.loop-change-init
loop-change-init c = (refl, record { kept = refl; standings = refl; sent = refl }, all_moved (listed c.args.lists.now) c.args.changes.now.items)

pub loop-change-preserved : goal.loop-change-preserved
loop-change-preserved c =
    let popped : c.loop-change.changes.items ≡ c.pop.new.self.items ++ c.in-Some.change ∷ [] = search rules in
    let old = listed c.loop-change.lists in
    let kept = sym c.keep.ensures in
    let change = c.in-Some.change in (
      ap balance_in (sym kept) ∙ kept_amounts change old ∙ c.loop-change.invariant.0,
      subst (SameEntries (listed c.args.lists.now)) kept (kept_entries change (listed c.args.lists.now) old c.loop-change.invariant.1),
      λ lean. subst (λ l. NoughtsAreMoved l c.pop.new.self.items) kept (kept_noughts old c.pop.new.self.items change (subst (NoughtsAreMoved old) popped (c.loop-change.invariant.2 lean))),
    )
