use Rattle.std.proofs.Common.{sym, subst}
use Rattle.std.specs.Prelude.{OnOk}
use Rattle.desk_engine.specs.Applied.{Keeps}
use Rattle.desk_engine.specs.Rebuilt.{HoldsEntries}
use Rattle.desk_engine.proofs.KeptHistoryLemmas.{holds_none}
use Rattle.memory_register.specs.ListsView.{view_of_lists}
use Rattle.desk_tests.proofs.rules.made_anew.goes_on.Goals as goal

pub replay-requires-clause-empty : goal.replay-requires-clause-empty
replay-requires-clause-empty c honest sure = holds_none _ _ c.new-register.ensures.empty

pub rebuild-requires-clause-empty : goal.rebuild-requires-clause-empty
rebuild-requires-clause-empty c honest sure = holds_none _ _ c.new-anew.ensures.empty

pub take_kept-requires-then-branch-clause-keeps : goal.take_kept-requires-then-branch-clause-keeps
take_kept-requires-then-branch-clause-keeps c honest sure =
    let old = view_of_lists c.new-anew.result in
    let new = view_of_lists c.rebuild.new.register in
    let held : HoldsEntries old.room c.deref.result.now new.content =
    subst (λ r. OnOk r (HoldsEntries old.room c.deref.result.now new.content)) c.in_ok-given-2.ensures (c.rebuild.ensures.holds tt tt) in
    record { books = held.holds.books; keeps = subst (λ room. Keeps room held.holds.books new.content) (sym c.rebuild.ensures.later.room) held.holds.keeps }
