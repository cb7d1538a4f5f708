use Rattle.std.proofs.Common.{◌≡◌, ◌∙◌, arith, false, sym, subst, IsTrue}
use Rattle.sqlite.specs.Effect.{Database}
use Rattle.sqlite.specs.Held.{state}
use Rattle.sqlite_trees.specs.Tree.{Trees}
use Rattle.sqlite_trees.specs.View.{IsClean}
use Rattle.sqlite_catalog.specs.Listing.{IsSound}
use Rattle.sql_tables.specs.Order.{AreInOrder}
use Rattle.desk_file.proofs.ReopenLemmas.{committed_back, committed_stays, in_order, joined_err, joined_ok, not_refused, same_database, trees_back, was_open, whole_is_open}
use Rattle.desk_file.proofs.reopening.reopen.Goals as goal

pub returns-clause-open : goal.returns-clause-open
returns-clause-open g c =
    let s = c.into_store-store.result in
    let v = g.S.Store.view s in
    joined_ok _ _ _ _ c.over.result
    (λ conn opens doubt trees clean.
    let clean_s : IsClean v = omega (arith, clean, doubt) in
    let whole : v.is_broken ≡ false = sym (c.is_broken.ensures clean_s) ∙ c.if-is_broken.false in
    let o = opens clean in
    let order = in_order v.shape v.reals v.trees (state g.S.Store conn).now (g.met.S.Alter.listed s whole) (g.met.S.Store.ordered s whole) (trees clean) (o.1 o.0.is_open).0 in
    record { opens = o.0; order = subst (λ (d : Database). AreInOrder d.schema d.trees) o.0.clean order })
    c.over.ensures.opens c.over.ensures.clean c.over.ensures.trees

pub returns-clause-same : goal.returns-clause-same
returns-clause-same g c =
    let s = c.into_store-store.result in
    let v = g.S.Store.view s in
    let s0 = state g.S.Store c.args.conn in
    let undone = c.into_store-store.ensures.undone in
    joined_ok _ _ _ _ c.over.result
    (λ conn opens doubt trees clean.
    let clean_s : IsClean v = omega (arith, clean, doubt) in
    let whole : v.is_broken ≡ false = sym (c.is_broken.ensures clean_s) ∙ c.if-is_broken.false in
    let now : IsTrue v.is_open = whole_is_open v (g.met.S.Store.broken_if_shut s) whole in
    let o = opens clean in
    let live = c.is_live.ensures (was_open _ v undone clean_s now) in
    let same : (state g.S.Store conn).now.trees ≡ s0.committed.trees = trees clean ∙ trees_back _ v undone clean_s now in
    subst (λ (d : Database). d ≡ s0.committed) o.0.clean (same_database (state g.S.Store conn).now s0.committed (o.1 o.0.is_open).0 live.1 same))
    c.over.ensures.opens c.over.ensures.clean c.over.ensures.trees

pub returns-clause-back : goal.returns-clause-back
returns-clause-back g c =
    let s = c.into_store-store.result in
    let v = g.S.Store.view s in
    let undone = c.into_store-store.ensures.undone in
    joined_err _ _ _ c.over.result
    (λ e quiet rows clean now.
    let clean_s : IsClean v = omega (arith, clean, quiet.clean) in
    let whole : v.is_broken ≡ false = sym (c.is_broken.ensures clean_s) ∙ c.if-is_broken.false in
    let open_s : IsTrue v.is_open = whole_is_open v (g.met.S.Store.broken_if_shut s) whole in
    record {
      trees = rows clean now ∙ trees_back _ v undone clean_s open_s;
      committed = committed_stays g.S.Store.view g.S.Store.faults g.S.Store.recovers g.S.Store.is_shielded s e.1 g.met.S.Store.settled g.met.S.Store.stays quiet open_s now ∙ committed_back _ v undone clean_s open_s;
    })
    c.over.ensures.unharmed c.over.ensures.rows

pub returns-clause-sound : goal.returns-clause-sound
returns-clause-sound g c =
    let s = c.into_store-store.result in
    let v = g.S.Store.view s in
    let s0 = state g.S.Store c.args.conn in
    let undone = c.into_store-store.ensures.undone in
    joined_err _ _ _ c.over.result
    (λ e quiet fails clean.
    let clean_s : IsClean v = omega (arith, clean, quiet.clean) in
    let whole : v.is_broken ≡ false = sym (c.is_broken.ensures clean_s) ∙ c.if-is_broken.false in
    let now : IsTrue v.is_open = whole_is_open v (g.met.S.Store.broken_if_shut s) whole in
    let live = c.is_live.ensures (was_open _ v undone clean_s now) in
    not_refused s0.committed.schema v.trees _ e.0 (subst (λ (t : Trees). IsSound s0.committed.schema t) (sym (trees_back _ v undone clean_s now)) live.1) (fails clean))
    c.over.ensures.unharmed c.over.ensures.err
