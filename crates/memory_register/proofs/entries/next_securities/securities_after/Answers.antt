use Rattle.std.proofs.Common.{Option, None, Some, List, ℕ, ◌≡◌, true, ap, sym, subst, ◌∙◌, arith}
use Rattle.std.specs.BTreeMap.{BTreeMap}
use Rattle.std.specs.Prelude.{IfSome, is_some, not}
use Rattle.memory_rows.proofs.FollowLemmas.{first_row, follows_none, last_row, one_more, one_row}
use Rattle.memory_register.specs.SecurityRows.{IsNextSecurity, Walks}
use Rattle.memory_register.proofs.entries.next_securities.securities_after.Goals as goal

-- a walk that goes on behind the last security
walks_from : (securities : BTreeMap (List ℕ) ℕ) (last : Option (List ℕ)) (es : List (List ℕ × ℕ)) → is_some last ≡ true → IfSome last (λ isin. Walks securities (Some isin) es) → Walks securities last es
walks_from securities None es some walks = absurd (cc)
walks_from securities (Some isin) es some walks = walks

pub loop-count-init : goal.loop-count-init
loop-count-init c =
    let row = one_row (λ before row. Unit {0}) c.args.rows.now c.next_on-last.result c.requires in
    record {
      first = subst (IsNextSecurity c.args.securities.now c.args.above.now) (sym row) (c.next_on-last.ensures.next c.args.securities.now c.args.above.now c.walk_from-walk.ensures);
      further = follows_none _ _;
      last = row;
      walks = c.next_on-last.ensures.behind c.args.securities.now c.args.above.now c.walk_from-walk.ensures;
    }

pub loop-count-preserved : goal.loop-count-preserved
loop-count-preserved c =
    let securities = c.args.securities.now in
    let found = c.next_on-last-in-loop-count.result in
    let here = walks_from securities c.loop-count.last c.loop-count.walk (c.is_none.ensures ∙ ap not c.if-is_none.false) c.loop-count.invariant.walks in
    let next = subst (λ o. IsNextSecurity securities o found) (sym c.loop-count.invariant.last) (c.next_on-last-in-loop-count.ensures.next securities c.loop-count.last here) in
    record {
      first = subst (IsNextSecurity securities c.args.above.now) (sym (first_row (λ before row. Unit {0}) c.loop-count.rows c.loop-count.count found (omega arith) (omega arith))) c.loop-count.invariant.first;
      further = one_more _ c.loop-count.rows c.loop-count.count found (omega arith) (omega arith) c.loop-count.invariant.further next;
      last = last_row (λ before row. Unit {0}) c.loop-count.rows c.loop-count.count found (omega arith) (omega arith);
      walks = c.next_on-last-in-loop-count.ensures.behind securities c.loop-count.last here;
    }
