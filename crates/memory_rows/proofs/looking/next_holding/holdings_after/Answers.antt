use Rattle.std.proofs.Common.{ap, sym, subst, ◌∙◌, arith}
use Rattle.std.specs.Prelude.{not, option_map}
use Rattle.desk_register.specs.Looked.{IsHoldingAfter}
use Rattle.memory_rows.specs.Lists.{content_in, listed}
use Rattle.memory_rows.proofs.FollowLemmas.{first_row, follows_none, last_row, one_more, one_row}
use Rattle.memory_rows.proofs.RowLemmas.{walks_from}
use Rattle.memory_rows.proofs.looking.next_holding.holdings_after.Goals as goal

pub loop-count-init : goal.loop-count-init
loop-count-init c =
    let l = listed c.args.lists.now in
    let row = one_row (λ before row. Unit {0}) c.args.rows.now c.next_on-found.result c.requires in
    record {
      first = subst (IsHoldingAfter (content_in l) c.args.account.now c.args.above.now) (sym row) (c.next_on-found.ensures.first l c.walk_from-walk.ensures);
      further = follows_none _ _;
      last = row;
      walks = c.next_on-found.ensures.behind l c.walk_from-walk.ensures;
    }

pub loop-count-preserved : goal.loop-count-preserved
loop-count-preserved c =
    let l = listed c.args.lists.now in
    let content = content_in l in
    let found = c.next_on-found-in-loop-count.result in
    let here = walks_from l c.args.account.now c.loop-count.found c.isin_of-last.result c.loop-count.walk c.isin_of-last.ensures (c.is_none.ensures ∙ ap not c.if-is_none.false) c.loop-count.invariant.walks in
    let is = c.isin_of-last.ensures ∙ ap (option_map (λ holding. holding.isin)) (sym c.loop-count.invariant.last) in
    let next = subst (λ o. IsHoldingAfter content c.args.account.now o found) is (c.next_on-found-in-loop-count.ensures.first l here) in
    record {
      first = subst (IsHoldingAfter content c.args.account.now c.args.above.now) (sym (first_row (λ before row. Unit {0}) c.loop-count.rows c.loop-count.count found (omega arith) (omega arith))) c.loop-count.invariant.first;
      further = one_more _ c.loop-count.rows c.loop-count.count found (omega arith) (omega arith) c.loop-count.invariant.further next;
      last = last_row (λ before row. Unit {0}) c.loop-count.rows c.loop-count.count found (omega arith) (omega arith);
      walks = c.next_on-found-in-loop-count.ensures.behind l here;
    }
