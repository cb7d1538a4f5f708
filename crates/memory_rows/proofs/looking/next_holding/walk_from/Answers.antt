use Rattle.std.proofs.Common.{refl}
use Rattle.std.specs.declared.ops.Bound.TheVariants.{Unbounded}
use Rattle.memory_rows.specs.Lists.{listed}
use Rattle.memory_rows.specs.Walk.{start_of}
use Rattle.memory_rows.proofs.HoldingLemmas.{all_filter, all_from, forward, range_recorded, sorted_filter}
use Rattle.memory_rows.proofs.looking.next_holding.walk_from.Goals as goal

pub range-requires : goal.range-requires
range-requires c = rw c.start_of.ensures (forward c.args.account.now c.args.above.now)

pub returns : goal.returns
returns c =
    let at = rw c.start_of.ensures at (c.range.ensures.between tt) in
    record {
      left = all_from (listed c.args.lists.now) c.args.lists.now.floored c.args.account.now c.args.above.now c.args.lists.now.balances.entries c.range.result (λ q. refl) at;
      sorted = rw at (sorted_filter (start_of c.args.account.now c.args.above.now) c.args.lists.now.balances.entries c.range.ensures.ordered);
      from = rw at (all_filter c.args.account.now c.args.above.now c.args.lists.now.balances.entries);
      amounts = range_recorded c.start_of.result Unbounded c.args.lists.now.balances c.range.result c.range.result refl (c.range.ensures.in_range tt);
    }
