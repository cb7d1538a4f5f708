use Rattle.std.proofs.Common.{◌<◌, arith, length}
use Rattle.std.proofs.lemmas.List.{length-set}
use Rattle.std.specs.declared.ops.Bound.TheVariants.{Included, Unbounded}
use Rattle.memory_rows.specs.declared.balance_key.BalanceKey.TheVariants.{Outstanding}
use Rattle.memory_rows.specs.Lists.{listed}
use Rattle.memory_rows.proofs.HoldingLemmas.{first_recorded, range_recorded, recorded_behind}
use Rattle.memory_rows.proofs.RowLemmas.{one_more_outstanding, recorded_outstanding}
use Rattle.memory_rows.proofs.looking.totals.totals_from.Goals as goal

pub loop-key-init : goal.loop-key-init
loop-key-init c = record {
  within = omega arith;
  rows = record { each = λ k below. absurd (omega arith) };
  amounts = range_recorded (Included (Outstanding c.args.isin.now)) Unbounded c.args.lists.now.balances _ _ c.into_iter-key-iterator.ensures.into_iter_gives (c.range-key-items.ensures.in_range tt);
}

pub loop-key-preserved : goal.loop-key-preserved
loop-key-preserved c =
    let l = listed c.args.lists.now in
    let recorded = first_recorded l.balances c.in-Some.key.now c.in-Some.amount.now c.loop-key.key-iterator c.next.new.self c.in-Some.ensures.steps c.loop-key.invariant.amounts in
    let there : c.loop-key.count < length c.loop-key.rows = omega arith in
    record {
      within = simp length-set (omega arith);
      rows = one_more_outstanding l c.loop-key.rows c.loop-key.count (record { isin = c.in-Outstanding.isin; quantity = c.in-Some.amount.now }) there
          (recorded_outstanding l c.in-Some.key.now c.in-Some.amount.now c.in-Outstanding.isin c.in-Outstanding.is recorded) c.loop-key.invariant.rows;
      amounts = recorded_behind l.balances c.in-Some.key.now c.in-Some.amount.now c.loop-key.key-iterator c.next.new.self c.in-Some.ensures.steps c.loop-key.invariant.amounts;
    }
