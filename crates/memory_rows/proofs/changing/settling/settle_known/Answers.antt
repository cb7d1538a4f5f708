use Rattle.std.proofs.Common.{ap, subst, sym, arith}
use Rattle.desk_rules.specs.Content.{CashBalances}
use Rattle.desk_register.specs.Changes.{FitsCash, HasCash}
use Rattle.memory_rows.specs.declared.balance_key.BalanceKey.TheVariants.{Position}
use Rattle.memory_rows.specs.Lists.{listed}
use Rattle.memory_rows.specs.Transfers.{moved_by}
use Rattle.memory_rows.proofs.AppendLemmas.{same_balances}
use Rattle.memory_rows.proofs.SettleLemmas.{same_cash, settled_content, settled_totals}
use Rattle.memory_rows.proofs.changing.settling.settle_known.Goals as goal

pub move_between-requires-clause-held : goal.move_between-requires-clause-held
move_between-requires-clause-held c =
    let t = moved_by c.args.pair.now in
    let covered = c.requires.covered.0 in
    let same = ap (λ b. b (Position t.given t.isin)) (same_balances (listed c.args.lists.now) (listed c.stand_both.new.lists) c.in_ok-stand_both.ensures.rest) in
    rw c.deliverer-from.ensures (omega (arith, same, covered))

pub move_between-requires-clause-fits : goal.move_between-requires-clause-fits
move_between-requires-clause-fits c =
    let t = moved_by c.args.pair.now in
    let fits = c.requires.fits.securities c.requires.covered.0 in
    let same = ap (λ b. b (Position t.taken t.isin)) (same_balances (listed c.args.lists.now) (listed c.stand_both.new.lists) c.in_ok-stand_both.ensures.rest) in
    rw c.receiver-to.ensures (omega (arith, same, fits))

pub pay-requires-clause-held : goal.pay-requires-clause-held
pay-requires-clause-held c =
    let t = moved_by c.args.pair.now in
    let moved = rw (c.deliverer-from.ensures, c.receiver-to.ensures) at c.in_ok-move_between.ensures.moved in
    let same = same_cash (listed c.args.lists.now) (listed c.stand_both.new.lists) (listed c.move_between.new.lists) t.given t.taken t.isin t.quantity c.in_ok-stand_both.ensures.rest moved in
    let Has : CashBalances → Type 0 = λ z. HasCash z t.receiver t.cash in
    rw c.receiver-to.ensures (subst Has (sym same) c.requires.covered.1)

pub pay-requires-clause-fits : goal.pay-requires-clause-fits
pay-requires-clause-fits c =
    let t = moved_by c.args.pair.now in
    let moved = rw (c.deliverer-from.ensures, c.receiver-to.ensures) at c.in_ok-move_between.ensures.moved in
    let same = same_cash (listed c.args.lists.now) (listed c.stand_both.new.lists) (listed c.move_between.new.lists) t.given t.taken t.isin t.quantity c.in_ok-stand_both.ensures.rest moved in
    let Fits : CashBalances → Type 0 = λ z. FitsCash z t.deliverer t.cash in
    rw c.deliverer-from.ensures (subst Fits (sym same) (c.requires.fits.cash c.requires.covered.1))

pub returns-clause-settled : goal.returns-clause-settled
returns-clause-settled c =
    let stood = c.in_ok-stand_both.ensures in
    let moved = c.in_ok-move_between.ensures in
    let paid = c.in_ok-pay.ensures in (
      c.requires.covered.0,
      c.requires.covered.1,
      settled_content (listed c.args.lists.now) (listed c.stand_both.new.lists) (listed c.move_between.new.lists) (listed c.pay.new.lists) (moved_by c.args.pair.now)
          stood.rest moved.rest paid.rest (rw (c.deliverer-from.ensures, c.receiver-to.ensures) at moved.moved) (rw (c.deliverer-from.ensures, c.receiver-to.ensures) at paid.moved) _ stood.stands,
    )

pub returns-clause-rest : goal.returns-clause-rest
returns-clause-rest c =
    let stood = c.in_ok-stand_both.ensures in
    let moved = c.in_ok-move_between.ensures in
    let paid = c.in_ok-pay.ensures in
    settled_totals (listed c.args.lists.now) (listed c.stand_both.new.lists) (listed c.move_between.new.lists) (listed c.pay.new.lists) (moved_by c.args.pair.now)
    stood.rest moved.rest paid.rest (rw (c.deliverer-from.ensures, c.receiver-to.ensures) at moved.moved) (rw (c.deliverer-from.ensures, c.receiver-to.ensures) at paid.moved)
