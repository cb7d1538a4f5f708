-- A currency has totals where any of it was paid in.
use Rattle.std.proofs.Common.{ap, ◌∙◌}
use Rattle.desk_register.proofs.ViewLemmas.{idle_goes}
use Rattle.desk_register.specs.Looked.{held_cash_of}
use Rattle.desk_book.proofs.CashLemmas.{totals_none, totals_one}
use Rattle.desk_book.proofs.answers.summing.cash_total.Goals as goal

pub returns-in_default-clause-total : goal.returns-in_default-clause-total
returns-in_default-clause-total g c = λ honest sure.
    totals_none (g.R.Register.view c.args.register.now).content c.args.ccy (rw c.in_default.is at (c.in_ok-net.ensures.value honest sure (idle_goes _ c.requires.stage)))

pub returns-clause-total : goal.returns-clause-total
returns-clause-total g c = λ honest sure.
    let first = c.in_ok-net.ensures in
    let second = c.in_ok-held.ensures in
    let honest1 = second.read.later.honest honest in
    let sure1 = first.read.ok.sure honest1 sure in
    let net = rw c.in-Some.is at (first.value honest1 sure (idle_goes _ c.requires.stage)) in
    let held = second.value honest sure1 (idle_goes _ (first.read.ok.stage ∙ c.requires.stage)) in
    totals_one (g.R.Register.view c.args.register.now).content c.args.ccy c.in-Some.net c.in_ok-held.held net
    (held ∙ ap (λ z. held_cash_of z c.args.ccy) (first.read.same honest1 sure))
