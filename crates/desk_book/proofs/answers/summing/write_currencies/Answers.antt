-- Currency by currency.
use Rattle.std.proofs.Common.{◌≤◌, get_or, length, arith}
use Rattle.desk_codes.specs.declared.currency.Ccy.TheVariants.{Chf}
use Rattle.desk_codes.specs.declared.currency.TheConstants.{CURRENCIES}
use Rattle.desk_codes.proofs.CurrencyLemmas.{stands_at}
use Rattle.desk_book.proofs.SummingLemmas.{cashing_begins, cashing_breaks, cashing_ends, cashing_goes_on}
use Rattle.desk_book.proofs.answers.summing.write_currencies.Goals as goal

pub currencies-init : goal.currencies-init
currencies-init g c = cashing_begins (g.R.Register.view c.args.register.now) (g.W.Write.contents c.args.writer.now)

pub returns-in_err-is_later-clause-written : goal.returns-in_err-is_later-clause-written
returns-in_err-is_later-clause-written g c = λ books honest sure keeps.
    let w = c.in_err-is_later.ensures in
    cashing_breaks (g.R.Register.view c.args.register.now) (g.R.Register.view c.currencies.register) c.currencies.index c.currencies.is_later (g.W.Write.contents c.args.writer.now) (g.W.Write.contents c.currencies.writer)
    c.currencies.invariant (g.R.Register.view c.write_currency.new.register) (g.W.Write.contents c.write_currency.new.writer)
    (get_or CURRENCIES c.currencies.index Chf) c.in_err-is_later.field-0.0 c.from_residual.result books c.from_residual.ensures.1
    w.read.later w.written honest sure keeps

pub currencies-preserved : goal.currencies-preserved
currencies-preserved g c =
    let w = c.in_ok-is_later.ensures in
    cashing_goes_on (g.R.Register.view c.args.register.now) (g.R.Register.view c.currencies.register) c.currencies.index c.currencies.is_later (g.W.Write.contents c.args.writer.now) (g.W.Write.contents c.currencies.writer)
    c.currencies.invariant (g.R.Register.view c.write_currency.new.register) c.in_ok-is_later.is_later (g.W.Write.contents c.write_currency.new.writer) _ (stands_at c.currencies.index _ c.currencies-test.true)
    w.read w.written

pub returns-clause-written : goal.returns-clause-written
returns-clause-written g c = λ books honest sure keeps.
    let all : length CURRENCIES ≤ c.currencies.index = omega arith in
    cashing_ends (g.R.Register.view c.args.register.now) (g.R.Register.view c.currencies.register) c.currencies.index c.currencies.is_later (g.W.Write.contents c.args.writer.now) (g.W.Write.contents c.currencies.writer)
    c.currencies.invariant all honest sure
