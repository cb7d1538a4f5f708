use Rattle.std.proofs.Common.{arith, inl, inr, is_some, sym, ap, ◌∙◌}
use Rattle.std.proofs.lemmas.Bool.{cases_Bool}
use Rattle.std.proofs.lemmas.Result.{err_from_is_err_and}
use Rattle.desk_msg.specs.MessageType.{is_against_payment}
use Rattle.sql_entries.proofs.SpeltLemmas.{cash_read, type_read}
use Rattle.sql_entries.proofs.instruction.instruction_in.Goals as goal

pub returns-in_err-mt-clause-all : goal.returns-in_err-mt-clause-all
returns-in_err-mt-clause-all c i long says spelt = absurd (let e = c.in_err-mt.ensures.all i.mt long says.mt i.instructs in cc)

pub returns-in_err-cash-clause-all : goal.returns-in_err-cash-clause-all
returns-in_err-cash-clause-all c i long says spelt =
    let p = err_from_is_err_and c.from_residual-in_err-cash.result c.from_residual-in_err-cash.ensures.1 in
    rw (p.1, p.2) (c.in_err-cash.ensures.all i.cash long says.cash)

pub returns-then-is_some-is_against_payment-clause-all : goal.returns-then-is_some-is_against_payment-clause-all
returns-then-is_some-is_against_payment-clause-all c i long says spelt =
    let cash = c.is_some.ensures ∙ cash_read c.args.row.now c.in_ok-cash.cash i.cash c.in_ok-cash.ensures.says says.cash in
    let paid = c.is_against_payment.ensures ∙ ap is_against_payment (type_read c.args.row.now c.in_ok-mt.mt i.mt c.in_ok-mt.ensures.says says.mt) ∙ sym i.paid in
    elim (cases_Bool (is_some i.cash)) [
      | inl some ↦ absurd (let e = rw (cash ∙ some, paid ∙ some) at c.if-is_some-is_against_payment.true in cc)
      | inr none ↦ absurd (let e = rw (cash ∙ none, paid ∙ none) at c.if-is_some-is_against_payment.true in cc)
    ]

pub returns-in_err-reference_at-clause-all : goal.returns-in_err-reference_at-clause-all
returns-in_err-reference_at-clause-all c i long says spelt = absurd (let e = c.in_err-reference_at.ensures.all i.reference (omega (arith, long)) says.reference spelt.reference in cc)

pub returns-in_err-day_at-clause-all : goal.returns-in_err-day_at-clause-all
returns-in_err-day_at-clause-all c i long says spelt = absurd (let e = c.in_err-day_at.ensures.all i.day (omega (arith, long)) says.day spelt.day in cc)

pub returns-in_err-isin_at-clause-all : goal.returns-in_err-isin_at-clause-all
returns-in_err-isin_at-clause-all c i long says spelt = absurd (let e = c.in_err-isin_at.ensures.all i.isin (omega (arith, long)) says.isin spelt.isin in cc)

pub returns-in_err-kind_at-clause-all : goal.returns-in_err-kind_at-clause-all
returns-in_err-kind_at-clause-all c i long says spelt = absurd (let e = c.in_err-kind_at.ensures.all i.kind (omega (arith, long)) says.unit in cc)

pub returns-in_err-quantity_in-clause-all : goal.returns-in_err-quantity_in-clause-all
returns-in_err-quantity_in-clause-all c i long says spelt =
    let p = err_from_is_err_and c.from_residual-in_err-quantity_in.result c.from_residual-in_err-quantity_in.ensures.1 in
    rw (p.1, p.2) (c.in_err-quantity_in.ensures.all i.quantity long says.quantity i.some i.short)

pub returns-in_err-account_at-clause-all : goal.returns-in_err-account_at-clause-all
returns-in_err-account_at-clause-all c i long says spelt = absurd (let e = c.in_err-account_at.ensures.all i.account (omega (arith, long)) says.account spelt.account in cc)

pub returns-in_err-settlement_at-clause-all : goal.returns-in_err-settlement_at-clause-all
returns-in_err-settlement_at-clause-all c i long says spelt = absurd (let e = c.in_err-settlement_at.ensures.all i.settlement (omega (arith, long)) says.settlement spelt.settlement in cc)

pub returns-in_err-bic_at-clause-all : goal.returns-in_err-bic_at-clause-all
returns-in_err-bic_at-clause-all c i long says spelt = absurd (let e = c.in_err-bic_at.ensures.all i.counterparty (omega (arith, long)) says.counterparty spelt.counterparty in cc)

pub returns-in_err-bic_at-2-clause-all : goal.returns-in_err-bic_at-2-clause-all
returns-in_err-bic_at-2-clause-all c i long says spelt = absurd (let e = c.in_err-bic_at-2.ensures.all i.place (omega (arith, long)) says.place spelt.place in cc)
