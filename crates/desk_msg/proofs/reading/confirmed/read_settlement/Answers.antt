-- The first row that fails: those before it give what they say.
use Rattle.std.proofs.Common.{◌≡◌, rules, inl, inr}
use Rattle.std.specs.Prelude.{Err}
use Rattle.desk_msg.proofs.reading.confirmed.read_settlement.Goals as goal

pub returns-in_err-related : goal.returns-in_err-related
returns-in_err-related c =
    let is : c.from_residual.result ≡ Err c.in_err-related.field-0.0 = search rules in
    rw is (inl c.in_err-related.ensures)

pub returns-in_err-day : goal.returns-in_err-day
returns-in_err-day c =
    let is : c.from_residual-in_err-day.result ≡ Err c.in_err-day.field-0.0 = search rules in
    rw is (inr ((_, c.in_ok-related.ensures), inl c.in_err-day.ensures))

pub returns-in_err-isin : goal.returns-in_err-isin
returns-in_err-isin c =
    let is : c.from_residual-in_err-isin.result ≡ Err c.in_err-isin.field-0.0 = search rules in
    rw is (inr ((_, c.in_ok-related.ensures), inr ((_, c.in_ok-day.ensures), inl c.in_err-isin.ensures)))

pub returns-in_err-kind : goal.returns-in_err-kind
returns-in_err-kind c =
    let is : c.from_residual-in_err-kind.result ≡ Err c.in_err-kind.field-0.0 = search rules in
    rw is (inr ((_, c.in_ok-related.ensures), inr ((_, c.in_ok-day.ensures), inr ((_, c.in_ok-isin.ensures), inl c.in_err-kind.ensures))))

pub returns-in_err-account : goal.returns-in_err-account
returns-in_err-account c =
    let is : c.from_residual-in_err-account.result ≡ Err c.in_err-account.field-0.0 = search rules in
    rw is (inr ((_, c.in_ok-related.ensures), inr ((_, c.in_ok-day.ensures), inr ((_, c.in_ok-isin.ensures), inr ((_, c.in_ok-kind.ensures), inl c.in_err-account.ensures)))))

pub returns-in_err-cash : goal.returns-in_err-cash
returns-in_err-cash c =
    let is : c.from_residual-in_err-cash.result ≡ Err c.in_err-cash.field-0.0 = search rules in
    rw is (inr ((_, c.in_ok-related.ensures), inr ((_, c.in_ok-day.ensures), inr ((_, c.in_ok-isin.ensures), inr ((_, c.in_ok-kind.ensures), inr ((_, c.in_ok-account.ensures), rw c.in_err-cash.ensures.0 (inl c.in_err-cash.ensures.1)))))))
