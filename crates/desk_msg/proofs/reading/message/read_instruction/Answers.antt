use Rattle.std.proofs.Common.{◌≡◌, ◌<◌, ◌^◌, arith, rules, inl, inr}
use Rattle.std.specs.Prelude.{Err}
use Rattle.desk_msg.specs.Profile.{amount_row}
use Rattle.desk_msg.specs.Finding.{found_all}
use Rattle.desk_msg.proofs.MessageLemmas.{paid_exactly, quantity_some, quantity_short}
use Rattle.desk_msg.proofs.reading.message.read_instruction.Goals as goal

pub invariant_of-result : goal.invariant_of-result
invariant_of-result c =
    let small : c.in_ok-kind.quantity < 2 ^ 64 = omega arith in
    record {
      instructs = c.requires;
      some = quantity_some (found_all c.args.fields.now) c.in_ok-kind.kind c.in_ok-kind.quantity c.in_ok-kind.ensures;
      short = quantity_short (found_all c.args.fields.now) c.in_ok-kind.kind c.in_ok-kind.quantity small c.in_ok-kind.ensures;
      paid = paid_exactly c.args.mt (found_all c.args.fields.now) amount_row c.in_ok-cash.cash c.in_ok-cash.ensures;
    }

-- the first row that fails: those before it give what they say
pub returns-in_err-reference : goal.returns-in_err-reference
returns-in_err-reference c =
    let is : c.from_residual.result ≡ Err c.in_err-reference.field-0.0 = search rules in
    rw is (inl c.in_err-reference.ensures)

pub returns-in_err-day : goal.returns-in_err-day
returns-in_err-day c =
    let is : c.from_residual-in_err-day.result ≡ Err c.in_err-day.field-0.0 = search rules in
    rw is (inr ((_, c.in_ok-reference.ensures), inl c.in_err-day.ensures))

pub returns-in_err-isin : goal.returns-in_err-isin
returns-in_err-isin c =
    let is : c.from_residual-in_err-isin.result ≡ Err c.in_err-isin.field-0.0 = search rules in
    rw is (inr ((_, c.in_ok-reference.ensures), inr ((_, c.in_ok-day.ensures), inl c.in_err-isin.ensures)))

pub returns-in_err-kind : goal.returns-in_err-kind
returns-in_err-kind c =
    let is : c.from_residual-in_err-kind.result ≡ Err c.in_err-kind.field-0.0 = search rules in
    rw is (inr ((_, c.in_ok-reference.ensures), inr ((_, c.in_ok-day.ensures), inr ((_, c.in_ok-isin.ensures), inl c.in_err-kind.ensures))))

pub returns-in_err-account : goal.returns-in_err-account
returns-in_err-account c =
    let is : c.from_residual-in_err-account.result ≡ Err c.in_err-account.field-0.0 = search rules in
    rw is (inr ((_, c.in_ok-reference.ensures), inr ((_, c.in_ok-day.ensures), inr ((_, c.in_ok-isin.ensures), inr ((_, c.in_ok-kind.ensures), inl c.in_err-account.ensures)))))

pub returns-in_err-settlement : goal.returns-in_err-settlement
returns-in_err-settlement c =
    let is : c.from_residual-in_err-settlement.result ≡ Err c.in_err-settlement.field-0.0 = search rules in
    rw is (inr ((_, c.in_ok-reference.ensures), inr ((_, c.in_ok-day.ensures), inr ((_, c.in_ok-isin.ensures), inr ((_, c.in_ok-kind.ensures), inr ((_, c.in_ok-account.ensures), inl c.in_err-settlement.ensures))))))

pub returns-in_err-place : goal.returns-in_err-place
returns-in_err-place c =
    let is : c.from_residual-in_err-place.result ≡ Err c.in_err-place.field-0.0 = search rules in
    rw is (inr ((_, c.in_ok-reference.ensures), inr ((_, c.in_ok-day.ensures), inr ((_, c.in_ok-isin.ensures), inr ((_, c.in_ok-kind.ensures), inr ((_, c.in_ok-account.ensures), inr ((_, c.in_ok-settlement.ensures), inl c.in_err-place.ensures)))))))

pub returns-in_err-counterparty : goal.returns-in_err-counterparty
returns-in_err-counterparty c =
    let is : c.from_residual-in_err-counterparty.result ≡ Err c.in_err-counterparty.field-0.0 = search rules in
    rw is (inr ((_, c.in_ok-reference.ensures), inr ((_, c.in_ok-day.ensures), inr ((_, c.in_ok-isin.ensures), inr ((_, c.in_ok-kind.ensures), inr ((_, c.in_ok-account.ensures), inr ((_, c.in_ok-settlement.ensures), inr ((_, c.in_ok-place.ensures), inl c.in_err-counterparty.ensures))))))))

pub returns-in_err-cash : goal.returns-in_err-cash
returns-in_err-cash c =
    let is : c.from_residual-in_err-cash.result ≡ Err c.in_err-cash.field-0.0 = search rules in
    rw is (inr ((_, c.in_ok-reference.ensures), inr ((_, c.in_ok-day.ensures), inr ((_, c.in_ok-isin.ensures), inr ((_, c.in_ok-kind.ensures), inr ((_, c.in_ok-account.ensures), inr ((_, c.in_ok-settlement.ensures), inr ((_, c.in_ok-place.ensures), inr ((_, c.in_ok-counterparty.ensures), rw c.in_err-cash.ensures.0 (inl c.in_err-cash.ensures.1))))))))))
