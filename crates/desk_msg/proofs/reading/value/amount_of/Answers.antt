use Rattle.std.proofs.Common.{◌++◌, ◌<◌, ◌^◌, ap, sym, ◌∙◌, subst, ℕ, Ok, Err, arith}
use Rattle.desk_codes.specs.Number.{ReadsNumber}
use Rattle.desk_codes.specs.Currency.{decimals_of}
use Rattle.desk_codes.proofs.CurrencyLemmas.{few_decimals}
use Rattle.desk_msg.proofs.FormLemmas.{written_fits, amount_excludes}
use Rattle.desk_msg.proofs.reading.value.amount_of.Goals as goal

pub invariant_of-result : goal.invariant_of-result
invariant_of-result c =
    let P : ℕ → Type 0 = λ d. ReadsNumber c.split_at.result.1.now d (Ok c.in-Ok.amount) in
    let small : c.in-Ok.amount < 2 ^ 64 = omega arith in
    record {
      some = c.in-Ok.ensures.2;
      short = written_fits c.split_at.result.1.now (decimals_of c.in_ok-ccy.ccy) c.in-Ok.amount small (few_decimals c.in_ok-ccy.ccy) (subst P c.decimals.ensures.value c.in-Ok.ensures);
    }

pub returns-in-Err : goal.returns-in-Err
returns-in-Err c =
    let P : ℕ → Type 0 = λ d. ReadsNumber c.split_at.result.1.now d (Err c.in-Err.field-0) in
    amount_excludes c.args.text.now c.split_at.result.1.now c.in_ok-ccy.ccy c.in-Err.field-0
    (c.split_at.ensures.by_index.0 ∙ ap (λ letters. letters ++ c.split_at.result.1.now) (sym c.in_ok-ccy.ensures.found))
    (subst P c.decimals.ensures.value c.in-Err.ensures)
