use Rattle.std.proofs.Common.{codes, ◌++◌}
use Rattle.desk_codes.specs.Currency.{letters_of}
use Rattle.desk_reasons.proofs.WritingLemmas.{one_written}
use Rattle.desk_reasons.proofs.writing.write_currencies.Goals as goal

pub loop-ccy-preserved : goal.loop-ccy-preserved
loop-ccy-preserved g c =
    one_written (λ ccy. codes " " ++ letters_of ccy) c.args.currencies.now _ _ _ c.loop-ccy.ccy-index _ c.loop-ccy-test.true c.loop-ccy.invariant c.in_ok-write_currency.ensures.written
