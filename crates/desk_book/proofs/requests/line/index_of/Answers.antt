-- The first place where the byte stands.
use Rattle.std.proofs.Common.{◌+◌, eqb, length, arith, eq-eqb, sym}
use Rattle.std.proofs.lemmas.List.Sums.{position_or_len_is}
use Rattle.desk_book.proofs.RunLanes.{none_before}
use Rattle.desk_book.proofs.requests.line.index_of.Goals as goal

pub returns-then-run-lt-LANES-clause-place : goal.returns-then-run-lt-LANES-clause-place
returns-then-run-lt-LANES-clause-place c =
    let at = c.loop-at.at in
    let run = c.before_byte-run.result in
    let among = c.before_byte-run.ensures in
    sym (position_or_len_is (λ x. eqb x c.args.byte) c.args.text.now (at + run) 0 (omega (arith, c.loop-at-test.true, c.if-run-lt-LANES.true))
    (none_before (λ x. eqb x c.args.byte) c.args.text.now at 16 run among c.loop-at.invariant.none) (λ lt. among.stops c.if-run-lt-LANES.true))

pub loop-at-preserved : goal.loop-at-preserved
loop-at-preserved c = record {
  within = omega (arith, c.loop-at-test.true);
  none = λ k lt. none_before (λ x. eqb x c.args.byte) c.args.text.now c.loop-at.at 16 c.before_byte-run.result c.before_byte-run.ensures c.loop-at.invariant.none k (omega (arith, c.if-run-lt-LANES.false));
}

pub returns-then-text-index-clause-place : goal.returns-then-text-index-clause-place
returns-then-text-index-clause-place c =
    sym (position_or_len_is (λ x. eqb x c.args.byte) c.args.text.now c.loop-index.index 0 (omega arith) c.loop-index.invariant (λ lt. eq-eqb _ _ c.if-text-index.true))

pub returns-clause-place : goal.returns-clause-place
returns-clause-place c =
    sym (position_or_len_is (λ x. eqb x c.args.byte) c.args.text.now (length c.args.text.now) 0 (omega arith) (λ k h. c.loop-index.invariant k (omega arith)) (λ lt. absurd (omega arith)))
