use Rattle.memory_rows.proofs.HoldingLemmas.{comes_to, comes_to_its_end, comes_to_no_more, goes_on, goes_past, its_holder, other_holder}
use Rattle.memory_rows.proofs.looking.next_holding.next_on.Goals as goal

pub returns-in_default-key : goal.returns-in_default-key
returns-in_default-key c = record {
  first = λ l walks. comes_to_no_more l c.args.account.now c.args.above.now c.in-Some.key.now c.in-Some.amount.now c.loop-key.walk c.next.new.self c.in-Some.ensures.steps (c.loop-key.invariant l walks)
      (λ isin. c.in_default-key.not-Position c.args.account.now isin);
  behind = λ l walks. tt;
}

pub returns-then-ne-clause-first : goal.returns-then-ne-clause-first
returns-then-ne-clause-first c l walks =
    comes_to_no_more l c.args.account.now c.args.above.now c.in-Some.key.now c.in-Some.amount.now c.loop-key.walk c.next.new.self c.in-Some.ensures.steps (c.loop-key.invariant l walks)
    (other_holder c.in-Some.key.now c.in-Position.holder c.in-Position.isin c.args.account.now c.in-Position.is c.if-ne.ensures)

pub returns-in-Some-held_above-clause-first : goal.returns-in-Some-held_above-clause-first
returns-in-Some-held_above-clause-first c l walks =
    let at = its_holder c.in-Some.key.now c.in-Position.holder c.in-Position.isin c.args.account.now c.in-Position.is c.if-ne.ensures in
    comes_to l c.args.account.now c.args.above.now c.in-Some.key.now c.in-Some.amount.now c.loop-key.walk c.next.new.self c.in-Some.ensures.steps (c.loop-key.invariant l walks)
    c.in-Position.isin at c.in-Some-held_above.holding c.in-Some-held_above.ensures

pub returns-in-Some-held_above-clause-behind : goal.returns-in-Some-held_above-clause-behind
returns-in-Some-held_above-clause-behind c l walks =
    let at = its_holder c.in-Some.key.now c.in-Position.holder c.in-Position.isin c.args.account.now c.in-Position.is c.if-ne.ensures in
    goes_on l c.args.account.now c.args.above.now c.in-Some.key.now c.in-Some.amount.now c.loop-key.walk c.next.new.self c.in-Some.ensures.steps (c.loop-key.invariant l walks)
    c.in-Position.isin at c.in-Some-held_above.holding c.in-Some-held_above.ensures

pub loop-key-preserved : goal.loop-key-preserved
loop-key-preserved c l walks =
    let at = its_holder c.in-Some.key.now c.in-Position.holder c.in-Position.isin c.args.account.now c.in-Position.is c.if-ne.ensures in
    goes_past l c.args.account.now c.args.above.now c.in-Some.key.now c.in-Some.amount.now c.loop-key.walk c.next.new.self c.in-Some.ensures.steps (c.loop-key.invariant l walks)
    c.in-Position.isin at c.in_default-held_above.ensures

pub returns-clause-first : goal.returns-clause-first
returns-clause-first c l walks = comes_to_its_end l c.args.account.now c.args.above.now c.loop-key.walk c.in_default.ensures.steps.0 (c.loop-key.invariant l walks)
