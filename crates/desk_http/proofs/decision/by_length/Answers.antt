use Rattle.std.proofs.Common.{arith}
use Rattle.desk_http.proofs.DecisionLemmas.{asks_it, call_small, wants_it}
use Rattle.desk_http.proofs.decision.by_length.Goals as goal

pub overflow_add-result : goal.overflow_add-result
overflow_add-result c = let small = call_small c.args.bytes.now c.args.call c.args.start c.requires in omega (arith, small.1)

pub returns-then-call-bytes : goal.returns-then-call-bytes
returns-then-call-bytes c = asks_it c.args.bytes.now c.args.call c.args.start c.requires c.if-call-bytes.true

pub returns-else-call-bytes : goal.returns-else-call-bytes
returns-else-call-bytes c = wants_it c.args.bytes.now c.args.call c.args.start c.requires c.if-call-bytes.false
