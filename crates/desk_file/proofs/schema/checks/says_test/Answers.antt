use Rattle.std.proofs.Common.{arith}
use Rattle.desk_file.proofs.CheckLemmas.{said_test, test_said}
use Rattle.desk_file.proofs.schema.checks.says_test.Goals as goal

pub returns-then-nodes-gt1 : goal.returns-then-nodes-gt1
returns-then-nodes-gt1 c = (
  λ t. test_said c.args.nodes.now c.args.root (omega arith) (c.is_test.ensures.0 t),
  λ e. c.is_test.ensures.1 (said_test c.args.nodes.now c.args.root e).test,
)
