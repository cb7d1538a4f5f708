use Rattle.std.proofs.Common.{rules}
use Rattle.desk_rules.proofs.SameContent.{order_same}
use Rattle.desk_rules.proofs.history.same.same_order.Goals as goal

pub returns : goal.returns
returns c = (λ same. order_same c.args.a c.args.b (search rules) (search rules) (search rules), λ same. search rules)
