use Rattle.std.proofs.Common.{rules, ap, eq-eqb}
use Rattle.desk_rules.proofs.SameContent.{movement_same}
use Rattle.desk_rules.proofs.history.same.same_movement.Goals as goal

pub returns : goal.returns
returns c = (
  λ same. movement_same c.args.a c.args.b (search rules) (search rules) (search rules) (search rules),
  λ same. eq-eqb c.args.a.quantity c.args.b.quantity (ap (λ h. h.quantity) same),
)
