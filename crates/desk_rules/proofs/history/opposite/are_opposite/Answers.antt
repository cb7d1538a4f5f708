use Rattle.std.proofs.Common.{rules}
use Rattle.desk_rules.proofs.history.opposite.are_opposite.Goals as goal

pub returns : goal.returns
returns c = (
  λ same. record {
    sides = search rules;
    payment = search rules;
    isin = search rules;
    quantity = search rules;
    kind = search rules;
    day = search rules;
    cash = search rules;
    names = search rules;
    is_named = search rules;
  },
  λ opposite. search rules,
)
