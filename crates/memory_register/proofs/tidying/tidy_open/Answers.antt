use Rattle.std.proofs.Common.{◌∙◌, ap}
use Rattle.memory_rows.specs.RowsView.{view_of_rows}
use Rattle.memory_register.proofs.TidyLemmas.{open_without, open_without_later}
use Rattle.memory_register.proofs.tidying.tidy_open.Goals as goal

pub returns-in-Some-clause-now : goal.returns-in-Some-clause-now
returns-in-Some-clause-now c =
    open_without c.args.numbers.now c.drop_key.new.keys (view_of_rows c.args.held.now).content c.key_of.result c.args.number
    (λ unmatched. c.in_default.not-Unmatched (ap (λ s. s.state) c.standing_at.ensures ∙ unmatched)) c.drop_key.ensures.others

pub returns-in-Some-clause-others : goal.returns-in-Some-clause-others
returns-in-Some-clause-others c = open_without_later c.args.numbers.now c.drop_key.new.keys c.key_of.result c.args.number c.drop_key.ensures.others
