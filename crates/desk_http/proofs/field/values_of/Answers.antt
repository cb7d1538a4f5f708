use Rattle.std.proofs.Common.{sym, ◌∙◌}
use Rattle.desk_http.proofs.FieldLemmas.{several}
use Rattle.desk_http.proofs.field.values_of.Goals as goal

pub returns-then-is_some : goal.returns-then-is_some
returns-then-is_some c = several c.args.front.now c.args.name.now c.args.fields.now c.loop-field.field-index _ c.loop-field.found c.loop-field-test.true (sym c.has_name.ensures ∙ c.if-has_name.true) c.loop-field.invariant (sym c.is_some.ensures ∙ c.if-is_some.true)
