use Rattle.std.proofs.Common.{rules, ◌≡◌, [], ◌∷◌}
use Rattle.std.proofs.lemmas.List.{map_push, reverse-reverse}
use Rattle.desk_text.specs.Seen.{texts}
use Rattle.desk_text.specs.Steps.{open_names, found_by}
use Rattle.desk_text.proofs.StepLemmas.{field_more, further_more}
use Rattle.desk_text.proofs.reading.Reader.take.Goals as goal

pub returns-in_ok-push-in-Start : goal.returns-in_ok-push-in-Start
returns-in_ok-push-in-Start c = λ rest.
    let path : texts c.in_ok-path-in-Start.path.items ≡ texts c.args.self.now.names.items = search rules in
    let values : c.in_ok-values-in-Start.values.items ≡ c.in-Start.first ∷ [] = search rules in
    let items = c.in_ok-push-in-Start.ensures.items in
    rw (c.in-Start.is, items, map_push, path, values, reverse-reverse) (field_more _ _ _)

pub returns-in_ok-extend_value-in-Further : goal.returns-in_ok-extend_value-in-Further
returns-in_ok-extend_value-in-Further c = λ rest.
    rw (c.in-Further.is, c.in_ok-extend_value-in-Further.ensures) (further_more (found_by c.args.self.now) c.in-Further.further.now c.args.self.now.goes_on rest (open_names c.args.self.now) c.args.number c.if-not-self.false)
