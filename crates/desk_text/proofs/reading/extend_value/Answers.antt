use Rattle.std.proofs.Common.{rules, refl, ap, ◌≡◌, ◌-◌, vec_len, length}
use Rattle.std.proofs.lemmas.List.{map_push}
use Rattle.desk_text.proofs.StepLemmas.{extended}
use Rattle.desk_text.proofs.reading.extend_value.Goals as goal

pub returns-in_ok-push : goal.returns-in_ok-push
returns-in_ok-push c =
    let n : vec_len c.args.fields.now ≡ length c.args.fields.now.items = search rules in
    extended c.args.fields.now.items (vec_len c.args.fields.now - 1) c.in-Some.field.now (record c.in-Some.field.now { values = c.push.new.self }) c.args.line.now
    (ap (λ k. k - 1) n) c.in-Some.ensures.value (rw (c.in_ok-push.ensures.ok, map_push) refl)
