use Rattle.std.proofs.Common.{◌≡◌, ◌∙◌, sym, Some, refl, arith, rules}
use Rattle.desk_rules.specs.declared.history.standing.State.TheVariants.{Matched}
use Rattle.memory_rows.specs.Lists.{content_in, listed, standing_in}
use Rattle.memory_rows.specs.Transfers.{as_instructed}
use Rattle.memory_rows.proofs.SearchLemmas.{due_from, place_of_due}
use Rattle.memory_rows.proofs.looking.due_pairs.due_place.Goals as goal

pub returns-then-not-is_past-clause-none : goal.returns-then-not-is_past-clause-none
returns-then-not-is_past-clause-none c = λ p number due.
    let content = content_in (listed c.args.lists.now) in
    let later = as_instructed c.in_ok-later.field-0-0.now c.in_ok-later.later.now in
    let over = c.is_past.ensures ∙ (place_of_due content c.args.number c.args.day c.yyyymmdd.result c.args.above.now later p number (sym c.in_ok-later.ensures) c.yyyymmdd.ensures due) in
    cc

pub returns-clause-found : goal.returns-clause-found
returns-clause-found c =
    let content = content_in (listed c.args.lists.now) in
    let later = as_instructed c.in_ok-later.field-0-0.now c.in_ok-later.later.now in
    let mate : (standing_in (listed c.args.lists.now).standings c.args.number).mate ≡ Some c.in_ok-mate.mate = search rules in
    let matched : (standing_in (listed c.args.lists.now).standings c.args.number).state ≡ Matched c.in-Matched.field-0 = search rules in
    (refl, due_from content c.args.number c.args.day c.in_ok-mate.mate c.args.above.now later c.in-Matched.field-0 _ refl (sym c.in_ok-later.ensures) mate matched (omega arith) c.yyyymmdd.ensures (omega arith) (sym c.is_past.ensures ∙ c.if-not-is_past.false))
