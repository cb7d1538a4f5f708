use Rattle.std.proofs.Common.{sym, arith}
use Rattle.memory_rows.specs.RowsView.{view_of_rows}
use Rattle.memory_register.proofs.OnlyLemmas.{due_dropped, fewer_due, matched_at, none_dropped, none_of}
use Rattle.memory_register.proofs.TidyLemmas.{due_without_later}
use Rattle.memory_register.proofs.tidying.tidy_due.Goals as goal

pub returns-then-is_some-clause-only : goal.returns-then-is_some-clause-only
returns-then-is_some-clause-only c = matched_at (view_of_rows c.args.held.now).content c.args.places.now _ c.args.number c.due_place.result (sym c.if-is_some.ensures) c.due_place.ensures.found

pub returns-in-Some-clause-now : goal.returns-in-Some-clause-now
returns-in-Some-clause-now c =
    let bound = c.yyyymmdd.type_inv in
    let is = c.yyyymmdd.ensures in
    due_dropped c.args.places.now c.drop_key.new.keys (view_of_rows c.args.held.now).content c.args.number 18446744073709551615 c.in-Some.day (none_of c.due_place.result (sym c.if-is_some.ensures) c.due_place.ensures.none)
    (omega arith) c.in-Some.ensures (rw c.yyyymmdd.ensures at c.drop_key.ensures.others)

pub returns-in-Some-clause-others : goal.returns-in-Some-clause-others
returns-in-Some-clause-others c = due_without_later c.args.places.now c.drop_key.new.keys c.yyyymmdd.result c.args.number c.drop_key.ensures.others

pub returns-in-Some-clause-fewer : goal.returns-in-Some-clause-fewer
returns-in-Some-clause-fewer c = fewer_due c.args.places.now c.drop_key.new.keys c.drop_key.ensures.all

pub returns-in-Some-clause-only : goal.returns-in-Some-clause-only
returns-in-Some-clause-only c = λ placed q here there. absurd
    (none_dropped c.args.places.now c.drop_key.new.keys (view_of_rows c.args.held.now).content c.args.number c.in-Some.day c.in-Some.ensures (fewer_due c.args.places.now c.drop_key.new.keys c.drop_key.ensures.all)
    (rw c.yyyymmdd.ensures at c.drop_key.ensures.gone) placed q here there)
