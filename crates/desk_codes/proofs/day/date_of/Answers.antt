use Rattle.desk_codes.proofs.DayLemmas.{front_below, found_by_parts, value_by_parts}
use Rattle.desk_codes.proofs.day.date_of.Goals as goal
use Rattle.std.proofs.Common.{drop}

pub returns-clause-found : goal.returns-clause-found
returns-clause-found c =
    let y = c.whole_number-year.ensures in
    let m = c.whole_number-month.ensures in
    let d = c.whole_number-day.ensures in
    let text = c.args.digits.now in
    found_by_parts c.whole_number-year.result c.whole_number-month.result c.whole_number-day.result _ _ _ c.new.result c.ok.result y.value m.value d.value
    (front_below _ 4 text y.bound) (front_below _ 2 (drop 4 text) m.bound) (front_below _ 2 (drop 6 text) d.bound) c.new.ensures.succeeds c.ok.ensures.variant

pub returns-clause-value : goal.returns-clause-value
returns-clause-value c =
    let y = c.whole_number-year.ensures in
    let m = c.whole_number-month.ensures in
    let d = c.whole_number-day.ensures in
    let text = c.args.digits.now in
    value_by_parts c.whole_number-year.result c.whole_number-month.result c.whole_number-day.result _ _ _ c.new.result c.ok.result y.value m.value d.value
    (front_below _ 4 text y.bound) (front_below _ 2 (drop 4 text) m.bound) (front_below _ 2 (drop 6 text) d.bound) c.new.ensures.value c.ok.ensures.value
