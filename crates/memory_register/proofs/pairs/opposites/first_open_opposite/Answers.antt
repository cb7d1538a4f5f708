use Rattle.std.proofs.Common.{refl, length, arith}
use Rattle.desk_register.specs.Looked.{IsOppositeAt}
use Rattle.memory_rows.specs.RowsView.{view_of_rows}
use Rattle.memory_register.proofs.OpenLemmas.{none_at_all, none_below, none_past, none_to}
use Rattle.memory_register.proofs.pairs.opposites.first_open_opposite.Goals as goal

pub returns-then-is_opposite_at : goal.returns-then-is_opposite_at
returns-then-is_opposite_at c =
    let content = (view_of_rows c.args.held.now).content in
    let opposite = c.if-is_opposite_at.ensures.0 refl in
    (opposite, none_below c.args.numbers.now content c.args.wanted.now c.requires c.numbers.from c.in-Some.number c.numbers.invariant.below c.in-Some.ensures.least)

pub returns-then-number-entry_count : goal.returns-then-number-entry_count
returns-then-number-entry_count c =
    let content = (view_of_rows c.args.held.now).content in
    let below = none_below c.args.numbers.now content c.args.wanted.now c.requires c.numbers.from c.in-Some.number c.numbers.invariant.below c.in-Some.ensures.least in
    let here : IsOppositeAt content c.args.wanted.now c.in-Some.number → ⊥ = λ o. let is = c.is_opposite_at.ensures.1 o in cc in
    let past = none_to c.args.numbers.now content c.args.wanted.now c.requires c.in-Some.number below here in
    none_past c.args.numbers.now content c.args.wanted.now c.requires c.in-Some.number (length content.register) refl (omega (arith, c.entry_count.ensures)) past

pub numbers-preserved : goal.numbers-preserved
numbers-preserved c =
    let content = (view_of_rows c.args.held.now).content in
    let below = none_below c.args.numbers.now content c.args.wanted.now c.requires c.numbers.from c.in-Some.number c.numbers.invariant.below c.in-Some.ensures.least in
    let here : IsOppositeAt content c.args.wanted.now c.in-Some.number → ⊥ = λ o. let is = c.is_opposite_at.ensures.1 o in cc in
    record { below = none_to c.args.numbers.now content c.args.wanted.now c.requires c.in-Some.number below here }

pub returns : goal.returns
returns c =
    none_at_all c.args.numbers.now (view_of_rows c.args.held.now).content c.args.wanted.now c.requires c.numbers.from c.numbers.invariant.below c.in_default.ensures.none
