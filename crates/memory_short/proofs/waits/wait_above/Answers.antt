use Rattle.std.proofs.Common.{◌≡◌, Some, ap, sym, ◌∙◌}
use Rattle.std.specs.Option.{option_copied}
use Rattle.std.specs.BTreeMap.{get}
use Rattle.memory_short.specs.Wants.{want_cmp}
use Rattle.memory_short.proofs.WaitsLemmas.{waits_none_above, waits_there}
use Rattle.memory_short.proofs.waits.wait_above.Goals as goal

pub returns-clause-there : goal.returns-clause-there
returns-clause-there c =
    let is : get want_cmp c.args.waits.now c.args.want.now ≡ Some c.in_ok-get.field-0.now = sym c.get.ensures.value ∙ ap option_copied c.in_ok-get.was in
    waits_there c.args.waits.now c.args.want.now c.in_ok-get.field-0.now is c.first_behind.result c.first_behind.ensures.there

pub returns-clause-none : goal.returns-clause-none
returns-clause-none c =
    let is : get want_cmp c.args.waits.now c.args.want.now ≡ Some c.in_ok-get.field-0.now = sym c.get.ensures.value ∙ ap option_copied c.in_ok-get.was in
    waits_none_above c.args.waits.now c.args.want.now c.in_ok-get.field-0.now is c.args.most _ c.first_behind.result c.first_behind.ensures.none
