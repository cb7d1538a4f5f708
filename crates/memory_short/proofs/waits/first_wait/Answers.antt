use Rattle.std.proofs.Common.{◌≡◌, Some, ap, sym, ◌∙◌}
use Rattle.std.specs.Option.{option_copied}
use Rattle.std.specs.BTreeMap.{get}
use Rattle.memory_short.specs.Wants.{want_cmp}
use Rattle.memory_short.proofs.WaitsLemmas.{waits_least, waits_none, waits_there}
use Rattle.memory_short.proofs.waits.first_wait.Goals as goal

pub returns-clause-there : goal.returns-clause-there
returns-clause-there c =
    let is : get want_cmp c.args.waits.now c.args.want.now ≡ Some c.in_ok-get.field-0.now = sym c.get.ensures.value ∙ ap option_copied c.in_ok-get.was in
    waits_there c.args.waits.now c.args.want.now c.in_ok-get.field-0.now is c.first_key.result c.first_key.ensures.there

pub returns-clause-least : goal.returns-clause-least
returns-clause-least c =
    let is : get want_cmp c.args.waits.now c.args.want.now ≡ Some c.in_ok-get.field-0.now = sym c.get.ensures.value ∙ ap option_copied c.in_ok-get.was in
    waits_least c.args.waits.now c.args.want.now c.in_ok-get.field-0.now is c.first_key.result c.first_key.ensures.least

pub returns-clause-none : goal.returns-clause-none
returns-clause-none c =
    let is : get want_cmp c.args.waits.now c.args.want.now ≡ Some c.in_ok-get.field-0.now = sym c.get.ensures.value ∙ ap option_copied c.in_ok-get.was in
    waits_none c.args.waits.now c.args.want.now c.in_ok-get.field-0.now is c.first_key.result c.first_key.ensures.none
