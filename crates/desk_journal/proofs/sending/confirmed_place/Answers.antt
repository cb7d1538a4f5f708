-- The place that the confirmation of a settled instruction tells.
use Rattle.std.proofs.Common.{◌≡◌, rules, sym, ◌∙◌}
use Rattle.desk_rules.specs.declared.history.standing.State.TheVariants.{Settled}
use Rattle.desk_register.proofs.ViewLemmas.{idle_goes}
use Rattle.desk_journal.proofs.SettledLemmas.{has_message, message_read, no_place, place_read}
use Rattle.desk_journal.proofs.sending.confirmed_place.Goals as goal

pub returns-then-ne-clause-place : goal.returns-then-ne-clause-place
returns-then-ne-clause-place g c = λ books honest sure tables.
    let first = c.in_ok-standing.ensures in
    no_place books (g.R.Register.view c.args.register.now).content tables c.args.number c.in_ok-standing.standing (first.value honest sure (idle_goes _ c.requires.stage)) (λ e. let other = c.if-ne.ensures in search rules)

pub returns-in_default-clause-place : goal.returns-in_default-clause-place
returns-in_default-clause-place g c = λ books honest sure tables.
    let v0 = g.R.Register.view c.args.register.now in
    let v1 = g.R.Register.view c.standing.new.self in
    let v2 = g.R.Register.view c.confirmation.new.self in
    let standing = c.in_ok-standing.standing in
    let first = c.in_ok-standing.ensures in
    let second = c.in_ok-message.ensures in
    let honest1 = second.read.later.honest honest in
    let settled : standing.state ≡ Settled = let same = c.if-ne.ensures in search rules in
    let found = message_read v0 v1 v2 standing c.in_ok-message.field-0 c.args.number c.requires.stage first.read second.read second.value honest sure in
    absurd (has_message books v0.content tables c.args.number (c.requires.known (first.read.later.honest honest1) sure) standing (first.value honest1 sure (idle_goes _ c.requires.stage)) settled (sym c.in_default.is ∙ found))

pub returns-clause-place : goal.returns-clause-place
returns-clause-place g c = λ books honest sure tables.
    let v0 = g.R.Register.view c.args.register.now in
    let v1 = g.R.Register.view c.standing.new.self in
    let v2 = g.R.Register.view c.confirmation.new.self in
    let standing = c.in_ok-standing.standing in
    let first = c.in_ok-standing.ensures in
    let second = c.in_ok-message.ensures in
    let honest1 = second.read.later.honest honest in
    let settled : standing.state ≡ Settled = let same = c.if-ne.ensures in search rules in
    let found = message_read v0 v1 v2 standing c.in_ok-message.field-0 c.args.number c.requires.stage first.read second.read second.value honest sure in
    place_read books v0.content tables c.args.number (c.requires.known (first.read.later.honest honest1) sure) standing (first.value honest1 sure (idle_goes _ c.requires.stage)) settled
    c.in-Some.message (sym c.in-Some.is ∙ found) c.as_bytes.result.now c.as_bytes.ensures c.place_told.result c.place_told.ensures
