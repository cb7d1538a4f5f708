use Rattle.std.proofs.Common.{◌≡◌, ◌∙◌, Some, ap, sym}
use Rattle.desk_rules.specs.Content.{history_of}
use Rattle.desk_rules.specs.History.{instruction_at}
use Rattle.desk_engine.proofs.SendingLemmas.{both_sent, room_for_second}
use Rattle.desk_engine.proofs.SentLemmas.{side_at}
use Rattle.desk_engine.proofs.StepLaws.{step_then}
use Rattle.desk_engine.proofs.sending.confirm_both.Goals as goal

pub confirm-requires-2-clause-room : goal.confirm-requires-2-clause-room
confirm-requires-2-clause-room g c = λ honest sure.
    let first = c.in_ok-confirm.ensures in
    let honest0 = first.step.later.honest honest in
    let sure0 = first.step.later.sure honest sure in
    let history = history_of (g.R.Register.view c.args.register.now).content in
    let p = c.args.pair.now in
    let known = c.requires.known honest0 sure0 in
    let sides = side_at history p.mate p.number p.earlier p.later known.is_earlier known.is_later in
    let here : instruction_at history c.numbers-delivering.result.0 ≡ Some c.deliverer.result.now = ap (instruction_at history) c.numbers-delivering.ensures.deliverer ∙ sides.0 ∙ ap Some (sym c.deliverer.ensures) in
    room_for_second (g.R.Register.view c.args.register.now) (g.R.Register.view c.confirm.new.register) c.numbers-delivering.result.0 c.args.day (c.requires.room honest0 sure0) (first.sent honest sure0 here) first.step.later.room

pub returns-clause-step : goal.returns-clause-step
returns-clause-step g c =
    let first = c.in_ok-confirm.ensures.step in
    step_then (g.R.Register.view c.args.register.now) (g.R.Register.view c.confirm.new.register) (g.R.Register.view c.confirm-2.new.register) first.ok first.later c.confirm-2.result c.confirm-2.ensures.step

pub returns-clause-sent : goal.returns-clause-sent
returns-clause-sent g c = λ honest sure.
    let first = c.in_ok-confirm.ensures in
    let second = c.confirm-2.ensures in
    let honest1 = second.step.later.honest honest in
    let honest0 = first.step.later.honest honest1 in
    let v0 = (g.R.Register.view c.args.register.now).content in
    let history = history_of v0 in
    let p = c.args.pair.now in
    let known = c.requires.known honest0 sure in
    let sides = side_at history p.mate p.number p.earlier p.later known.is_earlier known.is_later in
    let here : instruction_at history c.numbers-delivering.result.0 ≡ Some c.deliverer.result.now = ap (instruction_at history) c.numbers-delivering.ensures.deliverer ∙ sides.0 ∙ ap Some (sym c.deliverer.ensures) in
    let there : instruction_at history c.numbers-delivering.result.1 ≡ Some c.receiver.result.now = ap (instruction_at history) c.numbers-delivering.ensures.receiver ∙ sides.1 ∙ ap Some (sym c.receiver.ensures) in
    let sent = first.sent honest1 sure here in
    let then = ap (λ z. instruction_at (history_of z) c.numbers-delivering.result.1) sent ∙ there in
    let both = both_sent v0 (g.R.Register.view c.confirm.new.register).content (g.R.Register.view c.confirm-2.new.register).content c.numbers-delivering.result.0 c.numbers-delivering.result.1 c.args.day c.confirm-2.result
    sent (second.sent honest (first.step.ok.sure honest1 sure) then) in
    rw (c.numbers-delivering.ensures.deliverer, c.numbers-delivering.ensures.receiver) at both
