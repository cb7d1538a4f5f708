use Rattle.std.proofs.Common.{◌∙◌, ap}
use Rattle.desk_rules.specs.Content.{history_of}
use Rattle.desk_rules.specs.History.{instruction_at}
use Rattle.desk_register.proofs.ViewLemmas.{begun_goes}
use Rattle.desk_engine.proofs.SendingLemmas.{known_looked_up, pair_looked_up}
use Rattle.desk_engine.proofs.sending.pair_of.Goals as goal

pub returns-clause-found : goal.returns-clause-found
returns-clause-found g c = λ mate earlier later honest sure pair.
    let content = (g.R.Register.view c.args.register.now).content in
    let first = c.in_ok-standing.ensures in
    let second = c.in_ok-earlier.ensures in
    let third = c.in_ok-later.ensures in
    let honest2 = third.read.later.honest honest in
    let honest1 = second.read.later.honest honest2 in
    let sure1 = first.read.ok.sure honest1 sure in
    let sure2 = second.read.ok.sure honest2 sure1 in
    let same1 = first.read.same honest1 sure in
    let same2 = second.read.same honest2 sure1 ∙ same1 in
    pair_looked_up content c.args.number c.in-Some.mate c.in_ok-standing.standing c.in_ok-earlier.earlier c.in_ok-later.later c.pair_between.result
    (first.value honest1 sure (begun_goes _ c.requires)) c.in-Some.is
    (second.value honest2 sure1 ∙ ap (λ z. instruction_at (history_of z) c.in-Some.mate) same1) (third.value honest sure2 ∙ ap (λ z. instruction_at (history_of z) c.args.number) same2)
    mate earlier later pair c.pair_between.ensures.found

pub returns-clause-known : goal.returns-clause-known
returns-clause-known g c = λ honest sure.
    let content = (g.R.Register.view c.args.register.now).content in
    let first = c.in_ok-standing.ensures in
    let second = c.in_ok-earlier.ensures in
    let third = c.in_ok-later.ensures in
    let honest2 = third.read.later.honest honest in
    let honest1 = second.read.later.honest honest2 in
    let sure1 = first.read.ok.sure honest1 sure in
    let sure2 = second.read.ok.sure honest2 sure1 in
    let same1 = first.read.same honest1 sure in
    let same2 = second.read.same honest2 sure1 ∙ same1 in
    known_looked_up content c.args.number c.in-Some.mate c.in_ok-standing.standing c.in_ok-earlier.earlier c.in_ok-later.later c.pair_between.result
    (first.value honest1 sure (begun_goes _ c.requires)) c.in-Some.is
    (second.value honest2 sure1 ∙ ap (λ z. instruction_at (history_of z) c.in-Some.mate) same1) (third.value honest sure2 ∙ ap (λ z. instruction_at (history_of z) c.args.number) same2)
    c.pair_between.ensures.made
