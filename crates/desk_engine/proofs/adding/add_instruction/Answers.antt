use Rattle.desk_engine.proofs.StepLaws.{step_then}
use Rattle.desk_rules.specs.declared.history.entry.Entry.TheVariants.{Instruct}
use Rattle.desk_engine.proofs.InstructLemmas.{can_pair, instructed_alone, instructed_paired}
use Rattle.desk_engine.proofs.AppendLemmas.{can_add}
use Rattle.desk_engine.proofs.UnderwayLemmas.{room_after}
use Rattle.desk_engine.proofs.adding.add_instruction.Goals as goal

pub append-requires-clause-fits : goal.append-requires-clause-fits
append-requires-clause-fits g c = λ honest sure.
    let v0 = g.R.Register.view c.args.register.now in
    can_add v0.room (Instruct c.args.sender c.args.instruction) c.args.reply v0.content (c.requires.accepted honest sure) c.requires.status tt

pub pair_with-requires-clause-fits : goal.pair_with-requires-clause-fits
pair_with-requires-clause-fits g c = λ honest sure.
    let a = c.in_ok-append.ensures in
    let sure0 = a.change.later.sure honest sure in
    let honest0 = a.change.later.honest honest in
    can_pair (g.R.Register.view c.args.register.now).content c.args.sender c.args.instruction c.args.reply (g.R.Register.view c.append.new.self).content c.args.number c.in-Some.earlier
    (c.requires.number honest0 sure0)
    (rw c.in-Some.is at (c.requires.mate honest0 sure0))
    (a.added honest sure0)

pub pair_with-requires-clause-room : goal.pair_with-requires-clause-room
pair_with-requires-clause-room g c = λ honest sure.
    let a = c.in_ok-append.ensures in
    let sure0 = a.change.later.sure honest sure in
    let honest0 = a.change.later.honest honest in
    let v0 = g.R.Register.view c.args.register.now in
    room_after (g.R.Register.view c.args.register.now) (g.R.Register.view c.append.new.self) (Instruct c.args.sender c.args.instruction) c.args.reply (c.requires.accepted honest0 sure0) (a.added honest sure0) a.change.later.room

pub returns-in-Some-clause-tables : goal.returns-in-Some-clause-tables
returns-in-Some-clause-tables g c = λ books honest sure tables.
    let a = c.in_ok-append.ensures in
    let honest1 = c.pair_with.ensures.step.later.honest honest in
    let honest0 = a.change.later.honest honest1 in
    let sure1 = a.change.ok.sure honest1 sure in
    instructed_paired (g.R.Register.view c.args.register.now).room books (g.R.Register.view c.args.register.now).content (g.R.Register.view c.append.new.self).content (g.R.Register.view c.pair_with.new.register).content
    c.args.sender c.args.instruction c.args.reply c.args.number c.in-Some.earlier c.args.mate c.pair_with.result c.in-Some.is
    (c.requires.number honest0 sure) tables (c.requires.accepted honest0 sure) (c.requires.mate honest0 sure) (a.added honest1 sure) (c.pair_with.ensures.paired honest sure1)

pub returns-in-Some-clause-step : goal.returns-in-Some-clause-step
returns-in-Some-clause-step g c =
    let a = c.in_ok-append.ensures in
    step_then (g.R.Register.view c.args.register.now) (g.R.Register.view c.append.new.self) (g.R.Register.view c.pair_with.new.register) a.change.ok a.change.later c.pair_with.result c.pair_with.ensures.step

pub returns-in-None-clause-tables : goal.returns-in-None-clause-tables
returns-in-None-clause-tables g c = λ books honest sure tables.
    let a = c.in_ok-append.ensures in
    let honest0 = a.change.later.honest honest in
    instructed_alone (g.R.Register.view c.args.register.now).room books (g.R.Register.view c.args.register.now).content (g.R.Register.view c.append.new.self).content
    c.args.sender c.args.instruction c.args.reply c.args.mate c.in-None.is tables (c.requires.accepted honest0 sure) (c.requires.mate honest0 sure) (a.added honest sure)
