use Rattle.std.proofs.Common.{refl}
use Rattle.std.specs.Prelude.{Ok}
use Rattle.desk_rules.specs.declared.history.entry.Entry.TheVariants.{Cancel}
use Rattle.desk_register.proofs.ViewLemmas.{change_ok, change_then}
use Rattle.desk_engine.specs.declared.cancelling.CallsOff.TheVariants.{Alone, Both, Nothing}
use Rattle.desk_engine.proofs.AppendLemmas.{can_add}
use Rattle.desk_engine.proofs.CancelLemmas.{cancel_fits, cancel_pair_fits, cancelled_ok}
use Rattle.desk_engine.proofs.cancelling.add_cancellation.Goals as goal

pub append-requires-clause-fits : goal.append-requires-clause-fits
append-requires-clause-fits g c = λ honest sure.
    let v0 = g.R.Register.view c.args.register.now in
    can_add v0.room (Cancel c.args.sender c.args.order) c.args.reply v0.content (c.requires.accepted honest sure) c.requires.status tt

pub cancel-requires-clause-fits : goal.cancel-requires-clause-fits
cancel-requires-clause-fits g c = λ honest sure.
    let a = c.in_ok-append.ensures in
    let sure0 = a.change.later.sure honest sure in
    let honest0 = a.change.later.honest honest in
    let v0 = g.R.Register.view c.args.register.now in
    cancel_fits v0.room v0.content (g.R.Register.view c.append.new.self).content c.args.sender c.args.order c.args.reply c.args.off c.in-Alone.number
    (c.requires.accepted honest0 sure0) (c.requires.off honest0 sure0) c.in-Alone.is (a.added honest sure0)

pub cancel_pair-requires-clause-fits : goal.cancel_pair-requires-clause-fits
cancel_pair-requires-clause-fits g c = λ honest sure.
    let a = c.in_ok-append.ensures in
    let sure0 = a.change.later.sure honest sure in
    let honest0 = a.change.later.honest honest in
    let v0 = g.R.Register.view c.args.register.now in
    cancel_pair_fits v0.room v0.content (g.R.Register.view c.append.new.self).content c.args.sender c.args.order c.args.reply c.args.off c.in-Both.pair
    (c.requires.accepted honest0 sure0) (c.requires.off honest0 sure0) c.in-Both.is (a.added honest sure0)

pub returns-in-Alone-clause-tables : goal.returns-in-Alone-clause-tables
returns-in-Alone-clause-tables g c = λ books honest sure tables.
    let a = c.in_ok-append.ensures in
    let honest1 = c.cancel.ensures.change.later.honest honest in
    let honest0 = a.change.later.honest honest1 in
    let sure1 = a.change.ok.sure honest1 sure in
    let v0 = g.R.Register.view c.args.register.now in
    cancelled_ok v0.room books v0.content (g.R.Register.view c.append.new.self).content (g.R.Register.view c.cancel.new.self).content c.args.sender c.args.order c.args.reply c.args.off (Alone c.in-Alone.number)
    c.cancel.result c.in-Alone.is tables (c.requires.accepted honest0 sure) (c.requires.off honest0 sure) (a.added honest1 sure) (c.cancel.ensures.cancelled honest sure1)

pub returns-in-Both-clause-tables : goal.returns-in-Both-clause-tables
returns-in-Both-clause-tables g c = λ books honest sure tables.
    let a = c.in_ok-append.ensures in
    let honest1 = c.cancel_pair.ensures.change.later.honest honest in
    let honest0 = a.change.later.honest honest1 in
    let sure1 = a.change.ok.sure honest1 sure in
    let v0 = g.R.Register.view c.args.register.now in
    cancelled_ok v0.room books v0.content (g.R.Register.view c.append.new.self).content (g.R.Register.view c.cancel_pair.new.self).content c.args.sender c.args.order c.args.reply c.args.off (Both c.in-Both.pair)
    c.cancel_pair.result c.in-Both.is tables (c.requires.accepted honest0 sure) (c.requires.off honest0 sure) (a.added honest1 sure) (c.cancel_pair.ensures.cancelled honest sure1)

pub returns-in-Nothing-clause-tables : goal.returns-in-Nothing-clause-tables
returns-in-Nothing-clause-tables g c = λ books honest sure tables.
    let a = c.in_ok-append.ensures in
    let honest0 = a.change.later.honest honest in
    let v0 = g.R.Register.view c.args.register.now in
    let v1 = g.R.Register.view c.append.new.self in
    cancelled_ok v0.room books v0.content v1.content v1.content c.args.sender c.args.order c.args.reply c.args.off (Nothing c.in-Nothing.field-0)
    (Ok tt) c.in-Nothing.is tables (c.requires.accepted honest0 sure) (c.requires.off honest0 sure) (a.added honest sure) refl

pub returns-in-Alone-clause-change : goal.returns-in-Alone-clause-change
returns-in-Alone-clause-change g c =
    let a = c.in_ok-append.ensures.change in
    change_then (g.R.Register.view c.args.register.now) (g.R.Register.view c.append.new.self) (g.R.Register.view c.cancel.new.self) a.ok a.later c.cancel.result c.requires.stage c.cancel.ensures.change

pub returns-in-Both-clause-change : goal.returns-in-Both-clause-change
returns-in-Both-clause-change g c =
    let a = c.in_ok-append.ensures.change in
    change_then (g.R.Register.view c.args.register.now) (g.R.Register.view c.append.new.self) (g.R.Register.view c.cancel_pair.new.self) a.ok a.later c.cancel_pair.result c.requires.stage c.cancel_pair.ensures.change

pub returns-in-Nothing-clause-change : goal.returns-in-Nothing-clause-change
returns-in-Nothing-clause-change g c =
    let a = c.in_ok-append.ensures.change in
    change_ok _ (g.R.Register.view c.args.register.now) (g.R.Register.view c.append.new.self) a.ok a.later
