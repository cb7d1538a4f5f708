use Rattle.desk_engine.proofs.AppendLemmas.{can_add}
use Rattle.desk_engine.proofs.TablesLemmas.{booked_ok, booking_allowed}
use Rattle.desk_engine.proofs.adding.add_booking.Goals as goal

pub append-requires-clause-fits : goal.append-requires-clause-fits
append-requires-clause-fits g c = λ honest sure.
    let v0 = g.R.Register.view c.args.register.now in
    let accepted = c.requires.accepted honest sure in
    can_add v0.room c.args.entry c.args.reply v0.content accepted c.requires.status (booking_allowed v0.room v0.content c.args.entry c.requires.kind accepted)

pub returns-clause-tables : goal.returns-clause-tables
returns-clause-tables g c = λ books honest sure tables.
    let later = c.append.ensures.change.later.honest honest in
    booked_ok (g.R.Register.view c.args.register.now).room books (g.R.Register.view c.args.register.now).content (g.R.Register.view c.append.new.self).content c.args.entry c.args.reply
    c.append.result c.requires.kind tables (c.requires.accepted later sure) (c.append.ensures.added honest sure)
