use Rattle.std.proofs.Common.{refl, sym, subst, lit<, ap, Err}
use Rattle.memory_register.specs.ListsView.{view_of_lists}
use Rattle.memory_register.specs.declared.list_register.ListRegister.{ListRegister}
use Rattle.desk_engine.specs.Applied.{no_books}
use Rattle.desk_book.proofs.FormedLemmas.{empty_formed}
use Rattle.desk_engine.specs.Ready.{IsReady}
use Rattle.desk.specs.OverviewAnswer.{IsAfterScript}
use Rattle.desk.proofs.OverviewLemmas.{after_script, none_played}
use Rattle.desk.proofs.PlayLemmas.{limit_is, new_keeps}
use Rattle.desk.proofs.answers.report.register_after.Goals as goal

pub new-desk-requires : goal.new-desk-requires
new-desk-requires g c = record { stage = λ is. c.new.ensures.stage; sure = λ is honest. tt; device = λ is honest. tt; books = λ is honest. (no_books, empty_formed _ _ c.new.ensures.empty) }

pub returns-in-Ok-clause-after : goal.returns-in-Ok-clause-after
returns-in-Ok-clause-after g c =
    let made = c.new.result in
    let held = c.new-desk.result.register in
    let same = c.new-desk.ensures.register in
    let p = c.play.ensures in
    let given = g.R.Read.remaining c.args.reader.now in
    let now = c.play.new.self in
    let ready : IsReady now.is_closed (view_of_lists now.register) = subst (λ (r : ListRegister). IsReady now.is_closed (view_of_lists r)) c.into_register.ensures.register c.into_register.ensures.ready in
    subst (λ (r : ListRegister). IsAfterScript given (view_of_lists r)) (sym c.into_register.ensures.register)
    (after_script given _ _ c.new-desk.result.is_closed now.is_closed (view_of_lists held) (view_of_lists now.register) (limit_is made held same c.new.ensures.limit) p.left.later.room c.new-desk.ensures.open (p.left.in_memory refl c.new-desk.ensures.open) refl
    (lit< tt) tt tt (λ is. new_keeps made held same c.new.ensures.empty) ready c.in-Ok.ensures.played)

pub returns-in-Err-clause-none : goal.returns-in-Err-clause-none
returns-in-Err-clause-none g c =
    let p = c.in-Err.ensures in
    none_played (g.R.Read.remaining c.args.reader.now) _ g.R.Source.may_fail c.in-Err.fault c.failure_of.result (λ is. (p.memory (ap Err is)).2) (λ is. (p.unread (ap Err is)).2) (λ is. (p.too_long (ap Err is)).2)
    (λ is. (let clash = p.unwritten (ap Err is) in cc)) c.failure_of.ensures
