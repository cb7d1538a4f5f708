use Rattle.std.proofs.Common.{◌≡◌, refl, sym, subst}
use Rattle.sqlite.specs.State.{HasCleanDisk}
use Rattle.desk_rules.specs.Books.{Books}
use Rattle.desk_rules.specs.declared.limits.TheConstants.{MOST_ENTRIES}
use Rattle.desk_engine.specs.Ready.{KeepsFormed}
use Rattle.memory_register.specs.ListsView.{view_of_lists}
use Rattle.memory_register.specs.declared.list_register.ListRegister.{ListRegister}
use Rattle.desk.specs.PlayAnswer.{KeptBy}
use Rattle.desk.proofs.answers.trial.try_on_both.Goals as goal

pub try_on-requires-clause-ready : goal.try_on-requires-clause-ready
try_on-requires-clause-ready g c =
    let parts = c.parts_of-memory.ensures in
    let ready = c.requires.desk in
    let Keeps : ListRegister → Type 0 = λ m. (books : Books) × KeepsFormed (view_of_lists m).room books (view_of_lists m).content in
    record { stage = λ is. parts.idle (ready.stage refl); sure = λ is honest. tt; device = λ is honest. tt; books = λ is honest. subst Keeps (sym parts.memory) (ready.books refl tt) }

pub try_on-requires-clause-room : goal.try_on-requires-clause-room
try_on-requires-clause-room g c = subst (λ (m : ListRegister). (view_of_lists m).room ≡ MOST_ENTRIES) (sym c.parts_of-memory.ensures.memory) c.requires.room

pub returns-clause-told : goal.returns-clause-told
returns-clause-told g c = λ books keeps.
    c.try_on.ensures.told books (subst (λ (m : ListRegister). KeptBy (view_of_lists m) books) (sym c.parts_of-memory.ensures.memory) keeps)

pub returns-clause-left : goal.returns-clause-left
returns-clause-left g c = λ books keeps. c.parts_of-memory.ensures.left (c.requires.desk.stage refl) books keeps

pub returns-clause-clean : goal.returns-clause-clean
returns-clause-clean g c = λ clean. subst (λ k. HasCleanDisk (g.S.Session.state k)) c.parts_of-memory.ensures.connection clean
