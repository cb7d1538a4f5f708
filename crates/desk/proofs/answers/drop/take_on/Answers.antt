use Rattle.std.proofs.Common.{map, refl}
use Rattle.desk_drop.specs.Folder.{file_of}
use Rattle.desk.proofs.DropLemmas.{ok_taken}
use Rattle.desk.proofs.answers.drop.take_on.Goals as goal

pub returns-clause-taken : goal.returns-clause-taken
returns-clause-taken g c = λ books honest holds.
    let view = g.D.Register.view in
    let old = c.args.desk.now in
    let new = c.take.new.desk in
    ok_taken (λ replies. replies.items) c.take.result (view old.register).room books (map file_of c.args.files.now) old.is_closed new.is_closed (view old.register) (view new.register) refl c.take.ensures.left.later.room c.requires
    c.take.ensures.taken honest holds
