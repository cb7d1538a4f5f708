use Rattle.std.proofs.Common.{codes, refl}
use Rattle.clap.specs.Words.{found_of}
use Rattle.desk_words.proofs.WordsLemmas.{folder_as, folder_by, no_held_by, said_folder}
use Rattle.desk_words.proofs.calls.folder_call.Goals as goal

pub returns-in_err-db-clause-asked : goal.returns-in_err-db-clause-asked
returns-in_err-db-clause-asked c = λ asked named. let n = folder_by asked (found_of c.args.inner.now) named in no_held_by c.in_err-db.ensures n.4

pub returns-in_err-from-clause-asked : goal.returns-in_err-from-clause-asked
returns-in_err-from-clause-asked c = λ asked named. let n = folder_by asked (found_of c.args.inner.now) named in no_held_by c.in_err-from.ensures n.5

pub returns-in_err-to-clause-asked : goal.returns-in_err-to-clause-asked
returns-in_err-to-clause-asked c = λ asked named. let n = folder_by asked (found_of c.args.inner.now) named in no_held_by c.in_err-to.ensures n.6

pub returns-clause-said : goal.returns-clause-said
returns-clause-said c = said_folder (codes "drop") (found_of c.args.inner.now) _ _ _ refl c.in_ok-db.ensures c.in_ok-from.ensures c.in_ok-to.ensures

pub returns-clause-asked : goal.returns-clause-asked
returns-clause-asked c = λ asked named. folder_as asked (found_of c.args.inner.now) named c.in_ok-db.db.now c.in_ok-from.from.now c.in_ok-to.to.now c.in_ok-db.ensures c.in_ok-from.ensures c.in_ok-to.ensures
