use Rattle.clap.specs.Words.{found_of}
use Rattle.desk_words.proofs.MigrateWords.{files_as, files_by, said_files}
use Rattle.desk_words.proofs.WordsLemmas.{no_held_by}
use Rattle.desk_words.proofs.calls.migrate_call.Goals as goal

pub returns-in_err-old-clause-asked : goal.returns-in_err-old-clause-asked
returns-in_err-old-clause-asked c = λ asked named. let n = files_by asked (found_of c.args.inner.now) named in no_held_by c.in_err-old.ensures n.3

pub returns-in_err-new-clause-asked : goal.returns-in_err-new-clause-asked
returns-in_err-new-clause-asked c = λ asked named. let n = files_by asked (found_of c.args.inner.now) named in no_held_by c.in_err-new.ensures n.4

pub returns-clause-said : goal.returns-clause-said
returns-clause-said c = said_files (found_of c.args.inner.now) _ _ c.in_ok-old.ensures c.in_ok-new.ensures

pub returns-clause-asked : goal.returns-clause-asked
returns-clause-asked c = λ asked named. files_as asked (found_of c.args.inner.now) named c.in_ok-old.old.now c.in_ok-new.new.now c.in_ok-old.ensures c.in_ok-new.ensures
