use Rattle.std.proofs.Common.{true, false}
use Rattle.clap.specs.Words.{found_of}
use Rattle.desk_words.proofs.PlayWords.{said_alone, said_on_file, same_alone, same_on_file}
use Rattle.desk_words.proofs.calls.play_call.Goals as goal

pub returns-in-None-clause-said : goal.returns-in-None-clause-said
returns-in-None-clause-said c = said_alone (found_of c.args.inner.now) c.in-None.ensures

pub returns-in-None-clause-asked : goal.returns-in-None-clause-asked
returns-in-None-clause-asked c = λ asked named. same_alone (found_of c.args.inner.now) asked c.in-None.ensures named

pub returns-in-Some-clause-said : goal.returns-in-Some-clause-said
returns-in-Some-clause-said c = said_on_file (found_of c.args.inner.now) c.in-Some.db.now true c.in-Some.ensures c.if-is_dry.ensures

pub returns-in-Some-clause-asked : goal.returns-in-Some-clause-asked
returns-in-Some-clause-asked c = λ asked named. same_on_file (found_of c.args.inner.now) asked c.in-Some.db.now true c.in-Some.ensures c.if-is_dry.ensures named

pub returns-in-Some-2-clause-said : goal.returns-in-Some-2-clause-said
returns-in-Some-2-clause-said c = said_on_file (found_of c.args.inner.now) c.in-Some.db.now false c.in-Some.ensures c.if-is_dry.ensures

pub returns-in-Some-2-clause-asked : goal.returns-in-Some-2-clause-asked
returns-in-Some-2-clause-asked c = λ asked named. same_on_file (found_of c.args.inner.now) asked c.in-Some.db.now false c.in-Some.ensures c.if-is_dry.ensures named
