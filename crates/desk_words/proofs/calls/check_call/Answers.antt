use Rattle.std.proofs.Common.{None, Some}
use Rattle.clap.specs.Words.{found_of}
use Rattle.desk_words.proofs.CheckWords.{said_check, same_check}
use Rattle.desk_words.proofs.calls.check_call.Goals as goal

pub returns-in-Some-clause-said : goal.returns-in-Some-clause-said
returns-in-Some-clause-said c = said_check (found_of c.args.inner.now) (Some c.in-Some.db.now) _ c.in-Some.ensures c.format_in-format.ensures

pub returns-in-Some-clause-asked : goal.returns-in-Some-clause-asked
returns-in-Some-clause-asked c = λ asked named. same_check asked (found_of c.args.inner.now) (Some c.in-Some.db.now) _ c.in-Some.ensures c.format_in-format.ensures named

pub returns-in-None-clause-said : goal.returns-in-None-clause-said
returns-in-None-clause-said c = said_check (found_of c.args.inner.now) None _ c.in-None.ensures c.format_in-format.ensures

pub returns-in-None-clause-asked : goal.returns-in-None-clause-asked
returns-in-None-clause-asked c = λ asked named. same_check asked (found_of c.args.inner.now) None _ c.in-None.ensures c.format_in-format.ensures named
