use Rattle.std.proofs.Common.{None, Some}
use Rattle.clap.specs.Words.{found_of}
use Rattle.desk_words.proofs.JournalWords.{no_journal, said_journal, same_journal}
use Rattle.desk_words.proofs.calls.journal_call.Goals as goal

pub returns-in_err-from-clause-asked : goal.returns-in_err-from-clause-asked
returns-in_err-from-clause-asked c = λ asked named. absurd (no_journal asked (found_of c.args.inner.now) c.in_err-from.ensures.asked named)

pub returns-in-Some-clause-said : goal.returns-in-Some-clause-said
returns-in-Some-clause-said c = said_journal (found_of c.args.inner.now) (Some c.in-Some.db.now) _ _ c.in-Some.ensures c.in_ok-from.ensures.said c.format_in-format.ensures

pub returns-in-Some-clause-asked : goal.returns-in-Some-clause-asked
returns-in-Some-clause-asked c = λ asked named. same_journal asked (found_of c.args.inner.now) (Some c.in-Some.db.now) _ _ c.in-Some.ensures c.in_ok-from.ensures.asked c.format_in-format.ensures named

pub returns-in-None-clause-said : goal.returns-in-None-clause-said
returns-in-None-clause-said c = said_journal (found_of c.args.inner.now) None _ _ c.in-None.ensures c.in_ok-from.ensures.said c.format_in-format.ensures

pub returns-in-None-clause-asked : goal.returns-in-None-clause-asked
returns-in-None-clause-asked c = λ asked named. same_journal asked (found_of c.args.inner.now) None _ _ c.in-None.ensures c.in_ok-from.ensures.asked c.format_in-format.ensures named
