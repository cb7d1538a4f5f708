use Rattle.std.proofs.Common.{None, Some, codes, refl}
use Rattle.clap.specs.Words.{found_of}
use Rattle.desk_words.proofs.WordsLemmas.{no_report, said_report, same_report}
use Rattle.desk_words.proofs.calls.report_call.Goals as goal

pub returns-in_err-parts-clause-asked : goal.returns-in_err-parts-clause-asked
returns-in_err-parts-clause-asked c = λ asked named. absurd (no_report asked (codes "report") (found_of c.args.inner.now) refl c.in_err-parts.ensures.asked named)

pub returns-in-Some-clause-said : goal.returns-in-Some-clause-said
returns-in-Some-clause-said c = said_report (codes "report") (found_of c.args.inner.now) (Some c.in-Some.db.now) _ _ refl c.in-Some.ensures c.in_ok-parts.ensures.said c.format_in-format.ensures

pub returns-in-Some-clause-asked : goal.returns-in-Some-clause-asked
returns-in-Some-clause-asked c = λ asked named. same_report asked (codes "report") (found_of c.args.inner.now) (Some c.in-Some.db.now) _ _ refl c.in-Some.ensures c.in_ok-parts.ensures.asked c.format_in-format.ensures named

pub returns-in-None-clause-said : goal.returns-in-None-clause-said
returns-in-None-clause-said c = said_report (codes "report") (found_of c.args.inner.now) None _ _ refl c.in-None.ensures c.in_ok-parts.ensures.said c.format_in-format.ensures

pub returns-in-None-clause-asked : goal.returns-in-None-clause-asked
returns-in-None-clause-asked c = λ asked named. same_report asked (codes "report") (found_of c.args.inner.now) None _ _ refl c.in-None.ensures c.in_ok-parts.ensures.asked c.format_in-format.ensures named
