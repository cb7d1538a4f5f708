use Rattle.std.proofs.Common.{sym, subst}
use Rattle.std.specs.Prelude.{IfSome}
use Rattle.clap.specs.Words.{found_of, rows_of}
use Rattle.desk_words.specs.Words.{IsSaid, IsSpelledOut, value_of_call}
use Rattle.desk_words.proofs.WordsLemmas.{no_code, no_sums, no_type, no_word, none_said, said_code, said_sums, said_answer, said_type, same_code, same_sums, same_answer, same_type}
use Rattle.desk_words.proofs.calls.subcommand_call.Goals as goal

pub returns-in_err-get_str-in-isin-clause-asked : goal.returns-in_err-get_str-in-isin-clause-asked
returns-in_err-get_str-in-isin-clause-asked c = λ asked named. absurd (no_code asked c.args.name.now (found_of c.args.inner.now) c.in-isin.is c.in_err-get_str-in-isin.ensures named)

pub returns-in_ok-get_str-in-isin-clause-asked : goal.returns-in_ok-get_str-in-isin-clause-asked
returns-in_ok-get_str-in-isin-clause-asked c = λ asked named. same_code asked c.args.name.now (found_of c.args.inner.now) _ c.in-isin.is c.in_ok-get_str-in-isin.ensures named

pub returns-in_err-type_in-in-read-clause-asked : goal.returns-in_err-type_in-in-read-clause-asked
returns-in_err-type_in-in-read-clause-asked c = λ asked named. absurd (no_type asked c.args.name.now (found_of c.args.inner.now) c.in-read.is c.in_err-type_in-in-read.ensures.asked named)

pub returns-in_ok-type_in-in-read-clause-asked : goal.returns-in_ok-type_in-in-read-clause-asked
returns-in_ok-type_in-in-read-clause-asked c = λ asked named. same_type asked c.args.name.now (found_of c.args.inner.now) _ c.in-read.is c.in_ok-type_in-in-read.ensures.asked named

pub returns-in_ok-get_str-in-isin-clause-said : goal.returns-in_ok-get_str-in-isin-clause-said
returns-in_ok-get_str-in-isin-clause-said c = said_code c.args.name.now (found_of c.args.inner.now) _ c.in-isin.is c.in_ok-get_str-in-isin.ensures

pub returns-in_ok-type_in-in-read-clause-said : goal.returns-in_ok-type_in-in-read-clause-said
returns-in_ok-type_in-in-read-clause-said c = said_type c.args.name.now (found_of c.args.inner.now) _ c.in-read.is c.in_ok-type_in-in-read.ensures.said

pub returns-in_ok-get_str-in-sums-clause-said : goal.returns-in_ok-get_str-in-sums-clause-said
returns-in_ok-get_str-in-sums-clause-said c = said_sums c.args.name.now (found_of c.args.inner.now) _ c.in-sums.is c.in_ok-get_str-in-sums.ensures

pub returns-in_err-get_str-in-sums-clause-asked : goal.returns-in_err-get_str-in-sums-clause-asked
returns-in_err-get_str-in-sums-clause-asked c = λ asked named. absurd (no_sums asked c.args.name.now (found_of c.args.inner.now) c.in-sums.is c.in_err-get_str-in-sums.ensures named)

pub returns-in_ok-get_str-in-sums-clause-asked : goal.returns-in_ok-get_str-in-sums-clause-asked
returns-in_ok-get_str-in-sums-clause-asked c = λ asked named. same_sums asked c.args.name.now (found_of c.args.inner.now) _ c.in-sums.is c.in_ok-get_str-in-sums.ensures named

pub returns-in-play-clause-said : goal.returns-in-play-clause-said
returns-in-play-clause-said c = subst (λ n. IsSaid (value_of_call c.play_call.result) n (rows_of (found_of c.args.inner.now))) (sym c.in-play.is) c.play_call.ensures.said

pub returns-in-play-clause-asked : goal.returns-in-play-clause-asked
returns-in-play-clause-asked c = λ asked named. c.play_call.ensures.asked asked (subst (λ n. IsSpelledOut asked n (rows_of (found_of c.args.inner.now))) c.in-play.is named)

pub returns-in-serve-clause-said : goal.returns-in-serve-clause-said
returns-in-serve-clause-said c = subst (λ n. IfSome c.serve_call.result (λ call. IsSaid (value_of_call call) n (rows_of (found_of c.args.inner.now)))) (sym c.in-serve.is) c.serve_call.ensures.said

pub returns-in-serve-clause-asked : goal.returns-in-serve-clause-asked
returns-in-serve-clause-asked c = λ asked named. c.serve_call.ensures.asked asked (subst (λ n. IsSpelledOut asked n (rows_of (found_of c.args.inner.now))) c.in-serve.is named)

pub returns-in-holdings-clause-said : goal.returns-in-holdings-clause-said
returns-in-holdings-clause-said c = subst (λ n. IfSome c.holdings_call.result (λ call. IsSaid (value_of_call call) n (rows_of (found_of c.args.inner.now)))) (sym c.in-holdings.is) c.holdings_call.ensures.said

pub returns-in-holdings-clause-asked : goal.returns-in-holdings-clause-asked
returns-in-holdings-clause-asked c = λ asked named. c.holdings_call.ensures.asked asked (subst (λ n. IsSpelledOut asked n (rows_of (found_of c.args.inner.now))) c.in-holdings.is named)

pub returns-in-report-clause-said : goal.returns-in-report-clause-said
returns-in-report-clause-said c = subst (λ n. IfSome c.report_call.result (λ call. IsSaid (value_of_call call) n (rows_of (found_of c.args.inner.now)))) (sym c.in-report.is) c.report_call.ensures.said

pub returns-in-report-clause-asked : goal.returns-in-report-clause-asked
returns-in-report-clause-asked c = λ asked named. c.report_call.ensures.asked asked (subst (λ n. IsSpelledOut asked n (rows_of (found_of c.args.inner.now))) c.in-report.is named)

pub returns-in-journal-clause-said : goal.returns-in-journal-clause-said
returns-in-journal-clause-said c = subst (λ n. IfSome c.journal_call.result (λ call. IsSaid (value_of_call call) n (rows_of (found_of c.args.inner.now)))) (sym c.in-journal.is) c.journal_call.ensures.said

pub returns-in-journal-clause-asked : goal.returns-in-journal-clause-asked
returns-in-journal-clause-asked c = λ asked named. c.journal_call.ensures.asked asked (subst (λ n. IsSpelledOut asked n (rows_of (found_of c.args.inner.now))) c.in-journal.is named)

pub returns-in-drop-clause-said : goal.returns-in-drop-clause-said
returns-in-drop-clause-said c = subst (λ n. IfSome c.folder_call.result (λ call. IsSaid (value_of_call call) n (rows_of (found_of c.args.inner.now)))) (sym c.in-drop.is) c.folder_call.ensures.said

pub returns-in-drop-clause-asked : goal.returns-in-drop-clause-asked
returns-in-drop-clause-asked c = λ asked named. c.folder_call.ensures.asked asked (subst (λ n. IsSpelledOut asked n (rows_of (found_of c.args.inner.now))) c.in-drop.is named)

pub returns-in-migrate-clause-said : goal.returns-in-migrate-clause-said
returns-in-migrate-clause-said c = subst (λ n. IfSome c.migrate_call.result (λ call. IsSaid (value_of_call call) n (rows_of (found_of c.args.inner.now)))) (sym c.in-migrate.is) c.migrate_call.ensures.said

pub returns-in-migrate-clause-asked : goal.returns-in-migrate-clause-asked
returns-in-migrate-clause-asked c = λ asked named. c.migrate_call.ensures.asked asked (subst (λ n. IsSpelledOut asked n (rows_of (found_of c.args.inner.now))) c.in-migrate.is named)

pub returns-in_err-get_str-in-isin-clause-readable : goal.returns-in_err-get_str-in-isin-clause-readable
returns-in_err-get_str-in-isin-clause-readable c = none_said c.from_residual.result _ c.from_residual.ensures

pub returns-in_err-get_str-in-isin-clause-said : goal.returns-in_err-get_str-in-isin-clause-said
returns-in_err-get_str-in-isin-clause-said c = none_said c.from_residual.result _ c.from_residual.ensures

pub returns-in_err-type_in-in-read-clause-readable : goal.returns-in_err-type_in-in-read-clause-readable
returns-in_err-type_in-in-read-clause-readable c = none_said c.from_residual-in_err-type_in-in-read.result _ c.from_residual-in_err-type_in-in-read.ensures

pub returns-in_err-type_in-in-read-clause-said : goal.returns-in_err-type_in-in-read-clause-said
returns-in_err-type_in-in-read-clause-said c = none_said c.from_residual-in_err-type_in-in-read.result _ c.from_residual-in_err-type_in-in-read.ensures

pub returns-in_err-get_str-in-sums-clause-readable : goal.returns-in_err-get_str-in-sums-clause-readable
returns-in_err-get_str-in-sums-clause-readable c = none_said c.from_residual-in_err-get_str-in-sums.result _ c.from_residual-in_err-get_str-in-sums.ensures

pub returns-in_err-get_str-in-sums-clause-said : goal.returns-in_err-get_str-in-sums-clause-said
returns-in_err-get_str-in-sums-clause-said c = none_said c.from_residual-in_err-get_str-in-sums.result _ c.from_residual-in_err-get_str-in-sums.ensures

pub returns-in_ok-get_str-in-isin-clause-readable : goal.returns-in_ok-get_str-in-isin-clause-readable
returns-in_ok-get_str-in-isin-clause-readable c = tt

pub returns-in-check-clause-readable : goal.returns-in-check-clause-readable
returns-in-check-clause-readable c = c.check_call.ensures.readable

pub returns-in_ok-get_str-in-sums-clause-readable : goal.returns-in_ok-get_str-in-sums-clause-readable
returns-in_ok-get_str-in-sums-clause-readable c = tt

pub returns-in_default-clause-readable : goal.returns-in_default-clause-readable
returns-in_default-clause-readable c = tt

pub returns-in_default-clause-said : goal.returns-in_default-clause-said
returns-in_default-clause-said c = tt

pub returns-in_ok-type_in-in-read-clause-readable : goal.returns-in_ok-type_in-in-read-clause-readable
returns-in_ok-type_in-in-read-clause-readable c = c.in_ok-type_in-in-read.ensures.right

pub returns-in-play-clause-readable : goal.returns-in-play-clause-readable
returns-in-play-clause-readable c = c.play_call.ensures.readable

pub returns-in-serve-clause-readable : goal.returns-in-serve-clause-readable
returns-in-serve-clause-readable c = c.serve_call.ensures.readable

pub returns-in-holdings-clause-readable : goal.returns-in-holdings-clause-readable
returns-in-holdings-clause-readable c = c.holdings_call.ensures.readable

pub returns-in-report-clause-readable : goal.returns-in-report-clause-readable
returns-in-report-clause-readable c = c.report_call.ensures.readable

pub returns-in-journal-clause-readable : goal.returns-in-journal-clause-readable
returns-in-journal-clause-readable c = c.journal_call.ensures.readable

pub returns-in-drop-clause-readable : goal.returns-in-drop-clause-readable
returns-in-drop-clause-readable c = c.folder_call.ensures.readable

pub returns-in-migrate-clause-readable : goal.returns-in-migrate-clause-readable
returns-in-migrate-clause-readable c = c.migrate_call.ensures.readable

pub returns-in-check-clause-said : goal.returns-in-check-clause-said
returns-in-check-clause-said c = subst (λ n. IsSaid (value_of_call c.check_call.result) n (rows_of (found_of c.args.inner.now))) (sym c.in-check.is) c.check_call.ensures.said

pub returns-in-check-clause-asked : goal.returns-in-check-clause-asked
returns-in-check-clause-asked c = λ asked named. c.check_call.ensures.asked asked (subst (λ n. IsSpelledOut asked n (rows_of (found_of c.args.inner.now))) c.in-check.is named)

pub returns-in_default-clause-asked : goal.returns-in_default-clause-asked
returns-in_default-clause-asked c = λ asked named.
    let others = c.in_default in
    no_word asked c.args.name.now (rows_of (found_of c.args.inner.now)) others.not-isin others.not-read others.not-play others.not-check others.not-explain others.not-serve others.not-holdings others.not-sums others.not-report others.not-journal others.not-drop others.not-migrate named

pub returns-in-explain-clause-asked : goal.returns-in-explain-clause-asked
returns-in-explain-clause-asked c = λ asked named. same_answer asked c.args.name.now (found_of c.args.inner.now) _ c.in-explain.is c.quoted_in.ensures named

pub returns-in-explain-clause-said : goal.returns-in-explain-clause-said
returns-in-explain-clause-said c = said_answer c.args.name.now (found_of c.args.inner.now) _ c.in-explain.is c.quoted_in.ensures

pub returns-in-explain-clause-readable : goal.returns-in-explain-clause-readable
returns-in-explain-clause-readable c = tt
