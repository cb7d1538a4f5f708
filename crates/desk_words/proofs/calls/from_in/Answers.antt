use Rattle.std.proofs.Common.{◌<◌, ◌^◌, ◌∙◌, arith, codes, decimal}
use Rattle.clap.specs.Words.{found_of, first_value, one_text}
use Rattle.desk_words.proofs.JournalWords.{none_asked, not_asked, number_asked}
use Rattle.desk_words.proofs.WordsLemmas.{read_value, reads_back}
use Rattle.desk_words.proofs.calls.from_in.Goals as goal

pub returns-in-None-clause-asked : goal.returns-in-None-clause-asked
returns-in-None-clause-asked c = λ from spelled. none_asked from (first_value (found_of c.args.inner.now) (codes "from")) (one_text (found_of c.args.inner.now) (codes "from")) c.in-None.ensures spelled

pub returns-in_err-get_one-in-Some-clause-asked : goal.returns-in_err-get_one-in-Some-clause-asked
returns-in_err-get_one-in-Some-clause-asked c = λ from spelled. absurd (not_asked from _ _ _ c.in-Some.ensures (λ number small is.
    let wide : number < 2 ^ 64 = omega (arith, small) in
    let wrong = c.in_err-get_one-in-Some.ensures.value (decimal number) is in
    absurd (wrong.1.0 (reads_back number wide 32 small))) spelled)

pub returns-in_ok-get_one-in-Some-clause-asked : goal.returns-in_ok-get_one-in-Some-clause-asked
returns-in_ok-get_one-in-Some-clause-asked c = λ from spelled. number_asked from _ _ _ _ c.in-Some.ensures (λ number small is.
    let wide : number < 2 ^ 64 = omega (arith, small) in
    let read = c.in_ok-get_one-in-Some.ensures.value (decimal number) is in
    read.0.1 ∙ read_value number wide) spelled
