use Rattle.std.proofs.Common.{◌<◌, ◌^◌, ◌∙◌, arith, decimal}
use Rattle.desk_words.proofs.WordsLemmas.{read_value, reads_back}
use Rattle.desk_words.proofs.calls.service_in.Goals as goal

pub returns-in_err-port-clause-asked : goal.returns-in_err-port-clause-asked
returns-in_err-port-clause-asked c = λ port count small is.
    let wide : port < 2 ^ 64 = omega (arith, small) in
    let wrong = c.in_err-port.ensures.value (decimal port) is in
    λ fits one. absurd (wrong.1.0 (reads_back port wide 16 small))

pub returns-in_err-count-clause-asked : goal.returns-in_err-count-clause-asked
returns-in_err-count-clause-asked c = λ port count fits one small is.
    let wide : count < 2 ^ 64 = omega (arith, small) in
    let wrong = c.in_err-count.ensures.value (decimal count) is in
    absurd (wrong.1.0 (reads_back count wide 32 small))

pub returns-clause-asked : goal.returns-clause-asked
returns-clause-asked c = λ port count fits one small is.
    let a : port < 2 ^ 64 = omega (arith, fits) in
    let b : count < 2 ^ 64 = omega (arith, small) in
    let first = c.in_ok-port.ensures.value (decimal port) one in
    let second = c.in_ok-count.ensures.value (decimal count) is in
    (first.0.1 ∙ read_value port a, second.0.1 ∙ read_value count b)
