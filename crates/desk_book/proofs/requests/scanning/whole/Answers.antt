-- The digits of a number.
use Rattle.std.proofs.Common.{◌<◌, ◌^◌, sym, ap, ◌∙◌, subst, decimal}
use Rattle.std.proofs.lemmas.Fmt.{IsAscii-decimal}
use Rattle.desk_book.proofs.FlatLemmas.{number_passed, number_fits, written_so}
use Rattle.desk_book.proofs.requests.scanning.whole.Goals as goal

pub returns-clause-passed : goal.returns-clause-passed
returns-clause-passed c =
    let n = c.number_of-number.result in
    let digits = c.in_ok-digits.digits.now in
    let all = c.in_ok-digits.ensures.digits in
    let short = c.in_ok-digits.ensures.short in
    let fits = subst (λ m. m < 2 ^ 64) (sym c.number_of-number.ensures) (number_fits digits all short) in
    let is_shortest = c.is_shortest.ensures in
    number_passed n c.args.text.now digits c.in_ok-digits.rest.now fits (c.ends_word.ensures c.if-not-ends_word.false) (IsAscii-decimal n fits) c.in_ok-digits.ensures.split
    (ap decimal c.number_of-number.ensures ∙ written_so digits all short (is_shortest.some c.if-not-is_shortest.false) (is_shortest.first c.if-not-is_shortest.false))
