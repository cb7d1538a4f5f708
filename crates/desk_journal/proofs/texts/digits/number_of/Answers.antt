use Rattle.std.proofs.Common.{◌≡◌, ◌∙◌, decimal, arith, rules}
use Rattle.std.proofs.lemmas.Fmt.{decimal_is_IsNumeral}
use Rattle.desk_msg.specs.OwnText.{last_digits}
use Rattle.desk_journal.proofs.NumeralLemmas.{fifteen_numeral, last_digits-value, numeral_text, parsed}
use Rattle.desk_journal.proofs.texts.digits.number_of.Goals as goal

pub returns-in_err-ok-clause-fifteen : goal.returns-in_err-ok-clause-fifteen
returns-in_err-ok-clause-fifteen c n is small = let text = numeral_text c.args.digits.now (last_digits 15 n) is (fifteen_numeral n) in search rules

pub returns-in_err-ok-clause-plain : goal.returns-in_err-ok-clause-plain
returns-in_err-ok-clause-plain c n is small = let text = numeral_text c.args.digits.now (decimal n) is (decimal_is_IsNumeral n small).0 in search rules

pub returns-clause-fifteen : goal.returns-clause-fifteen
returns-clause-fifteen c n is small =
    let same : c.in_ok-ok.field-0.now ≡ c.args.digits.now = search rules in
    c.ok-2.ensures.value ∙ parsed c.in_ok-ok.field-0.now (last_digits 15 n) n c.parse.result (same ∙ is) (fifteen_numeral n) (last_digits-value 15 n small) (omega (arith, small)) c.parse.ensures.value.0

pub returns-clause-plain : goal.returns-clause-plain
returns-clause-plain c n is small =
    let same : c.in_ok-ok.field-0.now ≡ c.args.digits.now = search rules in
    let numeral = decimal_is_IsNumeral n small in
    c.ok-2.ensures.value ∙ parsed c.in_ok-ok.field-0.now (decimal n) n c.parse.result (same ∙ is) numeral.0 numeral.1 small c.parse.ensures.value.0
