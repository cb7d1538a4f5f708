-- Numbers in a fixed number of digits, and the number that is parsed of digits.
use Rattle.std.proofs.Common.{◌≡◌, ℕ, zero, suc, ◌+◌, ◌<◌, ◌/◌, ◌%◌, ◌^◌, List, [], ◌∷◌, length, Some, refl, sym, subst, ◌∙◌, ap, arith, length-append}
use Rattle.std.specs.Prelude.{Result}
use Rattle.std.specs.Char.{digit_value}
use Rattle.std.specs.Result.{result_ok}
use Rattle.std.specs.Str.{IsUtf8}
use Rattle.std.specs.Str.Parse.{AllDigits, IsNumeral, ParsesUnsigned, digits_value}
use Rattle.std.proofs.lemmas.Fmt.{IsAscii-from_digits}
use Rattle.std.proofs.lemmas.Str.{IsUtf8-from_ascii, digit_value_digit}
use Rattle.std.proofs.lemmas.Str.Parse.{numerals_by_value, parse_gives, tells_digits}
use Rattle.std.proofs.lemmas.Int.Digits.{digits_push, digits_value_push}
use Rattle.desk_msg.specs.OwnText.{last_digits}

-- the digit of a number below 10
digit_of : (d : ℕ) → d < 10 → digit_value (48 + d) ≡ d
digit_of d small = let is = digit_value_digit (48 + d) (omega arith, omega arith) in omega (arith, is)

pub length-last_digits : (k n : ℕ) → length (last_digits k n) ≡ k
unfolding last_digits
length-last_digits zero n = refl
length-last_digits (suc k) n = let ih = length-last_digits k (n / 10) in omega (arith, ih, length-append (last_digits k (n / 10)) ((48 + n % 10) ∷ []))

pub last_digits-digits : (k n : ℕ) → AllDigits 10 (last_digits k n)
unfolding last_digits
last_digits-digits zero n = tt
last_digits-digits (suc k) n = let is = digit_of (n % 10) (omega arith) in digits_push 10 (last_digits k (n / 10)) (48 + n % 10) (last_digits-digits k (n / 10)) (omega (arith, is))

-- digits that are enough for a number write it
pub last_digits-value : (k n : ℕ) → n < 10 ^ k → digits_value 10 (last_digits k n) ≡ n
unfolding last_digits
last_digits-value zero n small = omega (arith, small)
last_digits-value (suc k) n small =
    let front = last_digits-value k (n / 10) (omega (arith, small)) in
    let is = digit_of (n % 10) (omega arith) in
    digits_value_push 10 (last_digits k (n / 10)) (48 + n % 10) ∙ omega (arith, front, is)

pub fifteen_numeral : (n : ℕ) → IsNumeral 10 (last_digits 15 n)
fifteen_numeral n = (omega (arith, length-last_digits 15 n), last_digits-digits 15 n)

-- digits are text
pub numeral_text : (digits written : List ℕ) → digits ≡ written → IsNumeral 10 written → IsUtf8 digits
numeral_text digits written same numeral = IsUtf8-from_ascii digits (IsAscii-from_digits digits (subst (IsNumeral 10) (sym same) numeral).1)

-- and are parsed as the number that they write
pub parsed : {E : Type 0} (text written : List ℕ) (n : ℕ) (r : Result ℕ E) → text ≡ written → IsNumeral 10 written → digits_value 10 written ≡ n → n < 2 ^ 64 → ParsesUnsigned 64 10 text r → result_ok r ≡ Some n
parsed text written n r same numeral value fits parses =
    let is = ap (digits_value 10) same ∙ value in
    let digits = subst (IsNumeral 10) (sym same) numeral in
    ap result_ok (parse_gives (numerals_by_value (AllDigits 10) tells_digits) 64 text r parses digits.1 digits.0 (omega (arith, is, fits))) ∙ ap Some is
