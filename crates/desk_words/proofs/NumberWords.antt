-- Words that are numbers, as the parser of words takes them.
use Rattle.std.proofs.Common.{◌≡◌, ◌≢◌, ◌==◌, ◌<◌, ◌≤◌, ◌^◌, sym, ap, ℕ, Bool, true, false, List, [], ◌∷◌, None, slice_index, refl, arith, subst}
use Rattle.std.specs.Prelude.{pos, decimal, FitsSigned, ◌≤ℤ◌}
use Rattle.std.specs.Int.{w64}
use Rattle.std.specs.Char.{digit_value}
use Rattle.std.specs.Str.{bytes_eq}
use Rattle.std.specs.Str.Parse.{IsNumeral, digits_value, signed_digits_value, starts_with_minus, without_leading_plus, without_leading_sign}
use Rattle.std.proofs.lemmas.Bool.{le-leb}
use Rattle.std.proofs.lemmas.Fmt.{decimal_is_IsNumeral}
use Rattle.clap.specs.Lexer.{long_of, short_of, without_minus}
use Rattle.clap.specs.ValueTests.{is_signed_in}
use Rattle.clap.specs.declared.builder.value_parser.ValueParser.TheVariants.{Signed}
use Rattle.clap.proofs.ValueTestLemmas.{Accepts-accepts}
use lib.Signed.{le_z_yes}
use lib.Dec.{T}
use Rattle.desk_words.proofs.PlainWords.{IsPlain, is_other, no_dashes, no_long, no_minus, no_short}

-- a number that is written in digits begins with no sign, and lies between bounds where it does

is_digit : (c : ℕ) → digit_value c < 10 → (c ≢ 45) × (c ≢ 43)
is_digit c digit = (
  (λ is. (let bad : digit_value 45 < 10 = subst (λ d. digit_value d < 10) is digit in absurd (omega (arith, bad)))),
  (λ is. (let bad : digit_value 43 < 10 = subst (λ d. digit_value d < 10) is digit in absurd (omega (arith, bad)))),
)

is_no_plus : (c : ℕ) → c ≢ 43 → (c == 43) ≡ false
is_no_plus c other = go (c == 43) refl
  where
    go : (b : Bool) → (c == 43) ≡ b → (c == 43) ≡ false
    go false e = e
    go true e = grind (arith, other, e)

pub no_sign : (text : List ℕ) → IsNumeral 10 text → (slice_index text 0 ≢ 45) × (starts_with_minus text ≡ false) × (without_leading_sign text ≡ text) × (without_leading_plus text ≡ text)
no_sign [] numeral = absurd (omega (arith, numeral.0))
no_sign (c ∷ text) numeral =
    let digit = is_digit c numeral.1.0 in
    let minus : (c == 45) ≡ false = is_other c digit.0 in
    let plus : (c == 43) ≡ false = is_no_plus c digit.1 in
    (digit.0, minus, rw (minus, plus) refl, rw plus refl)

in_order : (a b : ℕ) → a ≤ b → pos a ≤ℤ pos b
in_order a b h = le_z_yes (subst T (sym (le-leb a b h)) tt)

signed_in : (text : List ℕ) (n high : ℕ) → IsNumeral 10 text → digits_value 10 text ≡ n → 1 ≤ n → n ≤ high → high < 2 ^ 63 → is_signed_in (pos 1) (pos high) text ≡ true
signed_in text n high numeral value low most small =
    let plain = no_sign text numeral in
    let z : signed_digits_value 10 text ≡ pos n = rw (plain.2, plain.1) (ap pos value) in
    let below : n < 2 ^ 63 = omega (arith, most, small) in
    Accepts-accepts false (Signed (pos 1) (pos high)) text (
      subst (IsNumeral 10) (sym plain.2) numeral,
      subst (FitsSigned w64) (sym z) (record { sfits = below }),
      subst (λ v. pos 1 ≤ℤ v) (sym z) (in_order 1 n low),
      subst (λ v. v ≤ℤ pos high) (sym z) (in_order n high most),
    )

-- what the parser finds of a number that is written in digits
pub record IsTaken (high : ℕ) (text : List ℕ) : Type 0 where
  pub dashes : bytes_eq text (45 ∷ 45 ∷ []) ≡ false
  pub long : long_of text ≡ None
  pub short : short_of text ≡ None
  pub plain : without_minus text ≡ text
  pub fits : is_signed_in (pos 1) (pos high) text ≡ true

pub plain_number : {high : ℕ} {text : List ℕ} → IsTaken high text → IsPlain text
plain_number is = record { dashes = is.dashes; long = is.long; short = is.short }

pub number_taken : (n high : ℕ) → 1 ≤ n → n ≤ high → high < 2 ^ 63 → IsTaken high (decimal n)
number_taken n high low most small =
    let below : n < 2 ^ 64 = omega (arith, most, small) in
    let is = decimal_is_IsNumeral n below in
    let other = (no_sign (decimal n) is.0).0 in
    record {
      dashes = no_dashes (decimal n) other;
      long = no_long (decimal n) other;
      short = no_short (decimal n) other;
      plain = no_minus (decimal n) other;
      fits = signed_in (decimal n) n high is.0 is.1 low most small;
    }
