-- The currencies of the desk (ISO 4217).
use Rattle.std.specs.Prelude.{ℕ, List, Option, bytes_eq, codes, find}
use Rattle.std.specs.List.{position_or_len}
use Rattle.desk_codes.specs.declared.currency.Ccy.{Ccy}
use Rattle.desk_codes.specs.declared.currency.Ccy.TheVariants.{Chf, Eur, Gbp, Jpy, Kwd, Usd}
use Rattle.desk_codes.specs.declared.currency.TheConstants.{CURRENCIES}

-- the three letters
abbrev pub letters_of : Ccy → List ℕ
letters_of Chf = codes "CHF"
letters_of Eur = codes "EUR"
letters_of Gbp = codes "GBP"
letters_of Jpy = codes "JPY"
letters_of Kwd = codes "KWD"
letters_of Usd = codes "USD"

-- how many decimals its minor unit has
abbrev pub decimals_of : Ccy → ℕ
decimals_of Chf = 2
decimals_of Eur = 2
decimals_of Gbp = 2
decimals_of Jpy = 0
decimals_of Kwd = 3
decimals_of Usd = 2

-- the currency of the list that has these letters; none where no currency of it has them
abbrev pub ccy_of : List ℕ → Option Ccy
ccy_of letters = find (λ ccy. bytes_eq (letters_of ccy) letters) CURRENCIES

-- the place of a currency in the list, from 0
unfoldable pub place_of : Ccy → ℕ
place_of ccy = position_or_len (λ other. bytes_eq (letters_of other) (letters_of ccy)) CURRENCIES
