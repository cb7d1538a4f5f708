-- The desk's totals as a JSON object. The members of an object stand in the order of their names.
use Rattle.std.specs.Prelude.{ℕ, Bool, true, List, [], ◌∷◌, ◌++◌, map, codes}
use Rattle.serde_json.specs.Data.{Data, object, array, no_members, member}
use Rattle.serde_json.specs.View.{items_of}
use Rattle.serde_json.specs.Written.{comma_if, compact_text}
use Rattle.desk_codes.specs.Currency.{letters_of}
use Rattle.desk_book.specs.Command.{text_member, number_member}
use Rattle.desk_book.specs.declared.answers.total.CashTotal.{CashTotal}
use Rattle.desk_book.specs.declared.answers.total.SecurityTotal.{SecurityTotal}

-- a row: a currency, what participants hold of it, and what was paid in less what was paid out
abbrev pub cash_data : CashTotal → Data
cash_data total =
    object (text_member (codes "ccy") (letters_of total.ccy) (number_member (codes "held") total.held (number_member (codes "net") total.net no_members)))

-- a row: a security, what accounts hold of it, and what was issued less what was redeemed
abbrev pub security_data : SecurityTotal → Data
security_data total =
    object (number_member (codes "held") total.held (text_member (codes "isin") total.isin (number_member (codes "outstanding") total.outstanding no_members)))

abbrev pub sums_data : List CashTotal → List SecurityTotal → Data
sums_data cash securities =
    object (member (codes "cash") (array (items_of (map cash_data cash))) (member (codes "securities") (array (items_of (map security_data securities))) no_members))

-- the object's text, without white space
abbrev pub sums_text : List CashTotal → List SecurityTotal → List ℕ
sums_text cash securities = compact_text (sums_data cash securities)

-- The rows of an array, one after another, with a comma between two, and before the first where rows stand before it. Only
-- private contracts speak of it.
abbrev pub rows_text : Bool → List Data → List ℕ
rows_text is_later [] = []
rows_text is_later (row ∷ rows) = comma_if is_later ++ (compact_text row ++ rows_text true rows)
