-- The desk's totals: of each security that is registered, and of each currency that was paid in.
use Rattle.std.specs.Prelude.{◌≡◌, ℕ, ◌+◌, ◌<◌, true, List, AllPairs, Contains, Option, Some, None, is_some, sum_by}
use Rattle.desk_codes.specs.declared.currency.Ccy.{Ccy}
use Rattle.desk_codes.specs.Currency.{letters_of}
use Rattle.desk_rules.specs.declared.history.entry.Entry.{Entry}
use Rattle.desk_rules.specs.Facts.{accounts_of, kind_of, participants_of}
use Rattle.desk_rules.specs.Balances.{cash_credits, cash_debits, credits, debits, issued, paid_in, paid_out, redeemed}
use Rattle.desk_rules.specs.Books.{Books}
use Rattle.desk_rules.specs.Content.{Content, history_of}
use Rattle.desk_register.specs.Looked.{IsLess, held_cash_of, held_of}
use Rattle.desk_book.specs.declared.answers.total.CashTotal.{CashTotal}
use Rattle.desk_book.specs.declared.answers.total.SecurityTotal.{SecurityTotal}

-- the rows of these keys, each once, in the order of the keys' bytes
pub record AreRows {Row : Type 0} (key_of : Row → List ℕ) (IsKey : List ℕ → Type 0) (IsRow : Row → Type 0) (rows : List Row) : Type 0 where
  pub each : (row : Row) → Contains rows row → IsRow row
  pub all : (key : List ℕ) → IsKey key → (row : Row) × Contains rows row × (key_of row ≡ key)
  pub in_order : AllPairs (λ a b. IsLess (key_of a) (key_of b)) rows

-- an ISIN is that of a registered security; letters are those of a currency that was paid in
abbrev pub IsRegistered : List Entry → List ℕ → Type 0
IsRegistered history isin = is_some (kind_of history isin) ≡ true

abbrev pub IsPaidIn : List Entry → List ℕ → Type 0
IsPaidIn history letters = (ccy : Ccy) × (letters_of ccy ≡ letters) × (0 < paid_in history ccy)

-- By the desk's books: what accounts, or participants, hold are their credits less their debits.

-- a security: what all accounts hold, and what was issued less what was redeemed
pub record IsSum (books : Books) (total : SecurityTotal) : Type 0 where
  pub known : IsRegistered books.history total.isin
  pub held : total.held + sum_by (λ account. debits books.history books.settled account total.isin) (accounts_of books.history)
      ≡ sum_by (λ account. credits books.history books.settled account total.isin) (accounts_of books.history)
  pub outstanding : redeemed books.history total.isin + total.outstanding ≡ issued books.history total.isin

abbrev pub AreSums : Books → List SecurityTotal → Type 0
AreSums books totals = AreRows (λ total. total.isin) (IsRegistered books.history) (IsSum books) totals

-- a currency: what all participants hold, and what was paid in less what was paid out
pub record IsCashSum (books : Books) (total : CashTotal) : Type 0 where
  pub known : IsPaidIn books.history (letters_of total.ccy)
  pub held : total.held + sum_by (λ bic. cash_debits books.history books.settled bic total.ccy) (participants_of books.history)
      ≡ sum_by (λ bic. cash_credits books.history books.settled bic total.ccy) (participants_of books.history)
  pub net : paid_out books.history total.ccy + total.net ≡ paid_in books.history total.ccy

abbrev pub AreCashSums : Books → List CashTotal → Type 0
AreCashSums books totals = AreRows (λ total. letters_of total.ccy) (IsPaidIn books.history) (IsCashSum books) totals

-- By the tables of a register, as its calls tell them.

pub record IsTotal (content : Content) (total : SecurityTotal) : Type 0 where
  pub known : IsRegistered (history_of content) total.isin
  pub held : total.held ≡ held_of content total.isin
  pub outstanding : redeemed (history_of content) total.isin + total.outstanding ≡ issued (history_of content) total.isin

abbrev pub AreTotals : Content → List SecurityTotal → Type 0
AreTotals content totals = AreRows (λ total. total.isin) (IsRegistered (history_of content)) (IsTotal content) totals

pub record IsCashTotal (content : Content) (total : CashTotal) : Type 0 where
  pub known : IsPaidIn (history_of content) (letters_of total.ccy)
  pub held : total.held ≡ held_cash_of content total.ccy
  pub net : paid_out (history_of content) total.ccy + total.net ≡ paid_in (history_of content) total.ccy

abbrev pub AreCashTotals : Content → List CashTotal → Type 0
AreCashTotals content totals = AreRows (λ total. letters_of total.ccy) (IsPaidIn (history_of content)) (IsCashTotal content) totals

-- What a currency totals: none before any of it was paid in. Only private contracts speak of it.
abbrev pub TotalsCash : Content → Ccy → Option CashTotal → Type 0
TotalsCash content ccy None = paid_in (history_of content) ccy ≡ 0
TotalsCash content ccy (Some total) = IsCashTotal content total × (total.ccy ≡ ccy)
