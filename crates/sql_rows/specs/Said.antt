-- What it means that the tables of amounts say what a content has.
use Rattle.std.specs.Prelude.{◌≡◌, ◌⊎◌, ⊤, ℕ, ◌+◌, ◌<◌, false, List, Option, None, Some, unwrap_or}
use Rattle.std.specs.List.{AllByRecursion}
use Rattle.sqlite.specs.Effect.{Database}
use Rattle.sqlite.specs.Order.{Row}
use Rattle.desk_codes.specs.declared.currency.Ccy.{Ccy}
use Rattle.desk_codes.specs.Account.{IsAccount}
use Rattle.desk_codes.specs.Bic.{IsBic}
use Rattle.desk_codes.specs.CheckDigit.{IsIsin}
use Rattle.desk_rules.specs.Balances.{issued, redeemed}
use Rattle.desk_rules.specs.Content.{Content, history_of}
use Rattle.desk_rules.specs.Facts.{is_participant, owner_of}
use Rattle.desk_register.specs.Looked.{IsPaid}
use Rattle.desk_holdings.specs.Holdings.{HoldsRegistered}
use Rattle.sql_rows.specs.declared.amounts.key.Ledger.{Ledger}
use Rattle.sql_rows.specs.declared.amounts.key.AmountKey.{AmountKey}
use Rattle.sql_rows.specs.declared.amounts.key.AmountKey.TheVariants.{Security, Currency}
use Rattle.sql_rows.specs.declared.amounts.key.AmountKey.TheVariants as keys
use Rattle.sql_rows.specs.Keys.{Texts, ledger_of, texts_of, tree_of}
use Rattle.sql_rows.specs.Amounts.{AreAmounts, amount_at, amount_on, texts_in}

-- What is recorded under a key, an amount or nothing, is what a content has there. Nothing recorded is 0; but of a currency
-- nothing is recorded only before any pay in of it.
abbrev pub IsSaid : Content → AmountKey → Option ℕ → Type 0
IsSaid content (keys.Balance account isin) recorded = unwrap_or recorded 0 ≡ content.position account isin
IsSaid content (keys.Cash bic ccy) recorded = unwrap_or recorded 0 ≡ content.cash bic ccy
IsSaid content (Security isin) recorded = redeemed (history_of content) isin + unwrap_or recorded 0 ≡ issued (history_of content) isin
IsSaid content (Currency ccy) recorded = IsPaid (history_of content) ccy recorded

-- two texts are those of a key of a table, and a content has so much there
pub record IsHad (content : Content) (ledger : Ledger) (texts : Texts) (amount : ℕ) : Type 0 where
  pub key : AmountKey
  pub ledger_is : ledger_of key ≡ ledger
  pub texts_are : texts_of key ≡ texts
  pub said : IsSaid content key (Some amount)

-- so much beside two texts says nothing, or what a content has
abbrev pub IsTrueOf : Content → Ledger → Texts → ℕ → Type 0
IsTrueOf content ledger texts amount = (amount ≡ 0) ⊎ IsHad content ledger texts amount

-- so it is of a row of a table
abbrev pub IsTrueRow : Content → Ledger → Row → Type 0
IsTrueRow content ledger row = IsTrueOf content ledger (texts_in row) (amount_on row)

-- The tables of amounts say what a content has, and nothing else.
pub record HasAmounts (db : Database) (content : Content) : Type 0 where
  pub amounts : AreAmounts db
  pub each : (ledger : Ledger) → AllByRecursion (IsTrueRow content ledger) (db.trees (tree_of ledger))
  pub said : (key : AmountKey) → IsSaid content key (amount_at db key)

-- What is not registered holds nothing, and has no cash: so it is where the content is that of accepted entries.
pub record HasNoStranger (content : Content) : Type 0 where
  pub holds : (account isin : List ℕ) → owner_of (history_of content) account ≡ None → content.position account isin ≡ 0
  pub pays : (bic : List ℕ) (ccy : Ccy) → is_participant (history_of content) bic ≡ false → content.cash bic ccy ≡ 0

-- the texts of a key are codes
abbrev pub IsReadable : AmountKey → Type 0
IsReadable (keys.Balance account isin) = IsAccount account × IsIsin isin
IsReadable (keys.Cash bic ccy) = IsBic bic
IsReadable (Security isin) = IsIsin isin
IsReadable (Currency ccy) = ⊤

-- What a content has some of it has under codes, and an account holds none but registered securities: so it is where the
-- content is that of accepted entries, each of them well formed.
pub record HasReadable (content : Content) : Type 0 where
  pub key : (key : AmountKey) (amount : ℕ) → 0 < amount → IsSaid content key (Some amount) → IsReadable key
  pub registered : (account : List ℕ) → HoldsRegistered content account
