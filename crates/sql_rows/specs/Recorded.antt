-- What a content has is recorded: entry by entry. Only private contracts and proofs speak of it.
use Rattle.std.specs.Prelude.{⊤, ◌⊎◌, ℕ, ◌+◌, ◌<◌, List, Option, IfSome}
use Rattle.std.specs.List.{AllByRecursion}
use Rattle.sqlite.specs.Effect.{Database}
use Rattle.desk_codes.specs.declared.currency.Ccy.{Ccy}
use Rattle.desk_rules.specs.declared.history.entry.Entry.{Entry}
use Rattle.desk_rules.specs.declared.history.entry.Entry.TheVariants.{Participant, Account, Issue, Redeem}
use Rattle.desk_rules.specs.Content.{Content, history_of}
use Rattle.desk_rules.specs.History.{entry_at}
use Rattle.desk_register.specs.Looked.{IsAboveText}
use Rattle.sql_rows.specs.declared.amounts.key.AmountKey.{AmountKey}
use Rattle.sql_rows.specs.declared.amounts.key.AmountKey.TheVariants.{Balance, Cash, Security, Currency}
use Rattle.sql_rows.specs.Amounts.{AreAmounts, amount_at}
use Rattle.sql_rows.specs.Said.{HasReadable, IsSaid}

-- the tables say what a content has under a key
abbrev pub IsRecorded : Database → Content → AmountKey → Type 0
IsRecorded db content key = IsSaid content key (amount_at db key)

-- so they do under every key, and what the content has can be read
pub record SaysAll (db : Database) (content : Content) : Type 0 where
  pub amounts : AreAmounts db
  pub each : (key : AmountKey) → IsRecorded db content key
  pub readable : HasReadable content

-- so it is of all that an account holds
pub record AreHoldingsRecorded (db : Database) (content : Content) (account : List ℕ) : Type 0 where
  pub each : (isin : List ℕ) → 0 < content.position account isin → IsRecorded db content (Balance account isin)

-- so it is of what an account holds up to a security
pub record AreRecordedTo (db : Database) (content : Content) (account : List ℕ) (last : Option (List ℕ)) : Type 0 where
  pub each : (isin : List ℕ) → 0 < content.position account isin → IsRecorded db content (Balance account isin) ⊎ IsAboveText last isin

-- so it is of what a participant has of each currency
pub record IsCashRecorded (db : Database) (content : Content) (bic : List ℕ) : Type 0 where
  pub each : (ccy : Ccy) → IsRecorded db content (Cash bic ccy)

-- so it is of what is paid in of each currency
pub record IsPaidRecorded (db : Database) (content : Content) : Type 0 where
  pub each : (ccy : Ccy) → IsRecorded db content (Currency ccy)

-- so it is of what an entry registers, issues or redeems
abbrev pub IsEntryRecorded : Database → Content → Entry → Type 0
IsEntryRecorded db content (Participant reference bic) = IsCashRecorded db content bic
IsEntryRecorded db content (Account reference bic account) = AreHoldingsRecorded db content account
IsEntryRecorded db content (Issue movement) = IsRecorded db content (Security movement.isin)
IsEntryRecorded db content (Redeem movement) = IsRecorded db content (Security movement.isin)
IsEntryRecorded db content _ = ⊤

-- so it is of the entry of a number
abbrev pub IsNumberRecorded : Database → Content → ℕ → Type 0
IsNumberRecorded db content number = IfSome (entry_at (history_of content) number) (IsEntryRecorded db content)

-- so it is of the first entries
pub record AreFirstRecorded (db : Database) (content : Content) (count : ℕ) : Type 0 where
  pub each : (k : ℕ) → k < count → IsNumberRecorded db content (k + 1)

-- so it is of all entries
pub record AreAllRecorded (db : Database) (content : Content) : Type 0 where
  pub each : AllByRecursion (IsEntryRecorded db content) (history_of content)
