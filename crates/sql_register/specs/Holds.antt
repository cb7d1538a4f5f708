-- What the desk's tables keep true.
use Rattle.std.specs.Prelude.{◌≡◌, ◌≢◌, ℕ, ◌+◌, ◌<◌, length, false, [], codes, List, Option, None, Some, unwrap_or}
use Rattle.std.specs.List.{AllByRecursion}
use Rattle.sqlite.specs.Effect.{Database}
use Rattle.desk_codes.specs.declared.currency.Ccy.{Ccy}
use Rattle.desk_codes.specs.Currency.{letters_of}
use Rattle.desk_rules.specs.declared.history.entry.Instructed.{Instructed}
use Rattle.desk_rules.specs.declared.history.standing.State.TheVariants.{NoInstruction}
use Rattle.desk_rules.specs.Balances.{issued, paid_in, paid_out, redeemed}
use Rattle.desk_rules.specs.Content.{Content, history_of}
use Rattle.desk_rules.specs.Facts.{is_participant, owner_of}
use Rattle.desk_rules.specs.History.{instruction_at}
use Rattle.desk_rules.specs.Standing.{no_standing}
use Rattle.desk_rules.specs.WellFormed.{AreWellFormed}
use Rattle.desk_register.specs.Looked.{held_cash_of, held_of, IsPaid}
use Rattle.desk_register.specs.declared.holding.Holding.{Holding}
use Rattle.sql_rows.specs.declared.amounts.key.Ledger.TheVariants.{Total}
use Rattle.sql_rows.specs.Amounts.{AreAmounts, amount_in}
use Rattle.sql_entries.specs.Entries.{AreEntries}
use Rattle.sql_entries.specs.Shown.{HaveShortNumbers}
use Rattle.sql_rows.specs.Messages.{AreSent, IsSendable}
use Rattle.sql_rows.specs.Standings.{AreStandings}
use Rattle.sql_tables.specs.Schema.{desk_schema}
use Rattle.sql_tables.specs.Version.{HasVersion}
use Rattle.sql_tables.specs.declared.version.TheConstants.{VERSION}
use Rattle.sql_register.specs.Content.{content_in}
use Rattle.desk_register.specs.RegisteredOnce.{AreRegisteredOnce}

-- what is outstanding of a security, and what is paid of a currency, as the table of totals says it
abbrev pub outstanding_in : Database → List ℕ → ℕ
outstanding_in db isin = unwrap_or (amount_in db Total (codes "security") isin) 0

abbrev pub paid_in_table : Database → Ccy → Option ℕ
paid_in_table db ccy = amount_in db Total (codes "currency") (letters_of ccy)

-- Each total is what it is of, and what all that are registered hold or have; nobody else holds or has anything.
pub record AreTotals (db : Database) (content : Content) : Type 0 where
  pub outstanding : (isin : List ℕ) → redeemed (history_of content) isin + outstanding_in db isin ≡ issued (history_of content) isin
  pub paid : (ccy : Ccy) → IsPaid (history_of content) ccy (paid_in_table db ccy)
  -- what was paid out is never more than what was paid in
  pub paid_sum : (ccy : Ccy) → paid_out (history_of content) ccy + unwrap_or (paid_in_table db ccy) 0 ≡ paid_in (history_of content) ccy
  pub held : (isin : List ℕ) → held_of content isin ≡ outstanding_in db isin
  pub held_cash : (ccy : Ccy) → held_cash_of content ccy ≡ unwrap_or (paid_in_table db ccy) 0
  pub no_stranger : (account isin : List ℕ) → owner_of (history_of content) account ≡ None → content.position account isin ≡ 0
  pub no_stranger_pays : (bic : List ℕ) (ccy : Ccy) → is_participant (history_of content) bic ≡ false → content.cash bic ccy ≡ 0

-- The tables are of this version, and each says what a content has: entries and messages in their order, where each instruction
-- stands, the amounts.
pub record Keeps (db : Database) (content : Content) : Type 0 where
  pub schema : db.schema ≡ desk_schema
  pub version : HasVersion db (Some VERSION)
  pub amounts : AreAmounts db
  pub entries : AreEntries db content.register
  pub standings : AreStandings db
  pub instructions : (n : ℕ) → instruction_at (history_of content) n ≡ None → content.standing n ≡ no_standing
  pub sent : AreSent db content.sent
  pub totals : AreTotals db content
  pub registered : AreRegisteredOnce (history_of content)
  -- each instruction stands somewhere
  pub stands : (n : ℕ) (i : Instructed) → instruction_at (history_of content) n ≡ Some i → (content.standing n).state ≢ NoInstruction
  -- there are no more entries than a register can have, and each entry, each reply and each message is one that the desk can write
  pub within : length content.register < 1_000_000_000
  pub formed : AreWellFormed (history_of content)
  pub short : HaveShortNumbers content.register
  pub sendable : AllByRecursion IsSendable content.sent
  -- nothing is held of a security without a name
  pub named : (account : List ℕ) → content.position account [] ≡ 0

-- the tables are a desk's: they keep what they say
abbrev pub IsDesk : Database → Type 0
IsDesk db = Keeps db (content_in db)

-- a holding that was found
abbrev pub holding_found : Option (List ℕ × ℕ) → Option Holding
holding_found None = None
holding_found (Some found) = Some (record { isin = found.0; quantity = found.1 })

-- the tables are the desk's, and say this content
pub record Becomes (db : Database) (content : Content) : Type 0 where
  pub desk : IsDesk db
  pub content_is : content_in db ≡ content
