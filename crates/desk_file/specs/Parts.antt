-- What makes a database the desk's tables of a content, table by table.
use Rattle.std.specs.Prelude.{◌≡◌, ℕ, ◌+◌, List, Some, unwrap_or}
use Rattle.sqlite.specs.Effect.{Database}
use Rattle.desk_codes.specs.declared.currency.Ccy.{Ccy}
use Rattle.desk_codes.specs.Currency.{letters_of}
use Rattle.desk_rules.specs.Balances.{issued, redeemed}
use Rattle.desk_rules.specs.Content.{Content, history_of}
use Rattle.desk_register.specs.Looked.{IsPaid}
use Rattle.sql_rows.specs.declared.amounts.key.Ledger.TheVariants.{Balance, Cash}
use Rattle.sql_rows.specs.Amounts.{AreAmounts, amount_in}
use Rattle.sql_entries.specs.Entries.{AreEntries}
use Rattle.sql_rows.specs.Messages.{AreSent}
use Rattle.sql_rows.specs.Standings.{AreStandings, standing_in}
use Rattle.sql_tables.specs.Schema.{desk_schema}
use Rattle.sql_tables.specs.Version.{HasVersion}
use Rattle.sql_tables.specs.declared.version.TheConstants.{VERSION}
use Rattle.sql_register.specs.Holds.{outstanding_in, paid_in_table}

-- each table says, by itself, what a content does
pub record HasParts (db : Database) (content : Content) : Type 0 where
  pub schema : db.schema ≡ desk_schema
  pub version : HasVersion db (Some VERSION)
  pub entries : AreEntries db content.register
  pub standings : AreStandings db
  pub standing : (n : ℕ) → standing_in db n ≡ content.standing n
  pub sent : AreSent db content.sent
  pub amounts : AreAmounts db
  pub positions : (account isin : List ℕ) → unwrap_or (amount_in db Balance account isin) 0 ≡ content.position account isin
  pub cash : (bic : List ℕ) (ccy : Ccy) → unwrap_or (amount_in db Cash bic (letters_of ccy)) 0 ≡ content.cash bic ccy
  pub outstanding : (isin : List ℕ) → redeemed (history_of content) isin + outstanding_in db isin ≡ issued (history_of content) isin
  pub paid : (ccy : Ccy) → IsPaid (history_of content) ccy (paid_in_table db ccy)
