-- What the statement of an account's holdings tells (ISO 15022, MT535), and that it was written.
use Rattle.std.specs.Prelude.{◌≡◌, ◌≢◌, ℕ, ◌≤◌, List, [], ◌++◌, length, codes, Option, Some, None, Result, Ok, Err}
use Rattle.std.specs.Io.KnownBytes.{Appends}
use Rattle.desk_codes.specs.Day.{IsDay}
use Rattle.desk_codes.specs.Number.{number_of}
use Rattle.desk_msg.specs.HoldingsText.{holdings}
use Rattle.desk_msg.specs.declared.writing.statement_row.SinkFault.TheVariants as sink_faults
use Rattle.desk_msg.specs.declared.writing.statement_row.StatementRow.{StatementRow}
use Rattle.desk_rules.specs.Content.{history_of}
use Rattle.desk_rules.specs.Facts.{last_run}
use Rattle.desk_register.specs.View.{View, IfTrusted}
use Rattle.desk_holdings.specs.Holdings.{AreHoldings}
use Rattle.desk_register.specs.declared.fault.WalkFault.{WalkFault}
use Rattle.desk_register.specs.declared.fault.WalkFault.TheVariants.{Sink}

-- the day of a statement: that of the last run, or 1 January 1970 before any
abbrev pub IsStatementDay : Option ℕ → List ℕ → Type 0
IsStatementDay None day = day ≡ codes "19700101"
IsStatementDay (Some number) day = IsDay day × (number_of day ≡ number)

-- What is told of an account: how many entries there are (as long as there are no more than the register has room for),
-- the day, and the holdings.
pub record IsTold (view : View) (account : List ℕ) (entries : ℕ) (day : List ℕ) (rows : List StatementRow) : Type 0 where
  pub counted : length view.content.register ≤ view.room → entries ≡ length view.content.register
  pub dated : IsStatementDay (last_run (history_of view.content)) day
  pub held : AreHoldings view.content account rows

-- A statement was written behind what the writer held; where the register's answers are to be trusted, it tells what the
-- account holds.
pub record WritesStatement (account : List ℕ) (old new : View) (before after : Option (List ℕ)) : Type 0 where
  pub entries : ℕ
  pub day : List ℕ
  pub rows : List StatementRow
  pub written : Appends before after (holdings entries day account rows)
  pub told : IfTrusted old new (IsTold old account entries day rows)

-- a front of a statement that tells what the account holds
pub record IsFront (view : View) (account text : List ℕ) : Type 0 where
  pub entries : ℕ
  pub day : List ℕ
  pub rows : List StatementRow
  pub rest : List ℕ
  pub told : IsTold view account entries day rows
  pub whole : text ++ rest ≡ holdings entries day account rows

-- Some text, or none, was written behind what the writer held; where the register's answers are to be trusted, it is a front
-- of a statement that tells what the account holds.
pub record WritesFront (account : List ℕ) (old new : View) (before after : Option (List ℕ)) : Type 0 where
  pub text : List ℕ
  pub written : Appends before after text
  pub front : IfTrusted old new (text ≢ [] → IsFront old account text)

-- What was written: the statement, or, where it broke off, a front of it. Of a writer that failed nothing is said.
abbrev pub Writes : {X : Type 0} → List ℕ → Result X WalkFault → View → View → Option (List ℕ) → Option (List ℕ) → Type 0
Writes account (Ok x) old new before after = WritesStatement account old new before after
Writes account (Err (Sink sink_faults.Write)) old new before after = Unit {0}
Writes account (Err fault) old new before after = WritesFront account old new before after
