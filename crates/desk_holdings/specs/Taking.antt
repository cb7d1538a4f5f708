-- What a sink took of a walk.
use Rattle.std.specs.Prelude.{ℕ, List, [], ◌∷◌, ◌++◌, Result, Ok, Err}
use Rattle.desk_msg.specs.declared.writing.statement_row.SinkFault.TheVariants.{Memory, Write}
use Rattle.desk_msg.specs.declared.writing.statement_row.StatementRow.{StatementRow}
use Rattle.desk_msg.specs.TookRows.{TookAll}
use Rattle.desk_register.specs.View.{View, IfTrusted}
use Rattle.desk_holdings.specs.Holdings.{AreFirstHoldings, AreHoldings}
use Rattle.desk_register.specs.declared.fault.WalkFault.{WalkFault}
use Rattle.desk_register.specs.declared.fault.WalkFault.TheVariants.{Sink}

-- Rows were taken; where the register's answers are to be trusted, they are the account's holdings.
pub record TookHoldings {S : Type 0} (took : S → StatementRow → S → Type 0) (account : List ℕ) (old new : View) (before after : S) : Type 0 where
  pub rows : List StatementRow
  pub taken : TookAll took before rows after
  pub are : IfTrusted old new (AreHoldings old.content account rows)

-- Rows were taken; where the register's answers are to be trusted, they are the first of the account's holdings.
pub record TookFirst {S : Type 0} (took : S → StatementRow → S → Type 0) (account : List ℕ) (old new : View) (before after : S) : Type 0 where
  pub rows : List StatementRow
  pub taken : TookAll took before rows after
  pub are : IfTrusted old new (AreFirstHoldings old.content account rows)

-- Rows were taken, and the next one was not; where the register's answers are to be trusted, these and that are the first of
-- the account's holdings.
pub record TookUpTo {S : Type 0} (took : S → StatementRow → S → Type 0) (account : List ℕ) (old new : View) (before after : S) : Type 0 where
  pub rows : List StatementRow
  pub next : StatementRow
  pub taken : TookAll took before rows after
  pub are : IfTrusted old new (AreFirstHoldings old.content account (rows ++ next ∷ []))

-- What the sink took of a walk: all of the holdings, or, where it broke off, the first of them. A sink that failed to write a
-- row had taken those before it; of what it is since nothing is said.
abbrev pub Took : {S X : Type 0} → (S → StatementRow → S → Type 0) → List ℕ → Result X WalkFault → View → View → S → S → Type 0
Took took account (Ok x) old new before after = TookHoldings took account old new before after
Took {S} took account (Err (Sink Write)) old new before after = (between : S) × TookUpTo took account old new before between
Took took account (Err (Sink Memory)) old new before after = TookUpTo took account old new before after
Took took account (Err fault) old new before after = TookFirst took account old new before after
