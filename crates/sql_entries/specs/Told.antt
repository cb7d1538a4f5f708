-- How a run stands in the table `register` of each version of the file: by its kind, and by the column `rule`.
use Rattle.std.specs.Prelude.{◌≡◌, ⊤, ℕ, pos, Result, Ok, Err}
use Rattle.sqlite.specs.declared.types.Value.TheVariants.{Int}
use Rattle.sqlite.specs.declared.error.Error.{Error}
use Rattle.sqlite.specs.declared.error.Error.TheVariants.{SqliteFailure}
use Rattle.sqlite.specs.declared.error.ErrorCode.TheVariants.{OutOfMemory}
use Rattle.sqlite.specs.Order.{Row, column}
use Rattle.desk_rules.specs.declared.history.entry.RunRule.{RunRule}
use Rattle.desk_rules.specs.declared.history.entry.RunRule.TheVariants.{OnePass, Passes}
use Rattle.desk_rules.specs.declared.history.entry.Entry.{Entry}
use Rattle.desk_rules.specs.declared.history.entry.Entry.TheVariants.{Run}
use Rattle.sql_entries.specs.declared.places.TheConstants.{KIND}
use Rattle.sql_entries.specs.Columns.{columns_of, kind_number}
use Rattle.sql_tables.specs.declared.versions.Version.{Version}
use Rattle.sql_tables.specs.declared.versions.Version.TheVariants.{First, Second, Third}

-- a kind of its own for the runs of each rule
abbrev pub kind_of_rule : RunRule → ℕ
kind_of_rule OnePass = 10
kind_of_rule Passes = 11

abbrev pub kind_by_rule : Entry → ℕ
kind_by_rule (Run reference day rule) = kind_of_rule rule
kind_by_rule entry = kind_number entry

-- versions 1 and 2 tell the rule of a run by its kind, and version 3 by the column
abbrev pub kind_in : Version → Entry → ℕ
kind_in First entry = kind_by_rule entry
kind_in Second entry = kind_by_rule entry
kind_in Third entry = kind_number entry

abbrev pub rule_in : Version → Entry → ℕ
rule_in First entry = 0
rule_in Second entry = 0
rule_in Third entry = (columns_of entry).rule

-- it is no run in passes
abbrev pub IsOfOnePass : Entry → Type 0
IsOfOnePass (Run reference day Passes) = ⊥
IsOfOnePass entry = ⊤

-- each run of version 1 is of one pass
abbrev pub CanSay : Version → Entry → Type 0
CanSay First entry = IsOfOnePass entry
CanSay Second entry = ⊤
CanSay Third entry = ⊤

-- a row that is shown says by its kind that it is a run of this rule
abbrev pub TellsRule : Version → Row → RunRule → Type 0
TellsRule First row rule = column row KIND ≡ Int (pos (kind_of_rule rule))
TellsRule Second row rule = column row KIND ≡ Int (pos (kind_of_rule rule))
TellsRule Third row rule = ⊥

-- what is read is this entry, unless memory is wanting
abbrev pub IsReadAs : Entry → Result Entry Error → Type 0
IsReadAs entry (Ok read) = read ≡ entry
IsReadAs entry (Err error) = error ≡ SqliteFailure OutOfMemory
