-- An entry is read of a row as a version of the file tells it.
use Rattle.std.proofs.Common.{◌≡◌, ◌<◌, ◌++◌, ℕ, pos, List, length, length-append, Some, Result, Ok, Err, IfOk, IfErr, refl, sym, ap, subst, ◌∙◌, arith}
use Rattle.std.specs.Prelude.{IsOk}
use Rattle.sqlite.specs.declared.error.Error.{Error}
use Rattle.sqlite.specs.declared.error.Error.TheVariants.{SqliteFailure}
use Rattle.sqlite.specs.declared.error.ErrorCode.TheVariants.{OutOfMemory}
use Rattle.sqlite.specs.Order.{Row, column}
use Rattle.sqlite.specs.declared.types.Value.TheVariants.{Int, Text as Words}
use Rattle.desk_rules.specs.declared.history.entry.Entry.{Entry}
use Rattle.desk_rules.specs.declared.history.entry.Entry.TheVariants.{Run}
use Rattle.desk_rules.specs.declared.history.entry.RunRule.{RunRule}
use Rattle.desk_rules.specs.declared.history.entry.RunRule.TheVariants.{OnePass, Passes}
use Rattle.desk_rules.specs.History.{reference_of}
use Rattle.desk_rules.specs.Spelt.{IsSpelt}
use Rattle.sql_tables.specs.declared.versions.Version.{Version}
use Rattle.sql_tables.specs.declared.versions.Version.TheVariants.{First, Second, Third}
use Rattle.sql_tables.proofs.ColumnLemmas.{count, words}
use Rattle.sql_entries.specs.Columns.{columns_of, kind_number}
use Rattle.sql_entries.specs.Reading.{Says, SaysRun}
use Rattle.sql_entries.specs.Shown.{shown_entry, shown_in}
use Rattle.sql_entries.specs.Told.{kind_by_rule, kind_of_rule, IsReadAs, TellsRule}
use Rattle.sql_entries.proofs.ExactLemmas.{entry_is, entry_told}

-- the kind of a run's rule is that of a run of this rule alone
run_by_kind : (entry : Entry) (rule : RunRule) → kind_by_rule entry ≡ kind_of_rule rule → (reference : List ℕ) × (day : List ℕ) × (entry ≡ Run reference day rule)
run_by_kind (Run reference day OnePass) OnePass e = (reference, day, refl)
run_by_kind (Run reference day Passes) Passes e = (reference, day, refl)
run_by_kind entry OnePass e = absurd (omega (arith, e))
run_by_kind entry Passes e = absurd (omega (arith, e))

kind_told : (version : Version) (row rest : Row) (entry : Entry) (rule : RunRule) → row ≡ shown_in version entry ++ rest → TellsRule version row rule → kind_by_rule entry ≡ kind_of_rule rule
kind_told First row rest entry rule is tells = count _ _ (sym (ap (λ (r : Row). column r 2) is) ∙ tells)
kind_told Second row rest entry rule is tells = count _ _ (sym (ap (λ (r : Row). column r 2) is) ∙ tells)
kind_told Third row rest entry rule is tells = absurd tells

-- an entry whose rule is told by no kind is shown as in version 3
as_third : (version : Version) (entry : Entry) (row rest : Row) → row ≡ shown_in version entry ++ rest → ((rule : RunRule) → TellsRule version row rule → ⊥) → row ≡ shown_entry entry ++ rest
as_third First (Run reference day rule) row rest is none = absurd (none rule (ap (λ (r : Row). column r 2) is))
as_third First entry row rest is none = is
as_third Second (Run reference day rule) row rest is none = absurd (none rule (ap (λ (r : Row). column r 2) is))
as_third Second entry row rest is none = is
as_third Third entry row rest is none = is

some_same : (a b : Entry) → Some a ≡ Some b → a ≡ b
some_same a b e = cc

module _ (version : Version) (row rest : Row) (entry : Entry) (is : row ≡ shown_in version entry ++ rest) (spelt : IsSpelt entry) where
  pub long : 15 < length row
  long =
      let wide : length (shown_in version entry) ≡ 16 = refl in
      let size = ap length is ∙ length-append (shown_in version entry) rest in
      omega (arith, wide, size)

  pub run_read : (rule : RunRule) → TellsRule version row rule → (r : Result Entry Error) → IfOk r (SaysRun row rule)
      → ((reference day : List ℕ) → 15 < length row → column row 1 ≡ Words reference → column row 10 ≡ Words day → IsSpelt (Run reference day rule) → IsOk r) → IsReadAs entry r
  run_read rule tells r says all =
      let run = run_by_kind entry rule (kind_told version row rest entry rule is tells) in
      let reference : column row 1 ≡ Words run.0 = ap (λ (x : Row). column x 1) is ∙ ap (λ (e : Entry). Words (reference_of e)) run.2 in
      let day : column row 10 ≡ Words run.1 = ap (λ (x : Row). column x 10) is ∙ ap (λ (e : Entry). Words (columns_of e).day) run.2 in
      go r says run.0 run.1 run.2 reference day (all run.0 run.1 long reference day (subst IsSpelt run.2 spelt))
    where
      go : (r : Result Entry Error) → IfOk r (SaysRun row rule) → (reference day : List ℕ) → entry ≡ Run reference day rule → column row 1 ≡ Words reference → column row 10 ≡ Words day → IsOk r → IsReadAs entry r
      go (Ok read) says reference day run at_reference at_day ok =
          let same : says.reference ≡ reference = words _ _ (sym says.says_reference ∙ at_reference) in
          let days : says.day ≡ day = words _ _ (sym says.says_day ∙ at_day) in
          says.is ∙ ap (λ x. Run x says.day rule) same ∙ ap (λ x. Run reference x rule) days ∙ sym run
      go (Err e) says reference day run at_reference at_day ok = absurd (let h = ok in cc)

  pub entry_read : ((rule : RunRule) → TellsRule version row rule → ⊥) → (r : Result Entry Error) → IfOk r (λ e. column row 2 ≡ Int (pos (kind_number e))) → IfOk r (Says row)
      → ((e : Entry) → 15 < length row → column row 2 ≡ Int (pos (kind_number e)) → Says row e → IsSpelt e → IfErr r (λ x. x ≡ SqliteFailure OutOfMemory)) → IsReadAs entry r
  entry_read none (Ok read) kind says all = some_same read entry (entry_is row entry rest (as_third version entry row rest is none) read kind says)
  entry_read none (Err e) kind says all = entry_told row entry rest (as_third version entry row rest is none) (e ≡ SqliteFailure OutOfMemory) spelt all

-- what is read of it is told as read
pub read_told : (entry read : Entry) → IsReadAs entry (Ok read) → Some read ≡ Some entry
read_told entry read is = ap Some is
