-- Rows that a walk over a register writes, one after another.
use Rattle.std.proofs.Common.{◌≡◌, ℕ, Bool, true, false, List, [], ◌∷◌, ◌++◌, length, map, Option, sym, subst}
use Rattle.std.specs.Prelude.{Result, Ok, Err}
use Rattle.std.specs.Result.{IsErrAnd}
use Rattle.std.specs.Io.KnownBytes.{Appends}
use Rattle.serde_json.specs.Data.{Data}
use Rattle.serde_json.specs.Written.{comma_if, compact_text}
use Rattle.desk_msg.specs.declared.writing.statement_row.SinkFault.TheVariants as sinks
use Rattle.desk_rules.specs.Content.{Content}
use Rattle.desk_register.specs.View.{HasRead, View}
use Rattle.desk_register.specs.declared.fault.WalkFault.{WalkFault}
use Rattle.desk_register.specs.declared.fault.WalkFault.TheVariants as walks
use Rattle.desk_book.specs.RowByRow.{WritesSome, WritesText, WritesWhole}
use Rattle.desk_book.specs.Sums.{rows_text}
use Rattle.desk_book.proofs.RowLemmas.{Begun, appended, appends_nothing, begun_more, begun_nothing, begun_whole}
use Rattle.desk_report.specs.RowWritten.{WritesRow}

-- a fault that is handed on
pub handed_on : (IsText : List ℕ → Type 0) (fault : WalkFault) (r : Result (Unit {0}) WalkFault) (before now : Option (List ℕ)) → IsErrAnd r (λ broken. broken ≡ fault)
    → WritesText {X = Unit {0}} IsText (Err fault) before now → WritesText IsText r before now
handed_on IsText fault (Ok x) before now is w = absurd is
handed_on IsText fault (Err broken) before now is w = subst (λ z. WritesText {X = Unit {0}} IsText (Err z) before now) (sym is) w

-- where it broke off in a row, what stood before it is a front
pub broken_in_row : (IsText : List ℕ → Type 0) (value : Data) (is_later : Bool) (fault : WalkFault) (before between now : Option (List ℕ)) → WritesSome IsText before between
    → WritesRow {X = Unit {0}} value is_later (Err fault) between now → WritesText {X = Unit {0}} IsText (Err fault) before now
broken_in_row IsText value is_later (walks.Sink sinks.Write) before between now front w = tt
broken_in_row IsText value is_later (walks.Sink sinks.Memory) before between now front w = subst (λ z. WritesSome IsText before z) (sym w) front
broken_in_row IsText value is_later walks.Memory before between now front w = subst (λ z. WritesSome IsText before z) (sym w) front
broken_in_row IsText value is_later walks.Storage before between now front w = subst (λ z. WritesSome IsText before z) (sym w) front

module _ {Row : Type 0} (data_of : Row → Data) where
  -- these rows were written behind what stood there
  pub record RowsWritten (rows : List Row) (is_later : Bool) (before now : Option (List ℕ)) : Type 0 where
    pub text : List ℕ
    pub written : Appends before now text
    pub begun : Begun data_of rows is_later text

  pub none_written : (before : Option (List ℕ)) → RowsWritten [] false before before
  none_written before = record { text = []; written = appends_nothing before; begun = begun_nothing data_of }

  module _ (rows : List Row) (is_later : Bool) (before between : Option (List ℕ)) (w : RowsWritten rows is_later before between) where
    -- and one more
    pub one_written : (row : Row) (now : Option (List ℕ)) → Appends between now (comma_if is_later ++ compact_text (data_of row)) → RowsWritten (rows ++ row ∷ []) true before now
    one_written row now more = record {
      text = w.text ++ (comma_if is_later ++ compact_text (data_of row));
      written = appended before between now w.text (comma_if is_later ++ compact_text (data_of row)) w.written more;
      begun = begun_more data_of rows is_later w.text w.begun row;
    }

    -- and no more of them
    pub rows_whole : WritesWhole (λ text. text ≡ rows_text false (map data_of rows)) before between
    rows_whole = record { text = w.text; written = w.written; is_text = begun_whole data_of rows is_later w.text w.begun }

    -- and these behind them
    pub rows_front : (rest : List Row) → WritesSome (λ text. text ≡ rows_text false (map data_of (rows ++ rest))) before between
    rows_front rest = record { text = w.text; written = w.written; rest = rows_text is_later (map data_of rest); is_text = w.begun.goes_on rest }

-- A walk after some calls: they went well, the entries were counted, and these rows are written, as JSON.
pub record Walked {Row : Type 0} (data_of : Row → Data) (rows : Content → List Row) (IsJson : Type 0) (v0 v : View) (count : ℕ) (is_later : Bool) (before now : Option (List ℕ)) : Type 0 where
  pub read : HasRead v0 v
  pub entries : v.is_honest → v0.is_sure → count ≡ length v0.content.register
  pub rows_of : IsJson → v.is_honest → v0.is_sure → RowsWritten data_of (rows v0.content) is_later before now
