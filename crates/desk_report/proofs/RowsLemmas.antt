-- The text of rows, written part by part.
use Rattle.std.proofs.Common.{◌≡◌, ℕ, Bool, true, List, [], ◌∷◌, ◌++◌, map, Option, refl, ap, sym, ◌∙◌, subst, append_assoc, append-nil}
use Rattle.std.specs.Prelude.{Result, Ok, Err}
use Rattle.std.specs.Result.{IsErrAnd}
use Rattle.std.specs.Io.KnownBytes.{Appends}
use Rattle.serde_json.specs.Data.{Data}
use Rattle.serde_json.specs.Written.{comma_if, compact_text}
use Rattle.desk_msg.specs.declared.writing.statement_row.SinkFault.TheVariants as sinks
use Rattle.desk_register.specs.declared.register.Fault.{Fault}
use Rattle.desk_register.specs.declared.register.Fault.TheVariants as faults
use Rattle.desk_register.specs.declared.fault.WalkFault.{WalkFault}
use Rattle.desk_register.specs.declared.fault.WalkFault.TheVariants as walks
use Rattle.desk_register.specs.Ends.{broken_off}
use Rattle.desk_book.specs.RowByRow.{WritesSome, WritesText, WritesWhole}
use Rattle.desk_book.specs.Sums.{rows_text}
use Rattle.desk_book.proofs.RowLemmas.{appended, appends_nothing}
use Rattle.desk_report.specs.RowWritten.{WritesRow}
use Rattle.desk_report.specs.RowsWriting.{IsRows, WritesRows, later_behind}

-- What was written, by why it broke off.

-- whatever was to be made of it
pub broken_text : (X Y : Type 0) (IsText : List ℕ → Type 0) (fault : WalkFault) (before now : Option (List ℕ)) → WritesText {X = X} IsText (Err fault) before now → WritesText {X = Y} IsText (Err fault) before now
broken_text X Y IsText (walks.Sink sinks.Write) before now w = tt
broken_text X Y IsText (walks.Sink sinks.Memory) before now w = w
broken_text X Y IsText walks.Memory before now w = w
broken_text X Y IsText walks.Storage before now w = w

-- a fault that is handed on
pub handed_on : {X : Type 0} (IsText : List ℕ → Type 0) (fault : WalkFault) (r : Result X WalkFault) (before now : Option (List ℕ)) → IsErrAnd r (λ broken. broken ≡ fault)
    → WritesText {X = Unit {0}} IsText (Err fault) before now → WritesText IsText r before now
handed_on IsText fault (Ok x) before now is w = absurd is
handed_on {X} IsText fault (Err broken) before now is w = subst (λ z. WritesText {X = X} IsText (Err z) before now) (sym is) (broken_text (Unit {0}) X IsText fault before now w)

-- the register's, before which a front was written
pub register_failed : {X : Type 0} (IsText : List ℕ → Type 0) (fault : Fault) (r : Result X WalkFault) (before now : Option (List ℕ)) → IsErrAnd r (λ broken. broken ≡ broken_off fault) → WritesSome IsText before now
    → WritesText IsText r before now
register_failed IsText faults.Memory r before now is front = handed_on IsText walks.Memory r before now is front
register_failed IsText faults.Storage r before now is front = handed_on IsText walks.Storage r before now is front

-- a walk that broke off behind what was written before it
pub broke_behind : (IsText IsMore : List ℕ → Type 0) (fault : WalkFault) (before between now : Option (List ℕ)) → (WritesSome IsMore between now → WritesSome IsText before now)
    → WritesText {X = Unit {0}} IsMore (Err fault) between now → WritesText {X = Unit {0}} IsText (Err fault) before now
broke_behind IsText IsMore (walks.Sink sinks.Write) before between now part w = tt
broke_behind IsText IsMore (walks.Sink sinks.Memory) before between now part w = part w
broke_behind IsText IsMore walks.Memory before between now part w = part w
broke_behind IsText IsMore walks.Storage before between now part w = part w

-- what is known of a text is known of what was written of it
pub writes_as : {X : Type 0} (IsText IsOther : List ℕ → Type 0) (r : Result X WalkFault) (before now : Option (List ℕ)) → ((text : List ℕ) → IsText text → IsOther text) → WritesText IsText r before now
    → WritesText IsOther r before now
writes_as IsText IsOther (Ok x) before now to w = record { text = w.text; written = w.written; is_text = to w.text w.is_text }
writes_as IsText IsOther (Err (walks.Sink sinks.Write)) before now to w = tt
writes_as IsText IsOther (Err (walks.Sink sinks.Memory)) before now to w = record { text = w.text; written = w.written; rest = w.rest; is_text = to (w.text ++ w.rest) w.is_text }
writes_as IsText IsOther (Err walks.Memory) before now to w = record { text = w.text; written = w.written; rest = w.rest; is_text = to (w.text ++ w.rest) w.is_text }
writes_as IsText IsOther (Err walks.Storage) before now to w = record { text = w.text; written = w.written; rest = w.rest; is_text = to (w.text ++ w.rest) w.is_text }

module _ {Row : Type 0} (data_of : Row → Data) where
  abbrev text_of : Bool → List Row → List ℕ
  text_of is_later rows = rows_text is_later (map data_of rows)

  pub still_later : (rows : List Row) → later_behind rows true ≡ true
  still_later [] = refl
  still_later (row ∷ rows) = refl

  later_then : (xs ys : List Row) (is_later : Bool) → later_behind (xs ++ ys) is_later ≡ later_behind ys (later_behind xs is_later)
  later_then [] ys is_later = refl
  later_then (x ∷ xs) ys is_later = sym (still_later ys)

  -- rows, and more behind them
  text_then : (xs ys : List Row) (is_later : Bool) → text_of is_later (xs ++ ys) ≡ text_of is_later xs ++ text_of (later_behind xs is_later) ys
  text_then [] ys is_later = refl
  text_then (x ∷ xs) ys is_later =
      let comma = comma_if is_later in
      let one = compact_text (data_of x) in
      let first = text_of true xs in
      let more = text_then xs ys true ∙ ap (λ (b : Bool). first ++ text_of b ys) (still_later xs) in
      let second = text_of true ys in
      ap (λ (t : List ℕ). comma ++ (one ++ t)) more ∙ (ap (λ (t : List ℕ). comma ++ t) (sym (append_assoc one first second)) ∙ sym (append_assoc comma (one ++ first) second))

  -- These rows were written behind what stood there, and it is known whether rows stand then before what comes.
  pub record RowsWritten (rows : List Row) (is_later now_later : Bool) (before now : Option (List ℕ)) : Type 0 where
    pub written : Appends before now (text_of is_later rows)
    pub later : now_later ≡ later_behind rows is_later

  pub none_written : (is_later : Bool) (before : Option (List ℕ)) → RowsWritten [] is_later is_later before before
  none_written is_later before = record { written = appends_nothing before; later = refl }

  -- by what a call wrote of them
  pub all_written : (rows : List Row) (is_later now_later : Bool) (before now : Option (List ℕ)) → WritesWhole (IsRows data_of rows is_later) before now → now_later ≡ later_behind rows is_later
      → RowsWritten rows is_later now_later before now
  all_written rows is_later now_later before now w later = record { written = subst (λ t. Appends before now t) w.is_text w.written; later = later }

  pub whole_of : (rows : List Row) (is_later now_later : Bool) (before now : Option (List ℕ)) → RowsWritten rows is_later now_later before now → WritesWhole (IsRows data_of rows is_later) before now
  whole_of rows is_later now_later before now w = record { text = text_of is_later rows; written = w.written; is_text = refl }

  -- nothing is a front of any rows
  pub nothing_of : (rows : List Row) (is_later : Bool) (before : Option (List ℕ)) → WritesSome (IsRows data_of rows is_later) before before
  nothing_of rows is_later before = record { text = []; written = appends_nothing before; rest = text_of is_later rows; is_text = refl }

  module _ (xs : List Row) (was_later is_later : Bool) (before between : Option (List ℕ)) (w : RowsWritten xs was_later is_later before between) where
    text_on : (ys : List Row) → text_of was_later (xs ++ ys) ≡ text_of was_later xs ++ text_of is_later ys
    text_on ys = text_then xs ys was_later ∙ ap (λ (b : Bool). text_of was_later xs ++ text_of b ys) (sym w.later)

    -- and these behind them
    pub written_then : (ys : List Row) (now_later : Bool) (now : Option (List ℕ)) → RowsWritten ys is_later now_later between now → RowsWritten (xs ++ ys) was_later now_later before now
    written_then ys now_later now more = record {
      written = subst (λ t. Appends before now t) (sym (text_on ys)) (appended before between now (text_of was_later xs) (text_of is_later ys) w.written more.written);
      later = more.later ∙ (ap (λ (b : Bool). later_behind ys b) w.later ∙ sym (later_then xs ys was_later));
    }

    -- they are a front of more
    pub front_of : (ys : List Row) → WritesSome (IsRows data_of (xs ++ ys) was_later) before between
    front_of ys = record { text = text_of was_later xs; written = w.written; rest = text_of is_later ys; is_text = sym (text_on ys) }

    -- and a front of these behind them
    some_behind : (ys more : List Row) (now : Option (List ℕ)) → WritesSome (IsRows data_of ys is_later) between now → WritesSome (IsRows data_of (xs ++ (ys ++ more)) was_later) before now
    some_behind ys more now some =
        let first = text_of was_later xs in
        let further = text_of (later_behind ys is_later) more in
        let part : (some.text ++ some.rest) ++ further ≡ text_of is_later (ys ++ more) = ap (λ (t : List ℕ). t ++ further) some.is_text ∙ sym (text_then ys more is_later) in
        record {
          text = first ++ some.text;
          written = appended before between now first some.text w.written some.written;
          rest = some.rest ++ further;
          is_text =
              append_assoc first some.text (some.rest ++ further)
              ∙ (ap (λ (t : List ℕ). first ++ t) (sym (append_assoc some.text some.rest further) ∙ part) ∙ sym (text_on (ys ++ more)));
        }

    pub broke_in : (ys more : List Row) (fault : WalkFault) (now : Option (List ℕ)) → WritesText {X = Unit {0}} (IsRows data_of ys is_later) (Err fault) between now
        → WritesText {X = Unit {0}} (IsRows data_of (xs ++ (ys ++ more)) was_later) (Err fault) before now
    broke_in ys more fault now text = broke_behind (IsRows data_of (xs ++ (ys ++ more)) was_later) (IsRows data_of ys is_later) fault before between now (some_behind ys more now) text

  -- A row.

  one_text : (row : Row) (is_later : Bool) → comma_if is_later ++ compact_text (data_of row) ≡ text_of is_later (row ∷ [])
  one_text row is_later = ap (λ (t : List ℕ). comma_if is_later ++ t) (sym (append-nil (compact_text (data_of row))))

  pub one_written : (row : Row) (is_later : Bool) (before now : Option (List ℕ)) → WritesRow {X = Unit {0}} (data_of row) is_later (Ok tt) before now → RowsWritten (row ∷ []) is_later true before now
  one_written row is_later before now w = record { written = subst (λ t. Appends before now t) (one_text row is_later) w; later = refl }

  row_broke : (row : Row) (is_later : Bool) (fault : WalkFault) (before now : Option (List ℕ)) → WritesRow {X = Unit {0}} (data_of row) is_later (Err fault) before now
      → WritesText {X = Unit {0}} (IsRows data_of (row ∷ []) is_later) (Err fault) before now
  row_broke row is_later (walks.Sink sinks.Write) before now w = tt
  row_broke row is_later (walks.Sink sinks.Memory) before now w = subst (λ z. WritesSome (IsRows data_of (row ∷ []) is_later) before z) (sym w) (nothing_of (row ∷ []) is_later before)
  row_broke row is_later walks.Memory before now w = subst (λ z. WritesSome (IsRows data_of (row ∷ []) is_later) before z) (sym w) (nothing_of (row ∷ []) is_later before)
  row_broke row is_later walks.Storage before now w = subst (λ z. WritesSome (IsRows data_of (row ∷ []) is_later) before z) (sym w) (nothing_of (row ∷ []) is_later before)

  -- a row alone
  pub row_text : (row : Row) (is_later : Bool) (r : Result (Unit {0}) WalkFault) (before now : Option (List ℕ)) → WritesRow (data_of row) is_later r before now → WritesText (IsRows data_of (row ∷ []) is_later) r before now
  row_text row is_later (Ok x) before now w = whole_of (row ∷ []) is_later true before now (one_written row is_later before now w)
  row_text row is_later (Err fault) before now w = row_broke row is_later fault before now w

  -- A call of the register failed before anything was written.
  pub rows_failed : (rows : List Row) (is_later : Bool) (fault : Fault) (r : Result Bool WalkFault) (before : Option (List ℕ)) → IsErrAnd r (λ broken. broken ≡ broken_off fault)
      → WritesRows data_of rows is_later r before before
  rows_failed rows is_later fault (Ok b) before broke = absurd broke
  rows_failed rows is_later fault (Err broken) before broke = record {
    text = register_failed {X = Bool} (IsRows data_of rows is_later) fault (Err broken) before before broke (nothing_of rows is_later before);
    later = tt;
  }

  -- what broke off tells nothing of what comes
  pub rows_broke : (rows : List Row) (is_later : Bool) (fault : WalkFault) (r : Result Bool WalkFault) (before now : Option (List ℕ)) → IsErrAnd r (λ broken. broken ≡ fault) → WritesText (IsRows data_of rows is_later) r before now
      → WritesRows data_of rows is_later r before now
  rows_broke rows is_later fault (Ok b) before now broke text = absurd broke
  rows_broke rows is_later fault (Err broken) before now broke text = record { text = text; later = tt }

  pub rows_ended : (rows : List Row) (is_later now_later : Bool) (before now : Option (List ℕ)) → RowsWritten rows is_later now_later before now → WritesRows data_of rows is_later (Ok now_later) before now
  rows_ended rows is_later now_later before now w = record { text = whole_of rows is_later now_later before now w; later = w.later }
