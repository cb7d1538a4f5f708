-- The rows of unmatched instructions, written number by number.
use Rattle.std.proofs.Common.{◌≡◌, ℕ, ◌+◌, ◌-◌, ◌≤◌, Bool, true, false, List, [], ◌∷◌, ◌++◌, length, map, Option, Some, None, refl, sym, ap, ◌∙◌, subst, arith, append-nil}
use Rattle.std.specs.Prelude.{Result, Ok, Err}
use Rattle.std.specs.Result.{IsErrAnd}
use Rattle.std.specs.List.{cons_option, filter_map, range_with_len}
use Rattle.std.specs.Io.KnownBytes.{Appends}
use Rattle.std.proofs.lemmas.List.Elements.{filter_map-append}
use Rattle.serde_json.specs.Written.{comma_if, compact_text}
use Rattle.desk_msg.specs.declared.writing.statement_row.SinkFault.TheVariants as sinks
use Rattle.desk_rules.specs.Content.{Content}
use Rattle.desk_rules.proofs.SentFronts.{range-append}
use Rattle.desk_register.specs.declared.register.Fault.{Fault}
use Rattle.desk_register.specs.declared.register.Fault.TheVariants as faults
use Rattle.desk_register.specs.View.{View, IsLater, IsRead}
use Rattle.desk_register.specs.declared.fault.WalkFault.{WalkFault}
use Rattle.desk_register.specs.declared.fault.WalkFault.TheVariants as walks
use Rattle.desk_register.specs.Ends.{broken_off}
use Rattle.desk_register.proofs.ReadLemmas.{held_so, read_none}
use Rattle.desk_register.proofs.ReadingLemmas.{read_on}
use Rattle.desk_book.specs.RowByRow.{WritesSome, WritesText, WritesWhole}
use Rattle.desk_book.specs.Sums.{rows_text}
use Rattle.desk_report.specs.RowData.{unmatched_data}
use Rattle.desk_report.specs.RowWritten.{WritesRow}
use Rattle.desk_report.specs.declared.rows.unmatched.UnmatchedInstruction.{UnmatchedInstruction}
use Rattle.desk_report.proofs.NumberedLemmas.{RowsWritten, Walked, handed_on, none_written, one_written, rows_front, rows_whole}
use Rattle.desk_report.specs.Unmatched.{IsUnmatchedText, unmatched_of, unmatched_row}
use Rattle.desk_report.specs.UnmatchedWriting.{WritesIf}

-- How a row was written, or none.

-- a call of the register failed before it
pub unread : (found : Option UnmatchedInstruction) (is_later : Bool) (fault : Fault) (r : Result Bool WalkFault) (x : Option (List ℕ)) → IsErrAnd r (λ broken. broken ≡ broken_off fault) → WritesIf r found is_later x x
unread found is_later fault (Ok b) x is = absurd is
unread found is_later faults.Memory (Err broken) x is = subst (λ z. WritesIf (Err z) found is_later x x) (sym is) refl
unread found is_later faults.Storage (Err broken) x is = subst (λ z. WritesIf (Err z) found is_later x x) (sym is) refl

unwritten_so : (row : UnmatchedInstruction) (found : Option UnmatchedInstruction) (is_later : Bool) (fault : WalkFault) (before after : Option (List ℕ)) → WritesRow {X = Unit {0}} (unmatched_data row) is_later (Err fault) before after
    → WritesIf (Err fault) found is_later before after
unwritten_so row found is_later (walks.Sink sinks.Write) before after w = tt
unwritten_so row found is_later (walks.Sink sinks.Memory) before after w = w
unwritten_so row found is_later walks.Memory before after w = w
unwritten_so row found is_later walks.Storage before after w = w

-- the row was not written
pub unwritten : (row : UnmatchedInstruction) (found : Option UnmatchedInstruction) (is_later : Bool) (fault : WalkFault) (r : Result Bool WalkFault) (before after : Option (List ℕ)) → IsErrAnd r (λ broken. broken ≡ fault)
    → WritesRow {X = Unit {0}} (unmatched_data row) is_later (Err fault) before after → WritesIf r found is_later before after
unwritten row found is_later fault (Ok b) before after is w = absurd is
unwritten row found is_later fault (Err broken) before after is w = subst (λ z. WritesIf (Err z) found is_later before after) (sym is) (unwritten_so row found is_later fault before after w)

-- The rows up to a number.

abbrev pub rows_upto : ℕ → Content → List UnmatchedInstruction
rows_upto n content = filter_map (unmatched_row content) (range_with_len 1 n)

rows_more : (content : Content) (n : ℕ) → rows_upto (n + 1) content ≡ rows_upto n content ++ cons_option (unmatched_row content (n + 1)) []
rows_more content n =
    let next : 1 + n ≡ n + 1 = omega arith in
    ap (filter_map (unmatched_row content)) (range-append 1 n 1)
    ∙ filter_map-append (unmatched_row content) (range_with_len 1 n) (range_with_len (1 + n) 1)
    ∙ ap (λ k. rows_upto n content ++ cons_option (unmatched_row content k) []) next

-- and those behind it
rows_all : (content : Content) (n : ℕ) → n ≤ length content.register
    → unmatched_of content ≡ rows_upto n content ++ filter_map (unmatched_row content) (range_with_len (1 + n) (length content.register - n))
rows_all content n within =
    let parts : length content.register ≡ n + (length content.register - n) = omega arith in
    ap (λ k. rows_upto k content) parts
    ∙ ap (filter_map (unmatched_row content)) (range-append 1 n (length content.register - n))
    ∙ filter_map-append (unmatched_row content) (range_with_len 1 n) (range_with_len (1 + n) (length content.register - n))

row_more : (rows : List UnmatchedInstruction) (found : Option UnmatchedInstruction) (was_later is_later : Bool) (before between now : Option (List ℕ)) → RowsWritten unmatched_data rows was_later before between
    → WritesIf (Ok is_later) found was_later between now → RowsWritten unmatched_data (rows ++ cons_option found []) is_later before now
row_more rows None was_later is_later before between now w more =
    subst (λ z. RowsWritten unmatched_data z is_later before now) (sym (append-nil rows))
    (subst (λ z. RowsWritten unmatched_data rows z before now) (sym more.0) (subst (λ z. RowsWritten unmatched_data rows was_later before z) (sym more.1) w))
row_more rows (Some row) was_later is_later before between now w more =
    subst (λ z. RowsWritten unmatched_data (rows ++ row ∷ []) z before now) (sym more.0) (one_written unmatched_data rows was_later before between w row now more.1)

-- a front of all of them
front_of : (content : Content) (n : ℕ) (is_later : Bool) (before now : Option (List ℕ)) → n ≤ length content.register → RowsWritten unmatched_data (rows_upto n content) is_later before now
    → WritesSome (IsUnmatchedText content) before now
front_of content n is_later before now within w =
    let rest = filter_map (unmatched_row content) (range_with_len (1 + n) (length content.register - n)) in
    let front = rows_front unmatched_data (rows_upto n content) is_later before now w rest in
    record {
      text = front.text;
      written = front.written;
      rest = front.rest;
      is_text = subst (λ z. front.text ++ front.rest ≡ z) (sym (ap (λ rows. rows_text false (map unmatched_data rows)) (rows_all content n within))) front.is_text;
    }

-- where it broke off in a number, a front was written
broken_in : (IsText : List ℕ → Type 0) (found : Option UnmatchedInstruction) (is_later : Bool) (fault : WalkFault) (before between now : Option (List ℕ)) → WritesSome IsText before between
    → WritesIf (Err fault) found is_later between now → WritesText {X = Unit {0}} IsText (Err fault) before now
broken_in IsText found is_later (walks.Sink sinks.Write) before between now front w = tt
broken_in IsText found is_later (walks.Sink sinks.Memory) before between now front w = subst (λ z. WritesSome IsText before z) (sym w) front
broken_in IsText found is_later walks.Memory before between now front w = subst (λ z. WritesSome IsText before z) (sym w) front
broken_in IsText found is_later walks.Storage before between now front w = subst (λ z. WritesSome IsText before z) (sym w) front

-- and where it broke off before any, one of no row
broken_before : (IsText : List ℕ → Type 0) (fault : WalkFault) (before : Option (List ℕ)) → WritesSome IsText before before → WritesText {X = Unit {0}} IsText (Err fault) before before
broken_before IsText (walks.Sink sinks.Write) before front = tt
broken_before IsText (walks.Sink sinks.Memory) before front = front
broken_before IsText walks.Memory before front = front
broken_before IsText walks.Storage before front = front

pub nothing_yet : (content : Content) (fault : WalkFault) (r : Result (Unit {0}) WalkFault) (before : Option (List ℕ)) → IsErrAnd r (λ broken. broken ≡ fault) → WritesText (IsUnmatchedText content) r before before
nothing_yet content fault r before is =
    handed_on (IsUnmatchedText content) fault r before before is (broken_before (IsUnmatchedText content) fault before (front_of content 0 false before before (omega arith) (none_written unmatched_data before)))

-- The walk, after so many numbers.

abbrev pub Writing : Type 0 → View → View → ℕ → ℕ → Bool → Option (List ℕ) → Option (List ℕ) → Type 0
Writing IsJson v0 v count n is_later before now = Walked unmatched_data (rows_upto n) IsJson v0 v count is_later before now

module _ (IsJson : Type 0) (v0 : View) (count : ℕ) where
  pub writing_begins : (before : Option (List ℕ)) → (v0.is_honest → v0.is_sure → count ≡ length v0.content.register) → Writing IsJson v0 v0 count 0 false before before
  writing_begins before entries = record { read = read_none v0; entries = entries; rows_of = λ json honest sure. none_written unmatched_data before }

  module _ (v : View) (n : ℕ) (was_later : Bool) (before between : Option (List ℕ)) (w : Writing IsJson v0 v count n was_later before between) where
    pub writing_goes_on : (v1 : View) (is_later : Bool) (now : Option (List ℕ)) → IsRead {X = Unit {0}} (Ok tt) v v1
        → (IsJson → v1.is_honest → v.is_sure → WritesIf (Ok is_later) (unmatched_row v.content (n + 1)) was_later between now) → Writing IsJson v0 v1 count (n + 1) is_later before now
    writing_goes_on v1 is_later now read writes = record {
      read = read_on v0 v w.read tt v1 read;
      entries = λ honest sure. w.entries (read.later.honest honest) sure;
      rows_of = λ json honest sure.
          let honest_now = read.later.honest honest in
          let more = held_so v0 v w.read (λ c. WritesIf (Ok is_later) (unmatched_row c (n + 1)) was_later between now) honest_now sure (writes json honest (w.read.ok.sure honest_now sure)) in
          subst (λ z. RowsWritten unmatched_data z is_later before now) (sym (rows_more v0.content n))
          (row_more (rows_upto n v0.content) (unmatched_row v0.content (n + 1)) was_later is_later before between now (w.rows_of json honest_now sure) more);
    }

    pub writing_breaks : (v1 : View) (now : Option (List ℕ)) (fault : WalkFault) (r : Result (Unit {0}) WalkFault) → n ≤ count → IsErrAnd r (λ broken. broken ≡ fault) → IsLater v v1
        → (IsJson → v1.is_honest → v.is_sure → WritesIf (Err fault) (unmatched_row v.content (n + 1)) was_later between now) → IsJson → v1.is_honest → v0.is_sure → WritesText (IsUnmatchedText v0.content) r before now
    writing_breaks v1 now fault r within is later writes json honest sure =
        let honest_now = later.honest honest in
        let entries = w.entries honest_now sure in
        let front = front_of v0.content n was_later before between (omega arith) (w.rows_of json honest_now sure) in
        handed_on (IsUnmatchedText v0.content) fault r before now is
        (broken_in (IsUnmatchedText v0.content) (unmatched_row v.content (n + 1)) was_later fault before between now front (writes json honest (w.read.ok.sure honest_now sure)))

    pub writing_ends : n ≤ count → count ≤ n → IsJson → v.is_honest → v0.is_sure → WritesWhole (IsUnmatchedText v0.content) before between
    writing_ends within enough json honest sure =
        let entries = w.entries honest sure in
        let all : n ≡ length v0.content.register = omega arith in
        subst (λ k. WritesWhole (λ text. text ≡ rows_text false (map unmatched_data (rows_upto k v0.content))) before between) all (rows_whole unmatched_data (rows_upto n v0.content) was_later before between (w.rows_of json honest sure))

-- How the row of a number was written.

-- there is none
pub row_none : (content : Content) (number : ℕ) (found : Option UnmatchedInstruction) (is_later : Bool) (before : Option (List ℕ)) → found ≡ unmatched_row content number → found ≡ None
    → WritesIf (Ok is_later) (unmatched_row content number) is_later before before
row_none content number found is_later before told none =
    subst (λ z. WritesIf (Ok is_later) z is_later before before) (sym none ∙ told) (refl, refl)

pub row_some : (content : Content) (number : ℕ) (found : Option UnmatchedInstruction) (row : UnmatchedInstruction) (is_later : Bool) (before after : Option (List ℕ)) → found ≡ unmatched_row content number → found ≡ Some row
    → Appends before after (comma_if is_later ++ compact_text (unmatched_data row)) → WritesIf (Ok true) (unmatched_row content number) is_later before after
row_some content number found row is_later before after told some written =
    subst (λ z. WritesIf (Ok true) z is_later before after) (sym some ∙ told) (refl, written)
