-- The walk over the pairs that wait, row by row.
use Rattle.std.proofs.Common.{◌≡◌, ℕ, ◌+◌, ◌≤◌, false, List, [], ◌∷◌, ◌++◌, map, length, Option, Some, None, is_some, refl, sym, subst, arith, ◌∙◌}
use Rattle.std.proofs.lemmas.List.{length-map}
use Rattle.std.specs.Prelude.{Result, Ok, Err, Bool}
use Rattle.std.specs.Result.{IsErrAnd}
use Rattle.std.specs.Io.KnownBytes.{Appends}
use Rattle.desk_msg.specs.declared.writing.statement_row.SinkFault.TheVariants as sinks
use Rattle.desk_rules.specs.declared.history.pair.Place.{Place}
use Rattle.desk_rules.specs.Content.{Content, history_of}
use Rattle.desk_register.specs.declared.register.Fault.{Fault}
use Rattle.desk_register.specs.declared.register.Fault.TheVariants as faults
use Rattle.desk_register.specs.Looked.{IsMatchedPair}
use Rattle.desk_register.specs.View.{HasRead, IsLater, IsRead, View}
use Rattle.desk_register.specs.declared.fault.WalkFault.{WalkFault}
use Rattle.desk_register.specs.declared.fault.WalkFault.TheVariants as walks
use Rattle.desk_register.specs.Ends.{broken_off}
use Rattle.desk_register.proofs.ReadLemmas.{held_so, kept_so, read_more}
use Rattle.desk_register.proofs.ReadingLemmas.{read_on}
use Rattle.desk_engine.specs.Ready.{IsReady}
use Rattle.desk_book.specs.RowByRow.{WritesSome, WritesText, WritesWhole}
use Rattle.desk_book.specs.Sums.{rows_text}
use Rattle.desk_book.proofs.RowLemmas.{Begun, appended, appends_nothing, begun_more, begun_nothing, begun_whole}
use Rattle.desk_report.specs.declared.format.Format.{Format}
use Rattle.desk_report.specs.declared.format.Format.TheVariants.{Json}
use Rattle.desk_report.specs.declared.rows.pending.PendingPair.{PendingPair}
use Rattle.desk_report.specs.RowData.{pending_data}
use Rattle.desk_report.specs.RowWritten.{WritesRow}
use Rattle.desk_report.specs.Pending.{IsPendingRow, IsPendingText}
use Rattle.desk_report.specs.PendingReading.{AreDated, IsPairAfter, IsWaitingPair, WritesPair, WritesRowOf}
use Rattle.desk_report.proofs.GatheringLemmas.{Gathered, gathered_all, gathers_none, gathers_one, pending_go_on}
use Rattle.desk_report.proofs.MatchedLemmas.{left, left_fewer, left_most}
use Rattle.desk_report.proofs.TablesLemmas.{are_dated, are_opposite}

-- What an open desk's register tells of its pairs.
pub record TellsPairs (content : Content) : Type 0 where
  pub dated : AreDated content
  pub opposite : (place : Place) → IsMatchedPair content place → IsWaitingPair content place

pub tells_pairs : (v : View) → IsReady false v → v.is_honest → TellsPairs v.content
tells_pairs v ready honest =
    let books = ready.books refl honest in
    let tables = books.1.tables.tables in
    record { dated = are_dated books.0 v.content tables books.1.formed; opposite = λ place w. are_opposite books.0 v.content tables place w }

-- What was written of rows.

-- the rows of the pairs up to the last one
pub record Listed (content : Content) (last : Option Place) (before now : Option (List ℕ)) : Type 0 where
  pub rows : List PendingPair
  pub gathered : Gathered content last rows
  pub text : List ℕ
  pub written : Appends before now text
  pub begun : Begun pending_data rows (is_some last) text

listed_none : (content : Content) (before : Option (List ℕ)) → Listed content None before before
listed_none content before = record { rows = []; gathered = gathers_none content; text = []; written = appends_nothing before; begun = begun_nothing pending_data }

listed_one : (content : Content) (last : Option Place) (next : Place) (before between now : Option (List ℕ)) → Listed content last before between → IsPairAfter content last (Some next)
    → WritesRowOf content next (is_some last) between now → Listed content (Some next) before now
listed_one content last next before between now l after w = record {
  rows = l.rows ++ w.row ∷ [];
  gathered = gathers_one content last l.rows l.gathered next w.row after w.is_row;
  text = _;
  written = appended before between now l.text _ l.written w.written;
  begun = begun_more pending_data l.rows (is_some last) l.text l.begun w.row;
}

listed_whole : (content : Content) (last : Option Place) (before now : Option (List ℕ)) → Listed content last before now → IsPairAfter content last None → WritesWhole (IsPendingText content) before now
listed_whole content last before now l none = record {
  text = l.text;
  written = l.written;
  is_text = record { rows = l.rows; are = gathered_all content last l.rows l.gathered none; is = begun_whole pending_data l.rows (is_some last) l.text l.begun };
}

listed_front : (content : Content) (last : Option Place) (before now : Option (List ℕ)) → TellsPairs content → Listed content last before now → WritesSome (IsPendingText content) before now
listed_front content last before now tells l =
    let more = pending_go_on content tells.opposite last l.rows l.gathered in
    record {
      text = l.text;
      written = l.written;
      rest = rows_text (is_some last) (map pending_data more.0);
      is_text = record { rows = l.rows ++ more.0; are = more.1; is = l.begun.goes_on more.0 };
    }

-- a front, of no row
pub nothing_listed : (content : Content) (before : Option (List ℕ)) → TellsPairs content → WritesSome (IsPendingText content) before before
nothing_listed content before tells = listed_front content None before before tells (listed_none content before)

-- where it broke off in a pair, a front was written
pair_broke_off : (content known : Content) (place : Place) (is_later : Bool) (fault : WalkFault) (before between now : Option (List ℕ)) → WritesSome (IsPendingText content) before between
    → WritesPair {X = Unit {0}} known place is_later (Err fault) between now → WritesText {X = Unit {0}} (IsPendingText content) (Err fault) before now
pair_broke_off content known place is_later (walks.Sink sinks.Write) before between now front w = tt
pair_broke_off content known place is_later (walks.Sink sinks.Memory) before between now front w = subst (λ z. WritesSome (IsPendingText content) before z) (sym w) front
pair_broke_off content known place is_later walks.Memory before between now front w = subst (λ z. WritesSome (IsPendingText content) before z) (sym w) front
pair_broke_off content known place is_later walks.Storage before between now front w = subst (λ z. WritesSome (IsPendingText content) before z) (sym w) front

-- a fault that is handed on
handed_on : (IsText : List ℕ → Type 0) (fault : WalkFault) (r : Result (Unit {0}) WalkFault) (before now : Option (List ℕ)) → IsErrAnd r (λ broken. broken ≡ fault)
    → WritesText {X = Unit {0}} IsText (Err fault) before now → WritesText IsText r before now
handed_on IsText fault (Ok x) before now is w = absurd is
handed_on IsText fault (Err broken) before now is w = subst (λ z. WritesText {X = Unit {0}} IsText (Err z) before now) (sym is) w

-- The row of a pair.

-- the register failed before anything was written
pub unread : (content : Content) (place : Place) (is_later : Bool) (fault : Fault) (r : Result (Unit {0}) WalkFault) (before : Option (List ℕ)) → IsErrAnd r (λ broken. broken ≡ broken_off fault)
    → WritesPair content place is_later r before before
unread content place is_later fault (Ok x) before is = absurd is
unread content place is_later faults.Memory (Err broken) before is = subst (λ z. WritesPair {X = Unit {0}} content place is_later (Err z) before before) (sym is) refl
unread content place is_later faults.Storage (Err broken) before is = subst (λ z. WritesPair {X = Unit {0}} content place is_later (Err z) before before) (sym is) refl

-- the row was handed to the writer
pub row_written : (content : Content) (place : Place) (is_later : Bool) (row : PendingPair) (r : Result (Unit {0}) WalkFault) (before now : Option (List ℕ)) → IsPendingRow content place row
    → WritesRow (pending_data row) is_later r before now → WritesPair content place is_later r before now
row_written content place is_later row (Ok x) before now is w = record { row = row; is_row = is; written = w }
row_written content place is_later row (Err (walks.Sink sinks.Write)) before now is w = tt
row_written content place is_later row (Err (walks.Sink sinks.Memory)) before now is w = w
row_written content place is_later row (Err walks.Memory) before now is w = w
row_written content place is_later row (Err walks.Storage) before now is w = w

-- The loop over the pairs, after so many turns.
pub record Listing (v0 v : View) (format : Format) (count : ℕ) (last : Option Place) (turns : ℕ) (before now : Option (List ℕ)) : Type 0 where
  pub entries : v.is_honest → v0.is_sure → count ≡ length v0.content.register
  pub read : HasRead v0 v
  pub few : v.is_honest → v0.is_sure → turns + left v0.content last ≤ length (history_of v0.content)
  pub listed : format ≡ Json → v.is_honest → v0.is_sure → Listed v0.content last before now

pub listing_begins : (v0 v : View) (format : Format) (count : ℕ) (before : Option (List ℕ)) → HasRead v0 v → (v.is_honest → v0.is_sure → count ≡ length v0.content.register) → Listing v0 v format count None 0 before before
listing_begins v0 v format count before read entries = record {
  entries = entries;
  read = read;
  few = λ honest sure. (let most = left_most v0.content None in omega arith);
  listed = λ json honest sure. listed_none v0.content before;
}

module _ (v0 v : View) (format : Format) (count : ℕ) (last : Option Place) (turns : ℕ) (before between : Option (List ℕ)) (s : Listing v0 v format count last turns before between) where
  -- what is known of the pairs at the beginning is known still
  pub still_dated : (v0.is_honest → TellsPairs v0.content) → v.is_honest → v.is_sure → AreDated v.content
  still_dated tells honest sure =
      let sure0 = s.read.later.sure honest sure in
      kept_so v0 v s.read AreDated honest sure0 (tells (s.read.later.honest honest)).dated

  -- the next one
  module _ (v1 : View) (next : Place) (first : IsRead {X = Option Place} (Ok (Some next)) v v1) (after : v1.is_honest → v.is_sure → IsPairAfter v.content last (Some next)) where
    is_next : v1.is_honest → v0.is_sure → IsPairAfter v0.content last (Some next)
    is_next honest sure =
        let honest_now = first.later.honest honest in
        held_so v0 v s.read (λ c. IsPairAfter c last (Some next)) honest_now sure (after honest (s.read.ok.sure honest_now sure))

    pub is_known : (v0.is_honest → TellsPairs v0.content) → v1.is_honest → v1.is_sure → IsWaitingPair v1.content next
    is_known tells honest sure =
        let read1 = read_more (Some next) v0 v v1 s.read first in
        let sure0 = read1.later.sure honest sure in
        kept_so v0 v1 read1 (λ c. IsWaitingPair c next) honest sure0 ((tells (read1.later.honest honest)).opposite next (is_next honest sure0).0)

    pub listing_goes_on : (v2 : View) (now : Option (List ℕ)) → IsRead {X = Unit {0}} (Ok tt) v1 v2 → (format ≡ Json → v2.is_honest → v1.is_sure → WritesRowOf v1.content next (is_some last) between now)
        → Listing v0 v2 format count (Some next) (turns + 1) before now
    listing_goes_on v2 now second writes =
        let read1 = read_more (Some next) v0 v v1 s.read first in
        record {
          entries = λ honest sure. s.entries (first.later.honest (second.later.honest honest)) sure;
          read = read_on v0 v1 read1 tt v2 second;
          few = λ honest sure.
              let honest1 = second.later.honest honest in
              let is = is_next honest1 sure in
              let fewer = left_fewer v0.content last next is.0 is.1 in
              let had = s.few (first.later.honest honest1) sure in
              omega arith;
          listed = λ json honest sure.
              let honest1 = second.later.honest honest in
              let row = held_so v0 v1 read1 (λ c. WritesRowOf c next (is_some last) between now) honest1 sure (writes json honest (read1.ok.sure honest1 sure)) in
              listed_one v0.content last next before between now (s.listed json (first.later.honest honest1) sure) (is_next honest1 sure) row;
        }

    pub listing_breaks : (v2 : View) (now : Option (List ℕ)) (fault : WalkFault) (r : Result (Unit {0}) WalkFault) (is_later : Bool) → IsErrAnd r (λ broken. broken ≡ fault) → (v0.is_honest → TellsPairs v0.content) → IsLater v1 v2
        → (format ≡ Json → v2.is_honest → v1.is_sure → WritesPair {X = Unit {0}} v1.content next is_later (Err fault) between now)
        → format ≡ Json → v2.is_honest → v0.is_sure → WritesText (IsPendingText v0.content) r before now
    listing_breaks v2 now fault r is_later is tells later writes json honest sure =
        let honest1 = later.honest honest in
        let honest_now = first.later.honest honest1 in
        let read1 = read_more (Some next) v0 v v1 s.read first in
        let front = listed_front v0.content last before between (tells (s.read.later.honest honest_now)) (s.listed json honest_now sure) in
        handed_on (IsPendingText v0.content) fault r before now is
        (pair_broke_off v0.content v1.content next is_later fault before between now front (writes json honest (read1.ok.sure honest1 sure)))

    -- a store that shows what it holds has no pair left after as many as there are entries
    pub listing_is_over : count ≤ turns → v1.is_honest → v0.is_sure → ⊥
    listing_is_over enough honest sure =
        let honest_now = first.later.honest honest in
        let is = is_next honest sure in
        let fewer = left_fewer v0.content last next is.0 is.1 in
        let had = s.few honest_now sure in
        let all = s.entries honest_now sure in
        let len = length-map v0.content.register (λ kept. kept.entry) in
        absurd (omega arith)

  pub listing_fails : (v1 : View) → IsLater v v1 → (v0.is_honest → TellsPairs v0.content) → format ≡ Json → v1.is_honest → v0.is_sure → WritesSome (IsPendingText v0.content) before between
  listing_fails v1 later tells json honest sure =
      let honest_now = later.honest honest in
      listed_front v0.content last before between (tells (s.read.later.honest honest_now)) (s.listed json honest_now sure)

  pub listing_ends : (v1 : View) → IsLater v v1 → (v1.is_honest → v.is_sure → IsPairAfter v.content last None) → format ≡ Json → v1.is_honest → v0.is_sure → WritesWhole (IsPendingText v0.content) before between
  listing_ends v1 later after json honest sure =
      let honest_now = later.honest honest in
      let none = held_so v0 v s.read (λ c. IsPairAfter c last None) honest_now sure (after honest (s.read.ok.sure honest_now sure)) in
      listed_whole v0.content last before between (s.listed json honest_now sure) none
