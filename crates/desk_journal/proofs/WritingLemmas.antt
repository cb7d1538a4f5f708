-- The rows of the journal, written number by number.
use Rattle.std.proofs.Common.{◌≡◌, ℕ, ◌+◌, ◌-◌, ◌≤◌, Bool, true, false, List, [], ◌∷◌, ◌++◌, length, map, Option, Some, None, refl, sym, ap, ◌∙◌, subst, arith, append-nil}
use Rattle.std.specs.Prelude.{Result, Ok, Err, nat_lt}
use Rattle.std.specs.Io.KnownBytes.{Appends}
use Rattle.std.specs.Result.{IsErrAnd}
use Rattle.std.specs.List.{cons_option, filter_map, range_with_len}
use Rattle.std.proofs.lemmas.List.Elements.{filter_map-append}
use Rattle.serde_json.specs.Data.{Data}
use Rattle.serde_json.specs.Written.{comma_if, compact_text}
use Rattle.desk_msg.specs.declared.writing.statement_row.SinkFault.TheVariants as sinks
use Rattle.desk_rules.specs.declared.history.entry.Entry.{Entry}
use Rattle.desk_rules.specs.Books.{Books}
use Rattle.desk_rules.specs.History.{entry_at}
use Rattle.desk_rules.specs.Tables.{AreTables}
use Rattle.desk_rules.proofs.SentFronts.{range-append}
use Rattle.desk_register.specs.declared.register.Fault.{Fault}
use Rattle.desk_register.specs.declared.register.Fault.TheVariants as faults
use Rattle.desk_register.specs.View.{HasRead, IsLater, View, IsRead}
use Rattle.desk_register.specs.declared.fault.WalkFault.{WalkFault}
use Rattle.desk_register.specs.declared.fault.WalkFault.TheVariants as walks
use Rattle.desk_register.specs.Ends.{broken_off}
use Rattle.desk_register.proofs.ReadLemmas.{kept_so, read_none}
use Rattle.desk_register.proofs.ReadingLemmas.{read_on}
use Rattle.desk_book.specs.RowByRow.{WritesSome, WritesText, WritesWhole}
use Rattle.desk_book.specs.Sums.{rows_text}
use Rattle.desk_report.specs.RowWritten.{WritesRow}
use Rattle.desk_report.proofs.NumberedLemmas.{RowsWritten, handed_on, none_written, one_written, rows_front, rows_whole}
use Rattle.desk_journal.specs.JournalData.{journal_data}
use Rattle.desk_journal.specs.declared.rows.journal.JournalRow.{JournalRow}
use Rattle.desk_journal.specs.declared.rows.journal.MessageKey.{MessageKey}
use Rattle.desk_journal.specs.declared.rows.journal.Outcome.{Outcome}
use Rattle.desk_journal.specs.Journal.{data_of, journal_of, row_from, row_of}
use Rattle.desk_journal.specs.Messages.{messages_of}
use Rattle.desk_journal.specs.Outcomes.{outcome_of}
use Rattle.desk_journal.specs.Sending.{IsSending}
use Rattle.desk_journal.specs.Writing.{AreRowsText, WritesIf}
use Rattle.desk_journal.specs.declared.sending.Sending.{Sending}

-- How a row was written, or none.

-- a call of the register failed before it
pub unread : (shape : JournalRow → Data) (found : Option JournalRow) (is_later : Bool) (fault : Fault) (r : Result Bool WalkFault) (x : Option (List ℕ)) → IsErrAnd r (λ broken. broken ≡ broken_off fault) → WritesIf shape r found is_later x x
unread shape found is_later fault (Ok b) x is = absurd is
unread shape found is_later faults.Memory (Err broken) x is = subst (λ z. WritesIf shape (Err z) found is_later x x) (sym is) refl
unread shape found is_later faults.Storage (Err broken) x is = subst (λ z. WritesIf shape (Err z) found is_later x x) (sym is) refl

unwritten_so : (shape : JournalRow → Data) (row : JournalRow) (found : Option JournalRow) (is_later : Bool) (fault : WalkFault) (before after : Option (List ℕ)) → WritesRow {X = Unit {0}} (shape row) is_later (Err fault) before after
    → WritesIf shape (Err fault) found is_later before after
unwritten_so shape row found is_later (walks.Sink sinks.Write) before after w = tt
unwritten_so shape row found is_later (walks.Sink sinks.Memory) before after w = w
unwritten_so shape row found is_later walks.Memory before after w = w
unwritten_so shape row found is_later walks.Storage before after w = w

-- the row was not written
pub unwritten : (shape : JournalRow → Data) (row : JournalRow) (found : Option JournalRow) (is_later : Bool) (fault : WalkFault) (r : Result Bool WalkFault) (before after : Option (List ℕ)) → IsErrAnd r (λ broken. broken ≡ fault)
    → WritesRow {X = Unit {0}} (shape row) is_later (Err fault) before after → WritesIf shape r found is_later before after
unwritten shape row found is_later fault (Ok b) before after is w = absurd is
unwritten shape row found is_later fault (Err broken) before after is w = subst (λ z. WritesIf shape (Err z) found is_later before after) (sym is) (unwritten_so shape row found is_later fault before after w)

-- the row of an entry was written
pub number_written : (books : Books) (from n : ℕ) (entry : Entry) (outcome : Outcome) (messages : List MessageKey) (is_later : Bool) (before after : Option (List ℕ)) → nat_lt n from ≡ false → entry_at books.history n ≡ Some entry
    → outcome ≡ outcome_of books n entry → messages ≡ messages_of books n → Appends before after (comma_if is_later ++ compact_text (journal_data (record { number = n; entry = entry; outcome = outcome }) messages))
    → WritesIf (data_of books) (Ok true) (row_from books from n) is_later before after
number_written books from n entry outcome messages is_later before after begun at fares sent written =
    let row_is : row_from books from n ≡ Some (row_of books n entry) = rw (begun, at) refl in
    let same : journal_data (record { number = n; entry = entry; outcome = outcome }) messages ≡ data_of books (row_of books n entry) =
    ap (λ (o : Outcome). journal_data (record { number = n; entry = entry; outcome = o }) messages) fares ∙ ap (journal_data (row_of books n entry)) sent in
    subst (λ z. WritesIf (data_of books) (Ok true) z is_later before after) (sym row_is) (refl, subst (λ z. Appends before after (comma_if is_later ++ compact_text z)) same written)

-- The rows up to a number.

abbrev pub rows_upto : Books → ℕ → ℕ → List JournalRow
rows_upto books from n = filter_map (row_from books from) (range_with_len 1 n)

rows_more : (books : Books) (from n : ℕ) → rows_upto books from (n + 1) ≡ rows_upto books from n ++ cons_option (row_from books from (n + 1)) []
rows_more books from n =
    let next : 1 + n ≡ n + 1 = omega arith in
    ap (filter_map (row_from books from)) (range-append 1 n 1)
    ∙ filter_map-append (row_from books from) (range_with_len 1 n) (range_with_len (1 + n) 1)
    ∙ ap (λ k. rows_upto books from n ++ cons_option (row_from books from k) []) next

-- and those behind it
rows_all : (books : Books) (from n : ℕ) → n ≤ length books.history
    → journal_of books from ≡ rows_upto books from n ++ filter_map (row_from books from) (range_with_len (1 + n) (length books.history - n))
rows_all books from n within =
    let parts : length books.history ≡ n + (length books.history - n) = omega arith in
    ap (λ k. rows_upto books from k) parts
    ∙ ap (filter_map (row_from books from)) (range-append 1 n (length books.history - n))
    ∙ filter_map-append (row_from books from) (range_with_len 1 n) (range_with_len (1 + n) (length books.history - n))

row_more : (shape : JournalRow → Data) (rows : List JournalRow) (found : Option JournalRow) (was_later is_later : Bool) (before between now : Option (List ℕ)) → RowsWritten shape rows was_later before between
    → WritesIf shape (Ok is_later) found was_later between now → RowsWritten shape (rows ++ cons_option found []) is_later before now
row_more shape rows None was_later is_later before between now w more =
    subst (λ z. RowsWritten shape z is_later before now) (sym (append-nil rows))
    (subst (λ z. RowsWritten shape rows z before now) (sym more.0) (subst (λ z. RowsWritten shape rows was_later before z) (sym more.1) w))
row_more shape rows (Some row) was_later is_later before between now w more =
    subst (λ z. RowsWritten shape (rows ++ row ∷ []) z before now) (sym more.0) (one_written shape rows was_later before between w row now more.1)

-- a front of all of them
front_of : (books : Books) (from n : ℕ) (is_later : Bool) (before now : Option (List ℕ)) → n ≤ length books.history → RowsWritten (data_of books) (rows_upto books from n) is_later before now → WritesSome (AreRowsText books from) before now
front_of books from n is_later before now within w =
    let rest = filter_map (row_from books from) (range_with_len (1 + n) (length books.history - n)) in
    let front = rows_front (data_of books) (rows_upto books from n) is_later before now w rest in
    record {
      text = front.text;
      written = front.written;
      rest = front.rest;
      is_text = subst (λ z. front.text ++ front.rest ≡ z) (sym (ap (λ rows. rows_text false (map (data_of books) rows)) (rows_all books from n within))) front.is_text;
    }

-- where it broke off in a number, a front was written
broken_in : (books : Books) (from : ℕ) (found : Option JournalRow) (is_later : Bool) (fault : WalkFault) (before between now : Option (List ℕ)) → WritesSome (AreRowsText books from) before between
    → WritesIf (data_of books) (Err fault) found is_later between now → WritesText {X = Unit {0}} (AreRowsText books from) (Err fault) before now
broken_in books from found is_later (walks.Sink sinks.Write) before between now front w = tt
broken_in books from found is_later (walks.Sink sinks.Memory) before between now front w = subst (λ z. WritesSome (AreRowsText books from) before z) (sym w) front
broken_in books from found is_later walks.Memory before between now front w = subst (λ z. WritesSome (AreRowsText books from) before z) (sym w) front
broken_in books from found is_later walks.Storage before between now front w = subst (λ z. WritesSome (AreRowsText books from) before z) (sym w) front

-- and where it broke off before any, one of no row
broken_before : (books : Books) (from : ℕ) (fault : WalkFault) (before : Option (List ℕ)) → WritesSome (AreRowsText books from) before before → WritesText {X = Unit {0}} (AreRowsText books from) (Err fault) before before
broken_before books from (walks.Sink sinks.Write) before front = tt
broken_before books from (walks.Sink sinks.Memory) before front = front
broken_before books from walks.Memory before front = front
broken_before books from walks.Storage before front = front

pub nothing_yet : (books : Books) (from : ℕ) (fault : WalkFault) (r : Result (Unit {0}) WalkFault) (before : Option (List ℕ)) → IsErrAnd r (λ broken. broken ≡ fault) → WritesText (AreRowsText books from) r before before
nothing_yet books from fault r before is =
    handed_on (AreRowsText books from) fault r before before is (broken_before books from fault before (front_of books from 0 false before before (omega arith) (none_written (data_of books) before)))

-- The walk, after so many numbers.

module _ (from : ℕ) (sending : Sending) (IsJson : Type 0) (v0 : View) (count : ℕ) where
  -- these are the books, and what was noted of what they sent
  pub record AreKnown (books : Books) : Type 0 where
    pub tables : AreTables books v0.content
    pub sent : IsSending books sending
    pub entries : count ≡ length books.history

  pub record Writing (v : View) (n : ℕ) (is_later : Bool) (before now : Option (List ℕ)) : Type 0 where
    pub read : HasRead v0 v
    pub rows_of : (books : Books) → IsJson → v.is_honest → v0.is_sure → AreKnown books → RowsWritten (data_of books) (rows_upto books from n) is_later before now

  pub writing_begins : (before : Option (List ℕ)) → Writing v0 0 false before before
  writing_begins before = record { read = read_none v0; rows_of = λ books json honest sure known. none_written (data_of books) before }

  module _ (v : View) (n : ℕ) (was_later : Bool) (before between : Option (List ℕ)) (w : Writing v n was_later before between) where
    -- what a number's row says of the content that was read
    abbrev pub WritesNumber : View → Result Bool WalkFault → Option (List ℕ) → Type 0
    WritesNumber v1 r now = (books : Books) → IsJson → v1.is_honest → v.is_sure → AreTables books v.content → IsSending books sending → WritesIf (data_of books) r (row_from books from (n + 1)) was_later between now

    of_first : (v1 : View) (r : Result Bool WalkFault) (now : Option (List ℕ)) (later : IsLater v v1) → WritesNumber v1 r now → (books : Books) → IsJson → v1.is_honest → v0.is_sure → AreKnown books
        → WritesIf (data_of books) r (row_from books from (n + 1)) was_later between now
    of_first v1 r now later writes books json honest sure known =
        let honest_now = later.honest honest in
        writes books json honest (w.read.ok.sure honest_now sure) (kept_so v0 v w.read (AreTables books) honest_now sure known.tables) known.sent

    pub writing_goes_on : (v1 : View) (is_later : Bool) (now : Option (List ℕ)) → IsRead {X = Unit {0}} (Ok tt) v v1 → WritesNumber v1 (Ok is_later) now → Writing v1 (n + 1) is_later before now
    writing_goes_on v1 is_later now read writes = record {
      read = read_on v0 v w.read tt v1 read;
      rows_of = λ books json honest sure known.
          let honest_now = read.later.honest honest in
          let more = of_first v1 (Ok is_later) now read.later writes books json honest sure known in
          subst (λ z. RowsWritten (data_of books) z is_later before now) (sym (rows_more books from n))
          (row_more (data_of books) (rows_upto books from n) (row_from books from (n + 1)) was_later is_later before between now (w.rows_of books json honest_now sure known) more);
    }

    pub writing_breaks : (v1 : View) (now : Option (List ℕ)) (fault : WalkFault) (r : Result (Unit {0}) WalkFault) → n ≤ count → IsErrAnd r (λ broken. broken ≡ fault) → IsLater v v1 → WritesNumber v1 (Err fault) now
        → (books : Books) → IsJson → v1.is_honest → v0.is_sure → AreKnown books → WritesText (AreRowsText books from) r before now
    writing_breaks v1 now fault r within is later writes books json honest sure known =
        let honest_now = later.honest honest in
        let entries = known.entries in
        let front = front_of books from n was_later before between (omega (arith, within, entries)) (w.rows_of books json honest_now sure known) in
        handed_on (AreRowsText books from) fault r before now is
        (broken_in books from (row_from books from (n + 1)) was_later fault before between now front (of_first v1 (Err fault) now later writes books json honest sure known))

    pub writing_ends : n ≤ count → count ≤ n → (books : Books) → IsJson → v.is_honest → v0.is_sure → AreKnown books → WritesWhole (AreRowsText books from) before between
    writing_ends within enough books json honest sure known =
        let entries = known.entries in
        let all : n ≡ length books.history = omega (arith, within, enough, entries) in
        subst (λ k. WritesWhole (λ text. text ≡ rows_text false (map (data_of books) (rows_upto books from k))) before between) all (rows_whole (data_of books) (rows_upto books from n) was_later before between (w.rows_of books json honest sure known))
