-- The journal's object: its rows between what begins it and what ends it.
use Rattle.std.proofs.Common.{◌≡◌, ℕ, false, List, [], ◌∷◌, ◌++◌, map, codes, Option, refl, sym, ap, ◌∙◌, subst, append_assoc}
use Rattle.std.specs.Prelude.{Result, Ok, Err, IfErr, OnOk}
use Rattle.std.specs.Result.{IsErrAnd}
use Rattle.std.specs.Io.KnownBytes.{Appends}
use Rattle.serde_json.specs.Data.{Data, array, member, no_members, object}
use Rattle.serde_json.specs.View.{items_of}
use Rattle.serde_json.specs.Written.{compact_text}
use Rattle.serde_json.proofs.OnLiterals.{serde_json_on_literals}
use Rattle.desk_msg.specs.declared.writing.statement_row.SinkFault.TheVariants as sinks
use Rattle.desk_rules.specs.Books.{Books}
use Rattle.desk_register.specs.declared.fault.WalkFault.{WalkFault}
use Rattle.desk_register.specs.declared.fault.WalkFault.TheVariants as walks
use Rattle.desk_book.specs.RowByRow.{WritesSome, WritesText, WritesWhole}
use Rattle.desk_book.specs.Sums.{rows_text}
use Rattle.desk_book.proofs.RowLemmas.{appended, appends_nothing, closed_by}
use Rattle.desk_report.proofs.NumberedLemmas.{handed_on}
use Rattle.desk_journal.specs.Journal.{IsJournalText, data_of, journal_of}
use Rattle.desk_journal.specs.Writing.{AreRowsText}

abbrev pub begins : List ℕ
begins = codes "{\"journal\":["

abbrev pub ends : List ℕ
ends = codes "]}"

-- an object of one array, by the text of its rows
in_object : (rows : List Data) → begins ++ (rows_text false rows ++ ends) ≡ compact_text (object (member (codes "journal") (array (items_of rows)) no_members))
unfolding serde_json_on_literals
in_object rows = ap (λ (l : List ℕ). begins ++ l) (sym (append_assoc (rows_text false rows) (93 ∷ []) (125 ∷ [])) ∙ ap (λ (l : List ℕ). l ++ 125 ∷ []) (closed_by false rows))

of_rows : (books : Books) (from : ℕ) (text : List ℕ) → AreRowsText books from text → IsJournalText books from (begins ++ (text ++ ends))
of_rows books from text are = ap (λ (l : List ℕ). begins ++ (l ++ ends)) are ∙ in_object (map (data_of books) (journal_of books from))

-- the writer failed
write_failed : {X : Type 0} (IsText : List ℕ → Type 0) (fault : WalkFault) (r : Result X WalkFault) (before now : Option (List ℕ)) → fault ≡ walks.Sink sinks.Write → IsErrAnd r (λ broken. broken ≡ fault) → WritesText IsText r before now
write_failed IsText fault (Ok x) before now is broken = absurd broken
write_failed {X} IsText fault (Err other) before now is broken = subst (λ z. WritesText {X = X} IsText (Err z) before now) (sym (broken ∙ is)) tt

module _ (books : Books) (from : ℕ) (a b c : Option (List ℕ)) (begun : Appends a b begins) where
  some : WritesSome (AreRowsText books from) b c → WritesSome (IsJournalText books from) a c
  some w = record {
    text = begins ++ w.text;
    written = appended a b c begins w.text begun w.written;
    rest = w.rest ++ ends;
    is_text = subst (IsJournalText books from) (ap (λ (l : List ℕ). begins ++ l) (append_assoc w.text w.rest ends) ∙ sym (append_assoc begins w.text (w.rest ++ ends))) (of_rows books from (w.text ++ w.rest) w.is_text);
  }

  -- where it broke off in the rows
  pub broken : (X Y : Type 0) (fault : WalkFault) → WritesText {X = X} (AreRowsText books from) (Err fault) b c → WritesText {X = Y} (IsJournalText books from) (Err fault) a c
  broken X Y (walks.Sink sinks.Write) w = tt
  broken X Y (walks.Sink sinks.Memory) w = some w
  broken X Y walks.Memory w = some w
  broken X Y walks.Storage w = some w

  -- and what ends it, which may fail to be written
  pub ended : (r : Result (Unit {0}) WalkFault) (d : Option (List ℕ)) → WritesWhole (AreRowsText books from) b c → OnOk r (Appends c d ends) → IfErr r (λ fault. fault ≡ walks.Sink sinks.Write) → WritesText (IsJournalText books from) r a d
  ended (Ok x) d w end fault = record {
    text = begins ++ (w.text ++ ends);
    written = appended a b d begins (w.text ++ ends) begun (appended b c d w.text ends w.written end);
    is_text = of_rows books from w.text w.is_text;
  }
  ended (Err other) d w end fault = write_failed {X = Unit {0}} (IsJournalText books from) other (Err other) a d fault refl

-- before anything is written
some_none : (books : Books) (from : ℕ) (before : Option (List ℕ)) → WritesSome (IsJournalText books from) before before
some_none books from before = record {
  text = [];
  written = appends_nothing before;
  rest = compact_text (object (member (codes "journal") (array (items_of (map (data_of books) (journal_of books from)))) no_members));
  is_text = refl;
}

none_told : (books : Books) (from : ℕ) (fault : WalkFault) (before : Option (List ℕ)) → WritesText {X = Unit {0}} (IsJournalText books from) (Err fault) before before
none_told books from (walks.Sink sinks.Write) before = tt
none_told books from (walks.Sink sinks.Memory) before = some_none books from before
none_told books from walks.Memory before = some_none books from before
none_told books from walks.Storage before = some_none books from before

pub nothing_told : (books : Books) (from : ℕ) (fault : WalkFault) (r : Result (Unit {0}) WalkFault) (before : Option (List ℕ)) → IsErrAnd r (λ broken. broken ≡ fault) → WritesText (IsJournalText books from) r before before
nothing_told books from fault r before is = handed_on (IsJournalText books from) fault r before before is (none_told books from fault before)
