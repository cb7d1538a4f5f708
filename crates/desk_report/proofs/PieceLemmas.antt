-- A text that is written in pieces, one behind another.
use Rattle.std.proofs.Common.{◌≡◌, ℕ, false, List, [], ◌++◌, Option, refl, sym, ap, ◌∙◌, subst, append_assoc, append-nil}
use Rattle.std.specs.Prelude.{Result, Ok, Err, IfErr, OnOk}
use Rattle.std.specs.Result.{IsErrAnd}
use Rattle.std.specs.Io.KnownBytes.{Appends}
use Rattle.desk_msg.specs.declared.writing.statement_row.SinkFault.TheVariants as sinks
use Rattle.desk_register.specs.View.{HasRead, View}
use Rattle.desk_rules.specs.Content.{Content}
use Rattle.desk_register.specs.declared.fault.WalkFault.{WalkFault}
use Rattle.desk_register.specs.declared.fault.WalkFault.TheVariants as walks
use Rattle.desk_engine.specs.Ready.{IsReady, KeepsFormed}
use Rattle.desk_book.specs.RowByRow.{WritesSome, WritesText, WritesWhole}
use Rattle.desk_book.proofs.RowLemmas.{appended}

-- the writer failed
pub write_failed : {X : Type 0} (IsText : List ℕ → Type 0) (fault : WalkFault) (r : Result X WalkFault) (before now : Option (List ℕ)) → fault ≡ walks.Sink sinks.Write → IsErrAnd r (λ broken. broken ≡ fault) → WritesText IsText r before now
write_failed IsText fault (Ok x) before now is broken = absurd broken
write_failed {X} IsText fault (Err other) before now is broken = subst (λ z. WritesText {X = X} IsText (Err z) before now) (sym (broken ∙ is)) tt

module _ (P Q : List ℕ → Type 0) where
  -- a text is that of another kind
  pub text_as : {X : Type 0} (r : Result X WalkFault) (before now : Option (List ℕ)) → ((text : List ℕ) → P text → Q text) → WritesText P r before now → WritesText Q r before now
  text_as (Ok x) before now to w = record { text = w.text; written = w.written; is_text = to w.text w.is_text }
  text_as (Err (walks.Sink sinks.Write)) before now to w = tt
  text_as (Err (walks.Sink sinks.Memory)) before now to w = record { text = w.text; written = w.written; rest = w.rest; is_text = to (w.text ++ w.rest) w.is_text }
  text_as (Err walks.Memory) before now to w = record { text = w.text; written = w.written; rest = w.rest; is_text = to (w.text ++ w.rest) w.is_text }
  text_as (Err walks.Storage) before now to w = record { text = w.text; written = w.written; rest = w.rest; is_text = to (w.text ++ w.rest) w.is_text }

  module _ (first last : List ℕ) (to : (text : List ℕ) → P text → Q (first ++ (text ++ last))) (a b c : Option (List ℕ)) (begins : Appends a b first) where
    -- a text between two pieces
    pub whole : (d : Option (List ℕ)) → WritesWhole P b c → Appends c d last → WritesWhole Q a d
    whole d w ends = record {
      text = first ++ (w.text ++ last);
      written = appended a b d first (w.text ++ last) begins (appended b c d w.text last w.written ends);
      is_text = to w.text w.is_text;
    }

    some : WritesSome P b c → WritesSome Q a c
    some w = record {
      text = first ++ w.text;
      written = appended a b c first w.text begins w.written;
      rest = w.rest ++ last;
      is_text = subst Q (ap (λ (l : List ℕ). first ++ l) (append_assoc w.text w.rest last) ∙ sym (append_assoc first w.text (w.rest ++ last))) (to (w.text ++ w.rest) w.is_text);
    }

    -- where it broke off behind the first
    pub broken : (X Y : Type 0) (fault : WalkFault) → WritesText {X = X} P (Err fault) b c → WritesText {X = Y} Q (Err fault) a c
    broken X Y (walks.Sink sinks.Write) w = tt
    broken X Y (walks.Sink sinks.Memory) w = some w
    broken X Y walks.Memory w = some w
    broken X Y walks.Storage w = some w

    -- and the last piece, which may fail to be written
    pub ended : (r : Result (Unit {0}) WalkFault) (d : Option (List ℕ)) → WritesWhole P b c → OnOk r (Appends c d last) → IfErr r (λ fault. fault ≡ walks.Sink sinks.Write) → WritesText Q r a d
    ended (Ok x) d w ends fault = whole d w ends
    ended (Err other) d w ends fault = write_failed {X = Unit {0}} Q other (Err other) a d fault refl

  -- a text behind a piece
  pub behind : (first : List ℕ) → ((text : List ℕ) → P text → Q (first ++ text)) → (a b c : Option (List ℕ)) → Appends a b first → {X : Type 0} (r : Result X WalkFault) → WritesText P r b c → WritesText Q r a c
  behind first to a b c begins (Ok x) w = record { text = first ++ w.text; written = appended a b c first w.text begins w.written; is_text = to w.text w.is_text }
  behind first to a b c begins {X} (Err fault) w =
      let with_end : (text : List ℕ) → P text → Q (first ++ (text ++ [])) = λ text p. subst (λ (l : List ℕ). Q (first ++ l)) (sym (append-nil text)) (to text p) in
      broken first [] with_end a b c begins X X fault w

-- reading calls leave a register ready
pub ready_still : (v0 v : View) → IsReady false v0 → HasRead v0 v → IsReady false v
ready_still v0 v ready read = record {
  stage = λ is. read.ok.stage ∙ ready.stage refl;
  sure = λ is honest. read.ok.sure honest (ready.sure refl (read.later.honest honest));
  device = λ is honest. read.ok.device honest (ready.device refl (read.later.device_honest honest));
  books = λ is honest.
      let held = ready.books refl (read.later.honest honest) in
      let C : Content → Type 0 = λ z. KeepsFormed v.room held.0 z in
      let R : ℕ → Type 0 = λ k. KeepsFormed k held.0 v0.content in
      (held.0, subst C (sym (read.same honest (ready.sure refl (read.later.honest honest)))) (subst R (sym read.later.room) held.1));
}
