-- The sums, as desk_book writes them for an answer.
use Rattle.std.proofs.Common.{◌≡◌, ℕ, false, List, [], ◌∷◌, ◌++◌, Option, refl, ap}
use Rattle.std.specs.Prelude.{Result, Ok, Err}
use Rattle.std.specs.Result.{IsErrAnd}
use Rattle.std.specs.Io.KnownBytes.{Appends}
use Rattle.desk_msg.specs.declared.writing.statement_row.SinkFault.TheVariants as sinks
use Rattle.desk_rules.specs.declared.answers.reply.Reply.{Reply}
use Rattle.desk_rules.specs.Books.{Books}
use Rattle.desk_rules.specs.Content.{Content}
use Rattle.desk_register.specs.View.{View}
use Rattle.desk_engine.specs.Applied.{Keeps}
use Rattle.desk_register.specs.declared.fault.WalkFault.{WalkFault}
use Rattle.desk_register.specs.declared.fault.WalkFault.TheVariants as walks
use Rattle.desk_book.specs.Answered.{IsToldSums}
use Rattle.desk_engine.specs.Ready.{IsReady}
use Rattle.desk_book.specs.RowByRow.{WritesSome, WritesText, WritesWhole, told_of_walk}
use Rattle.desk_book.specs.Sums.{sums_data}
use Rattle.desk_book.specs.WrittenTo.{Writes, reply_with}
use Rattle.desk_book.specs.declared.answers.head.Head.{Head}
use Rattle.desk_report.proofs.NumberedLemmas.{handed_on}
use Rattle.desk_report.specs.ReportWritten.{IsPartText}
use Rattle.desk_report.specs.declared.part.Part.TheVariants.{Sums}
use Rattle.desk_report.proofs.PartLemmas.{part_exists}

-- the text of an answer that tells the sums
sums_text_of : (books : Books) (content : Content) (head : Head) (text : List ℕ) → IsToldSums books (reply_with head text) books → IsPartText books content Sums text
sums_text_of books content head text told = (sums_data told.cash told.securities, (told.cash, told.securities, told.are_cash, told.are, refl), ap (λ (r : Reply). r.text) told.replied)

pub totals_whole : (books : Books) (content : Content) (head : Head) (before now : Option (List ℕ)) → Writes (λ reply. IsToldSums books reply books) (Ok head) before now → WritesWhole (IsPartText books content Sums) before now
totals_whole books content head before now w = record { text = w.text; written = w.written; is_text = sums_text_of books content head w.text w.is_answer }

-- some of it is a front of what may be told
front_so : (books : Books) (content : Content) (any : (text : List ℕ) × IsPartText books content Sums text) (text : List ℕ) (before now : Option (List ℕ)) → Appends before now text
    → (((text ≡ []) → ⊥) → (head : Head) × (rest : List ℕ) × IsToldSums books (reply_with head (text ++ rest)) books) → WritesSome (IsPartText books content Sums) before now
front_so books content any [] before now written front = record { text = []; written = written; rest = any.0; is_text = any.1 }
front_so books content any (c ∷ text) before now written front =
    let some = front (λ none. absurd (cc)) in
    record { text = c ∷ text; written = written; rest = some.1; is_text = sums_text_of books content some.0 ((c ∷ text) ++ some.1) some.2 }

some_totals : (books : Books) (content : Content) (any : (text : List ℕ) × IsPartText books content Sums text) (fault : WalkFault) (before now : Option (List ℕ)) → Writes (λ reply. IsToldSums books reply books) (told_of_walk (Err fault)) before now
    → WritesText {X = Unit {0}} (IsPartText books content Sums) (Err fault) before now
some_totals books content any (walks.Sink sinks.Write) before now w = tt
some_totals books content any (walks.Sink sinks.Memory) before now w = front_so books content any w.text before now w.written w.front
some_totals books content any walks.Memory before now w = front_so books content any w.text before now w.written w.front
some_totals books content any walks.Storage before now w = front_so books content any w.text before now w.written w.front

pub totals_broke : (books : Books) (v : View) → IsReady false v → v.is_honest → Keeps v.room books v.content → (fault : WalkFault) (r : Result (Unit {0}) WalkFault) (before now : Option (List ℕ)) → IsErrAnd r (λ broken. broken ≡ fault)
    → Writes (λ reply. IsToldSums books reply books) (told_of_walk (Err fault)) before now → WritesText (IsPartText books v.content Sums) r before now
totals_broke books v ready honest keeps fault r before now is w =
    let one = part_exists v ready honest books keeps Sums in
    handed_on (IsPartText books v.content Sums) fault r before now is (some_totals books v.content (_, (one.0, one.1, refl)) fault before now w)
