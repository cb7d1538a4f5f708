-- What an open desk's register is known to hold.
use Rattle.std.proofs.Common.{◌≡◌, ℕ, ◌≤◌, false, List, length, Option, Some, refl, sym, ap, ◌∙◌, subst, arith}
use Rattle.std.proofs.lemmas.List.{length-map}
use Rattle.std.specs.Prelude.{Ok}
use Rattle.desk_rules.specs.declared.answers.reply.Kept.{Kept}
use Rattle.desk_rules.specs.declared.history.entry.Entry.{Entry}
use Rattle.desk_rules.specs.declared.history.entry.Entry.TheVariants.{Run}
use Rattle.desk_rules.specs.declared.history.entry.RunRule.{RunRule}
use Rattle.desk_rules.specs.declared.limits.TheConstants.{MOST_ENTRIES}
use Rattle.desk_rules.specs.Books.{Books}
use Rattle.desk_rules.specs.Content.{Content, history_of}
use Rattle.desk_rules.specs.History.{entry_at}
use Rattle.desk_rules.specs.Tables.{AreTables}
use Rattle.desk_rules.proofs.SentNumbers.{sent_few}
use Rattle.desk_register.specs.View.{View, IsRead}
use Rattle.desk_register.proofs.ReadLemmas.{kept_so, read_one}
use Rattle.desk_engine.proofs.AcceptingLemmas.{entries_within}
use Rattle.desk_engine.specs.Ready.{IsReady}
use Rattle.desk_journal.specs.Sending.{HoldsBooks, HoldsEntry, HoldsRun}

-- a history has as many entries as the tables
pub as_many : (books : Books) (content : Content) → AreTables books content → length content.register ≡ length books.history
as_many books content are = sym (length-map content.register (λ (kept : Kept). kept.entry)) ∙ ap length are.history

-- no more entries than there is room for
pub within_room : (v : View) → IsReady false v → v.is_honest → length v.content.register ≤ v.room
within_room v ready honest =
    let books = ready.books refl honest in
    let within = entries_within v.room books.0.history books.1.tables.accepted in
    let same = as_many books.0 v.content books.1.tables.tables in
    omega (arith, within, same)

-- and so few that the messages can be counted
pub holds_books : (v : View) (count : ℕ) → IsReady false v → v.is_honest → count ≡ length v.content.register → count ≤ MOST_ENTRIES → HoldsBooks v.content
holds_books v count ready honest entries most =
    let books = ready.books refl honest in
    let are = books.1.tables.tables in
    let same = as_many books.0 v.content are in
    record { books = books.0; are = are; few = sent_few books.0 are.are (omega (arith, entries, most, same)) }

-- what is held is held after calls that only read
pub still_held : {X : Type 0} (r : X) (v0 v1 : View) → IsRead {X = X} (Ok r) v0 v1 → (v0.is_honest → v0.is_sure → HoldsBooks v0.content) → v1.is_honest → v1.is_sure → HoldsBooks v1.content
still_held r v0 v1 read held honest sure =
    let sure0 = read.later.sure honest sure in
    subst HoldsBooks (sym (read.same honest sure0)) (held (read.later.honest honest) sure0)

-- and as many entries
pub entries_known : (count : ℕ) (v0 v1 : View) → IsRead {X = Unit {0}} (Ok tt) v0 v1 → (v1.is_honest → v0.is_sure → count ≡ length v0.content.register) → v1.is_honest → v1.is_sure → count ≡ length v1.content.register
entries_known count v0 v1 read counted honest sure =
    let sure0 = read.later.sure honest sure in
    kept_so v0 v1 (read_one tt v0 v1 read) (λ content. count ≡ length content.register) honest sure0 (counted honest sure0)

-- and an entry, where it was read
pub entry_known : (v0 v1 : View) (n : ℕ) (found : Option Entry) (entry : Entry) → IsRead {X = Option Entry} (Ok found) v0 v1 → (v0.is_honest → v0.is_sure → HoldsBooks v0.content)
    → (v1.is_honest → v0.is_sure → found ≡ entry_at (history_of v0.content) n) → found ≡ Some entry → v1.is_honest → v1.is_sure → HoldsEntry v1.content n entry
entry_known v0 v1 n found entry read held told is honest sure =
    let sure0 = read.later.sure honest sure in
    record {
      holds = still_held found v0 v1 read held honest sure;
      at = kept_so v0 v1 (read_one found v0 v1 read) (λ content. entry_at (history_of content) n ≡ Some entry) honest sure0 (sym (told honest sure0) ∙ is);
    }

-- and a run, where its entry was read
pub run_known : (v0 v1 : View) (n : ℕ) (found : Option Entry) (reference day : List ℕ) (rule : RunRule) → IsRead {X = Option Entry} (Ok found) v0 v1 → (v0.is_honest → v0.is_sure → HoldsBooks v0.content)
    → (v1.is_honest → v0.is_sure → found ≡ entry_at (history_of v0.content) n) → found ≡ Some (Run reference day rule) → v1.is_honest → v1.is_sure → HoldsRun v1.content n
run_known v0 v1 n found reference day rule read held told is honest sure =
    let sure0 = read.later.sure honest sure in
    record {
      holds = still_held found v0 v1 read held honest sure;
      reference = reference;
      day = day;
      rule = rule;
      is_run = kept_so v0 v1 (read_one found v0 v1 read) (λ content. entry_at (history_of content) n ≡ Some (Run reference day rule)) honest sure0 (sym (told honest sure0) ∙ is);
    }
