-- What is read of a row that was written is what was written.
use Rattle.std.proofs.Common.{◌≡◌, ◌<◌, ℕ, pos, List, [], ◌∷◌, ◌++◌, length, length-append, Some, slice_get, refl, sym, ap, subst, ◌∙◌, lit<, arith}
use Rattle.sqlite.specs.Order.{Row, column}
use Rattle.sqlite.specs.declared.types.Value.TheVariants.{Int, Text as Words}
use Rattle.desk_rules.specs.declared.history.entry.Entry.{Entry}
use Rattle.desk_rules.specs.declared.answers.reply.Kept.{Kept}
use Rattle.desk_rules.specs.declared.answers.reply.Reply.{Reply}
use Rattle.desk_rules.specs.Spelt.{IsSpelt}
use Rattle.sql_entries.specs.Columns.{about_of, kind_number}
use Rattle.sql_entries.specs.Reading.{Says, SaysReply}
use Rattle.sql_entries.specs.Rows.{shown_kept}
use Rattle.sql_entries.specs.Shown.{shown_entry, shown_reply}
use Rattle.sql_entries.proofs.ReadingLemmas.{reads_back, says_itself}
use Rattle.sql_tables.specs.declared.versions.Version.{Version}

-- ---- of an entry

module _ (row : Row) (entry : Entry) (rest : Row) (is : row ≡ shown_entry entry ++ rest) where
  pub entry_is : (read : Entry) → column row 2 ≡ Int (pos (kind_number read)) → Says row read → Some read ≡ Some entry
  entry_is read kind says = ap Some (reads_back rest entry read (subst (λ (r : Row). column r 2 ≡ Int (pos (kind_number read))) is kind) (subst (λ (r : Row). Says r read) is says))

  long : 15 < length row
  long =
      let wide : length (shown_entry entry) ≡ 16 = refl in
      let size = ap length is ∙ length-append (shown_entry entry) rest in
      omega (arith, wide, size)

  pub entry_told : (Holds : Type 0) → IsSpelt entry → ((e : Entry) → 15 < length row → column row 2 ≡ Int (pos (kind_number e)) → Says row e → IsSpelt e → Holds) → Holds
  entry_told Holds spelt all = all entry long (ap (λ (r : Row). column r 2) is) (subst (λ (r : Row). Says r entry) (sym is) (says_itself rest entry)) spelt

-- ---- of an entry with its reply

-- what stands behind the entry
abbrev pub behind : ℕ → Kept → Row
behind number kept = shown_reply kept.reply ++ Int (pos number) ∷ Words (about_of kept.entry) ∷ []

module _ (version : Version) (row : Row) (number : ℕ) (kept : Kept) (is : row ≡ shown_kept version number kept) where
  pub says_its_reply : SaysReply row 16 kept.reply
  says_its_reply = record { status = ap (λ (r : Row). column r 16) is; mt = ap (λ (r : Row). column r 17) is; text = ap (λ (r : Row). column r 18) is }

  pub wide : 18 < length row
  wide = let all : 18 < length (shown_kept version number kept) = lit< tt in subst (λ (r : Row). 18 < length r) (sym is) all

pub first_row : (rows : List Row) (row : Row) (it : Row) → Some row ≡ slice_get rows 0 → rows ≡ it ∷ [] → row ≡ it
first_row rows row it first is = let one : Some row ≡ Some it = first ∙ ap (λ (all : List Row). slice_get all 0) is in cc

abbrev paired : Entry → Reply → Kept
paired entry reply = record { entry = entry; reply = reply }

pub both_told : (kept : Kept) (entry : Entry) (reply : Reply) → entry ≡ kept.entry → reply ≡ kept.reply → Some (paired entry reply) ≡ Some kept
both_told kept entry reply same told = ap (λ (e : Entry). Some (paired e reply)) same ∙ ap (λ (r : Reply). Some (paired kept.entry r)) told
