-- What the texts show of the rows of `sent`.
use Rattle.std.proofs.Common.{◌≡◌, ◌↔◌, ℕ, ℤ, pos, List, [], ◌∷◌, map, filter, Bool, IsTrue, IfErr, Result, Vec, codes, refl, sym, ◌∙◌}
use Rattle.std.specs.declared.alloc.Global.{Global}
use Rattle.std.specs.List.{AllByRecursion}
use Rattle.std.specs.List.Sorted.{IsPermutation}
use Rattle.sqlite.specs.declared.types.Value.TheVariants.{Int}
use Rattle.sqlite.specs.Order.{Row}
use Rattle.sqlite.specs.Term.{Term, col}
use Rattle.sqlite.specs.declared.error.Error.{Error}
use Rattle.sqlite.specs.Listing.{understood}
use Rattle.sqlite.specs.State.{State, FailsToQuery}
use Rattle.sqlite_tied.specs.Compute.{everything}
use Rattle.sql_tables.specs.Schema.{desk_schema, sent_table}
use Rattle.sql_tables.specs.Ends.{ForCause}
use Rattle.sql_tables.proofs.BlameLemmas.{IsWhole}
use Rattle.sql_tables.specs.Queries.{equals}
use Rattle.sql_tables.proofs.ShownLemmas.{IsPlainQuery, plain_caused}
use Rattle.sql_tables.specs.Forms.{HasForm}
use Rattle.desk_rules.specs.declared.answers.reply.Sent.{Sent}
use Rattle.sql_rows.specs.SentTold.{values_of}
use Rattle.sql_tables.specs.ByNumber.{above, below, has_number, HasOne}
use Rattle.sql_tables.specs.Whole.{shown_by}
use Rattle.sql_tables.proofs.ByNumberLemmas.{is_its_row, shows_it}
use Rattle.sql_tables.proofs.RowLemmas.{IsNumbered}

-- ---- the texts

abbrev pub at_text : List ℕ
at_text = codes "SELECT number, bic, mt, about, text FROM sent WHERE number = ?1"

abbrev pub above_text : List ℕ
above_text = codes "SELECT number FROM sent WHERE number > ?1"

abbrev pub below_text : List ℕ
below_text = codes "SELECT number FROM sent WHERE number < ?1"

abbrev columns : List Term
columns = col 1 0 ∷ col 1 2 ∷ col 1 3 ∷ col 1 4 ∷ col 1 5 ∷ []

abbrev names : List (List ℕ)
names = codes "number" ∷ codes "bic" ∷ codes "mt" ∷ codes "about" ∷ codes "text" ∷ []

pub reads_at : IsPlainQuery at_text 9 (equals 0 0 ∷ []) columns
unfolding understood everything
reads_at = record { names = names; is = refl; query = record { selects = refl; plain = (refl, refl); unlisted = refl } }

pub reads_above : IsPlainQuery above_text 9 (above ∷ []) (col 1 0 ∷ [])
unfolding understood everything
reads_above = record { names = codes "number" ∷ []; is = refl; query = record { selects = refl; plain = (refl, refl); unlisted = refl } }

pub reads_below : IsPlainQuery below_text 9 (below ∷ []) (col 1 0 ∷ [])
unfolding understood everything
reads_below = record { names = codes "number" ∷ []; is = refl; query = record { selects = refl; plain = (refl, refl); unlisted = refl } }

at_whole : IsWhole at_text 1
unfolding understood everything
at_whole = record { plain = (refl, refl); whole = refl; width_is = refl }

above_whole : IsWhole above_text 1
unfolding understood everything
above_whole = record { plain = (refl, refl); whole = refl; width_is = refl }

below_whole : IsWhole below_text 1
unfolding understood everything
below_whole = record { plain = (refl, refl); whole = refl; width_is = refl }

module _ (old new : State) (has : old.now.schema ≡ desk_schema) (open' : IsTrue old.is_open) (number : ℤ) (r : Result (Vec Row Global) Error) where
  pub at_caused : IfErr r (FailsToQuery at_text (Int number ∷ []) old new) → IfErr r (ForCause old new)
  at_caused h = plain_caused reads_at (Int number ∷ []) old new has open' at_whole refl r h

  pub above_caused : IfErr r (FailsToQuery above_text (Int number ∷ []) old new) → IfErr r (ForCause old new)
  above_caused h = plain_caused reads_above (Int number ∷ []) old new has open' above_whole refl r h

  pub below_caused : IfErr r (FailsToQuery below_text (Int number ∷ []) old new) → IfErr r (ForCause old new)
  below_caused h = plain_caused reads_below (Int number ∷ []) old new has open' below_whole refl r h

-- ---- the row of a number

numbered : IsNumbered sent_table 4
numbered = record { key = refl; last = refl; size = refl }

pub row_told : (rows : List Row) (number : ℕ) (message : Sent) (shown items : List Row) (told : Bool) → IsPermutation (map (shown_by 4) (filter (has_number number) rows)) items → shown ≡ items
    → (IsTrue told → shown ≡ (Int (pos number) ∷ values_of message) ∷ []) → AllByRecursion (HasForm sent_table) rows → IsTrue told → HasOne rows number (values_of message)
row_told rows number message shown items told same is tells formed all = is_its_row sent_table 4 numbered rows items number (values_of message) refl formed same (sym is ∙ tells all)

pub row_shown : (rows : List Row) (number : ℕ) (message : Sent) (shown items : List Row) (told : Bool) → IsPermutation (map (shown_by 4) (filter (has_number number) rows)) items → shown ≡ items
    → (shown ≡ (Int (pos number) ∷ values_of message) ∷ [] → IsTrue told) → HasOne rows number (values_of message) → IsTrue told
row_shown rows number message shown items told same is tells one = tells (is ∙ shows_it 4 rows items number (values_of message) refl same one)
