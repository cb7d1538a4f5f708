-- What the text on `version` shows.
use Rattle.std.proofs.Common.{◌≡◌, ◌↔◌, inl, inr, ℕ, pos, List, [], ◌∷◌, map, filter, codes, Some, Bool, true, IsTrue, refl, sym, ap, subst, ◌∙◌, Ok, Err, Result, IfOk, IfErr, Vec}
use Rattle.std.specs.declared.alloc.Global.{Global}
use Rattle.std.specs.List.{AllByRecursion}
use Rattle.std.specs.List.Sorted.{IsPermutation}
use Rattle.std.proofs.lemmas.List.Sorted.{IsPermutation-sym}
use Rattle.sqlite.specs.declared.error.Error.{Error}
use Rattle.sqlite.specs.declared.types.Value.{Value}
use Rattle.sqlite.specs.declared.types.Value.TheVariants.{Null, Int}
use Rattle.sqlite.specs.Order.{Row}
use Rattle.sqlite.specs.Term.{col, eval_all}
use Rattle.sqlite.specs.Tree.{Trees, rowid}
use Rattle.sqlite.specs.Command.TheVariants.{Select}
use Rattle.sqlite.specs.Effect.{Database}
use Rattle.sqlite.specs.Listing.{understood}
use Rattle.sqlite.specs.Program.{overlay}
use Rattle.sqlite.specs.State.{State, FailsToQuery, Shown}
use Rattle.sqlite.proofs.Callers.{command_of, one_permutation, reads_as}
use Rattle.sqlite_tied.specs.Compute.{everything}
use Rattle.sqlite_typing.specs.Types.{accepts_program}
use Rattle.sql_tables.specs.Queries.{passes_all, plain}
use Rattle.sql_tables.specs.Rows.{IsBare}
use Rattle.sql_tables.specs.Schema.{first_version_table, version_table}
use Rattle.sql_tables.specs.Statements.{IsQueryIn}
use Rattle.sql_tables.specs.Ends.{ForCause}
use Rattle.sql_tables.specs.Version.{SayVersion}
use Rattle.sql_tables.proofs.BlameLemmas.{IsWholeIn, query_caused_in}
use Rattle.sql_tables.proofs.QueryLemmas.{all_kept, plain_rows}
use Rattle.sql_tables.specs.Forms.{AreValues, HasForm}
use Rattle.sql_tables.specs.Versions.{number_of_version, schema_in, version_tree, AreAllFormedIn, SaysVersion}
use Rattle.sql_tables.specs.declared.versions.Version.{Version}
use Rattle.sql_tables.specs.declared.versions.Version.TheVariants.{First, Second, Third}

abbrev pub all_text : List ℕ
all_text = codes "SELECT number FROM version"

all_is : (version : Version) → command_of (understood (schema_in version) all_text) ≡ Select (record { lets = []; body = plain (version_tree version) [] (col 1 0 ∷ []) }) (codes "number" ∷ [])
unfolding understood everything
all_is First = refl
all_is Second = refl
all_is Third = refl

pub reads_all : (version : Version) → IsQueryIn (schema_in version) all_text
unfolding understood everything
reads_all First = record { selects = refl; plain = (refl, refl); unlisted = refl }
reads_all Second = record { selects = refl; plain = (refl, refl); unlisted = refl }
reads_all Third = record { selects = refl; plain = (refl, refl); unlisted = refl }

all_whole : (version : Version) → IsWholeIn (schema_in version) all_text 0
unfolding understood everything
all_whole First = record { plain = (refl, refl); whole = refl; width_is = refl }
all_whole Second = record { plain = (refl, refl); whole = refl; width_is = refl }
all_whole Third = record { plain = (refl, refl); whole = refl; width_is = refl }

all_typed : (version : Version) → accepts_program (schema_in version) [] (plain (version_tree version) [] (col 1 0 ∷ [])) [] ≡ true
all_typed First = refl
all_typed Second = refl
all_typed Third = refl

pub all_caused : (version : Version) (old new : State) → old.now.schema ≡ schema_in version → IsTrue old.is_open → (r : Result (Vec Row Global) Error) → IfErr r (FailsToQuery all_text [] old new) → IfErr r (ForCause old new)
all_caused version old new has open' r h =
    query_caused_in (schema_in version) old new has open' all_text [] (all_whole version) _ _ (all_is version) (reads_all version).unlisted (all_typed version) refl refl r h

abbrev number_shown : Row → Row
number_shown row = rowid row ∷ []

module _ (old new : State) where
  abbrev Numbers : ℕ → List Row → Type 0
  Numbers tree items = IsPermutation (map number_shown (old.now.trees tree)) items

  abbrev Passing : ℕ → List Row → Type 0
  Passing tree items = IsPermutation (map (λ row. eval_all (col 1 0 ∷ []) ([] ∷ row ∷ [])) (filter (passes_all [] []) (overlay old.now.trees [] tree))) items

  passing : (version : Version) → old.now.schema ≡ schema_in version → (rows : List Row) → Shown all_text [] old new rows → Passing (version_tree version) rows
  passing version has rows h =
      let reads = reads_all version in
      let answers = reads_as all_text [] old new (schema_in version) has _ (all_is version) reads.plain reads.unlisted rows h in
      plain_rows (version_tree version) [] (col 1 0 ∷ []) (overlay old.now.trees []) [] rows (answers.answer Null)

  passed : (version : Version) (rows : List Row) → Passing (version_tree version) rows → Numbers (version_tree version) rows
  passed First rows h = subst (λ (xs : List Row). IsPermutation (map number_shown xs) rows) (all_kept (old.now.trees 2)) h
  passed Second rows h = subst (λ (xs : List Row). IsPermutation (map number_shown xs) rows) (all_kept (old.now.trees 10)) h
  passed Third rows h = subst (λ (xs : List Row). IsPermutation (map number_shown xs) rows) (all_kept (old.now.trees 10)) h

  pub all_shown : (version : Version) → old.now.schema ≡ schema_in version → (r : Result (Vec Row Global) Error) → IfOk r (λ rows. Shown all_text [] old new rows.items)
      → IfOk r (λ rows. IsPermutation (map (λ row. rowid row ∷ []) (old.now.trees (version_tree version))) rows.items)
  all_shown version has (Ok rows) h = passed version rows.items (passing version has rows.items h)
  all_shown version has (Err e) h = tt

bare : (values : Row) → AreValues version_table.key 0 version_table.columns values → IsBare values
bare [] each = inr refl
bare (v ∷ []) each = inl (ap (λ w. w ∷ []) each.0)
bare (v ∷ (w ∷ more)) each = absurd each.1

-- one row of the table's form that shows a number
says_it : (number : ℕ) (rows : List Row) → AllByRecursion (HasForm version_table) rows → map number_shown rows ≡ (Int (pos number) ∷ []) ∷ [] → SayVersion rows (Some number)
says_it number [] formed is = absurd (cc)
says_it number (r ∷ []) formed is =
    let form = formed.0 in
    let first : number_shown r ≡ Int (pos number) ∷ [] = cc in
    let own : rowid r ≡ Int (pos number) = one (rowid r) (Int (pos number)) first in
    let at : Int form.number ≡ Int (pos number) = sym (ap rowid form.is) ∙ own in
    (form.values, bare form.values form.each, ap (λ x. x ∷ []) (form.is ∙ ap (λ v. v ∷ form.values) at))
  where
    one : (a b : Value) → a ∷ [] ≡ b ∷ [] → a ≡ b
    one a b e = cc
says_it number (r ∷ (s ∷ more)) formed is = absurd (cc)

-- the form of the rows of `version` is the same in each version
pub version_formed : (version : Version) (trees : Trees) → AreAllFormedIn version trees → AllByRecursion (HasForm version_table) (trees (version_tree version))
version_formed First trees formed = each (trees 2) formed.1.0.each
  where
    each : (rows : List Row) → AllByRecursion (HasForm first_version_table) rows → AllByRecursion (HasForm version_table) rows
    each [] all = tt
    each (row ∷ rows) all = (record { number = all.0.number; values = all.0.values; is = all.0.is; each = all.0.each }, each rows all.1)
version_formed Second trees formed = formed.1.1.1.1.1.1.0.each
version_formed Third trees formed = formed.1.1.1.1.1.1.0.each

pub says_version : (version : Version) (db : Database) (shown items : List Row) (told : Bool) → IsPermutation (map (λ row. rowid row ∷ []) (db.trees (version_tree version))) items → shown ≡ items
    → (IsTrue told ↔ (shown ≡ (Int (pos (number_of_version version)) ∷ []) ∷ [])) → AreAllFormedIn version db.trees → IsTrue told → SaysVersion version db
says_version version db shown items told same is tells formed all =
    let number = number_of_version version in
    let rows = db.trees (version_tree version) in
    let back = IsPermutation-sym (map number_shown rows) items same in
    let only : map number_shown rows ≡ (Int (pos number) ∷ []) ∷ [] = one_permutation (Int (pos number) ∷ []) (map number_shown rows) (subst (λ (xs : List Row). IsPermutation xs (map number_shown rows)) (sym is ∙ tells.0 all) back) in
    says_it number rows (version_formed version db.trees formed) only

-- where the table says a version, that alone is shown
pub version_shown : (version : Version) (db : Database) (items : List Row) → SaysVersion version db → IsPermutation (map (λ row. rowid row ∷ []) (db.trees (version_tree version))) items
    → items ≡ (Int (pos (number_of_version version)) ∷ []) ∷ []
version_shown version db items says same = one_permutation (Int (pos (number_of_version version)) ∷ []) items (subst (λ (xs : List Row). IsPermutation xs items) (ap (map number_shown) says.2) same)
