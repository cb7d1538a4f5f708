-- What the texts show of the rows of `register`.
use Rattle.std.proofs.Common.{◌≡◌, ◌<◌, ◌==◌, ◌↔◌, ℕ, pos, zero, suc, Bool, false, List, [], ◌∷◌, length, map, filter, get_or, nat_lt, true, codes, refl, sym, ap, subst, ◌∙◌, arith, ℤ, Ok, Err, Result, IfErr, IfOk, IsTrue, Vec}
use Rattle.std.specs.declared.alloc.Global.{Global}
use Rattle.std.specs.List.{list_all, AllByRecursion}
use Rattle.std.specs.List.Sorted.{IsPermutation}
use Rattle.std.proofs.lemmas.Bool.{and_parts, eqb-true, ltb-true}
use Rattle.std.proofs.lemmas.List.{get_or-map, length-map}
use Rattle.std.proofs.lemmas.List.Sorted.{IsPermutation-refl, IsPermutation-sym}
use Rattle.sqlite.specs.declared.error.Error.{Error}
use Rattle.sqlite.specs.declared.error.Error.TheVariants.{SqliteFailure}
use Rattle.sqlite.specs.declared.error.ErrorCode.TheVariants.{OutOfMemory}
use Rattle.sqlite_trees.proofs.ListLemmas.{all-map, all-permutation}
use Rattle.sqlite.specs.declared.types.Value.{Value}
use Rattle.sqlite.specs.declared.types.Value.TheVariants.{Int, Null}
use Rattle.sqlite.specs.Order.{Row}
use Rattle.sqlite.specs.Term.{Term, col}
use Rattle.sqlite.specs.Values.{bound, bound_value}
use Rattle.sqlite_value.specs.declared.value.ValueRef.{ValueRef}
use Rattle.sqlite_value.specs.declared.value.ValueRef.TheVariants.{Null as unset}
use Rattle.sqlite_value.specs.Value.{owned}
use Rattle.sqlite.specs.Listing.{understood}
use Rattle.sqlite.specs.Program.{overlay}
use Rattle.sqlite.specs.Tree.{Trees}
use Rattle.sqlite.specs.State.{State, FailsToQuery, Shown}
use Rattle.sqlite.proofs.Callers.{one_permutation}
use Rattle.sqlite_tied.specs.Compute.{everything}
use Rattle.desk_rules.specs.declared.answers.reply.Kept.{Kept}
use Rattle.sql_tables.specs.Schema.{register_table}
use Rattle.sql_tables.specs.Ends.{ForCause}
use Rattle.sql_tables.specs.Versions.{register_tree, schema_in}
use Rattle.sql_tables.specs.declared.versions.Version.{Version}
use Rattle.sql_tables.specs.declared.versions.Version.TheVariants.{First, Second, Third}
use Rattle.sqlite_typing.specs.Types.{accepts_program}
use Rattle.sql_tables.proofs.BlameLemmas.{IsWholeIn}
use Rattle.sql_tables.specs.Queries.{equals, plain}
use Rattle.sql_tables.proofs.ShownLemmas.{IsPlainQueryIn, none_shown, plain_caused, rows_shown}
use Rattle.sql_tables.specs.Forms.{HasForm}
use Rattle.sql_entries.specs.Entries.{given_in, values_in}
use Rattle.sql_tables.specs.ByNumber.{above, below, has_number, is_above, is_below, HasNoOther, HasOne}
use Rattle.sql_tables.specs.Plain.{IsPlain}
use Rattle.sql_tables.specs.Whole.{shown_by}
use Rattle.sql_tables.proofs.ByNumberLemmas.{is_its_row, nothing_shown, nothing_there}
use Rattle.sql_tables.proofs.RowLemmas.{IsNumbered}
use Rattle.sql_entries.specs.declared.compared.Found.{Found}
use Rattle.sql_entries.specs.declared.compared.Found.TheVariants.{Nothing, Another, Entry}
use Rattle.sql_entries.specs.Found.{IsFound, IsRowOf, IsShownAs, IsShownRow}
use Rattle.sql_entries.specs.Rows.{shown, shown_kept}
use Rattle.sql_entries.specs.Shown.{HasShortNumbers}
use Rattle.sql_entries.proofs.CauseLemmas.{memory_caused}

-- ---- the texts

abbrev pub at_text : List ℕ
at_text = codes "SELECT sender, reference, kind, bic, account, isin, unit, quantity, currency, amount, day, rule, mt, settlement, place, previous, status, reply_mt, reply, number, about FROM register WHERE number = ?1"

abbrev pub above_text : List ℕ
above_text = codes "SELECT number FROM register WHERE number > ?1"

abbrev pub below_text : List ℕ
below_text = codes "SELECT number FROM register WHERE number < ?1"

abbrev columns : List Term
columns =
    col 1 2 ∷ col 1 3 ∷ col 1 4 ∷ col 1 6 ∷ col 1 7 ∷ col 1 8 ∷ col 1 9 ∷ col 1 10 ∷ col 1 11 ∷ col 1 12 ∷ col 1 13 ∷ col 1 14 ∷ col 1 15 ∷ col 1 16 ∷ col 1 17 ∷ col 1 18 ∷ col 1 19 ∷ col 1 20 ∷ col 1 21 ∷ col 1 0 ∷ col 1 5 ∷ []

abbrev names : List (List ℕ)
names =
    codes "sender" ∷ codes "reference" ∷ codes "kind" ∷ codes "bic" ∷ codes "account" ∷ codes "isin" ∷ codes "unit" ∷ codes "quantity" ∷ codes "currency" ∷ codes "amount" ∷ codes "day" ∷ codes "rule" ∷ codes "mt"
    ∷ codes "settlement" ∷ codes "place" ∷ codes "previous" ∷ codes "status" ∷ codes "reply_mt" ∷ codes "reply" ∷ codes "number" ∷ codes "about" ∷ []

pub reads_at : (version : Version) → IsPlainQueryIn (schema_in version) at_text (register_tree version) (equals 0 0 ∷ []) columns
unfolding understood everything
reads_at First = record { names = names; is = refl; query = record { selects = refl; plain = (refl, refl); unlisted = refl } }
reads_at Second = record { names = names; is = refl; query = record { selects = refl; plain = (refl, refl); unlisted = refl } }
reads_at Third = record { names = names; is = refl; query = record { selects = refl; plain = (refl, refl); unlisted = refl } }

pub reads_above : (version : Version) → IsPlainQueryIn (schema_in version) above_text (register_tree version) (above ∷ []) (col 1 0 ∷ [])
unfolding understood everything
reads_above First = record { names = codes "number" ∷ []; is = refl; query = record { selects = refl; plain = (refl, refl); unlisted = refl } }
reads_above Second = record { names = codes "number" ∷ []; is = refl; query = record { selects = refl; plain = (refl, refl); unlisted = refl } }
reads_above Third = record { names = codes "number" ∷ []; is = refl; query = record { selects = refl; plain = (refl, refl); unlisted = refl } }

pub reads_below : (version : Version) → IsPlainQueryIn (schema_in version) below_text (register_tree version) (below ∷ []) (col 1 0 ∷ [])
unfolding understood everything
reads_below First = record { names = codes "number" ∷ []; is = refl; query = record { selects = refl; plain = (refl, refl); unlisted = refl } }
reads_below Second = record { names = codes "number" ∷ []; is = refl; query = record { selects = refl; plain = (refl, refl); unlisted = refl } }
reads_below Third = record { names = codes "number" ∷ []; is = refl; query = record { selects = refl; plain = (refl, refl); unlisted = refl } }

at_whole : (version : Version) → IsWholeIn (schema_in version) at_text 1
unfolding understood everything
at_whole First = record { plain = (refl, refl); whole = refl; width_is = refl }
at_whole Second = record { plain = (refl, refl); whole = refl; width_is = refl }
at_whole Third = record { plain = (refl, refl); whole = refl; width_is = refl }

above_whole : (version : Version) → IsWholeIn (schema_in version) above_text 1
unfolding understood everything
above_whole First = record { plain = (refl, refl); whole = refl; width_is = refl }
above_whole Second = record { plain = (refl, refl); whole = refl; width_is = refl }
above_whole Third = record { plain = (refl, refl); whole = refl; width_is = refl }

below_whole : (version : Version) → IsWholeIn (schema_in version) below_text 1
unfolding understood everything
below_whole First = record { plain = (refl, refl); whole = refl; width_is = refl }
below_whole Second = record { plain = (refl, refl); whole = refl; width_is = refl }
below_whole Third = record { plain = (refl, refl); whole = refl; width_is = refl }

abbrev Typed : Version → List Term → List Term → ℤ → Type 0
Typed version tests shown number = accepts_program (schema_in version) [] (plain (register_tree version) tests shown) (Int number ∷ []) ≡ true

at_typed : (version : Version) (number : ℤ) → Typed version (equals 0 0 ∷ []) columns number
at_typed First number = refl
at_typed Second number = refl
at_typed Third number = refl

above_typed : (version : Version) (number : ℤ) → Typed version (above ∷ []) (col 1 0 ∷ []) number
above_typed First number = refl
above_typed Second number = refl
above_typed Third number = refl

below_typed : (version : Version) (number : ℤ) → Typed version (below ∷ []) (col 1 0 ∷ []) number
below_typed First number = refl
below_typed Second number = refl
below_typed Third number = refl

-- no step of a query changes the tree
untouched : (version : Version) (trees : Trees) → overlay trees [] (register_tree version) ≡ trees (register_tree version)
untouched First trees = refl
untouched Second trees = refl
untouched Third trees = refl

module _ (version : Version) (old new : State) (has : old.now.schema ≡ schema_in version) (number : ℕ) (r : Result (Vec Row Global) Error) where
  abbrev held : List Row
  held = old.now.trees (register_tree version)

  pub at_shown : IfOk r (λ rows. Shown at_text (Int (pos number) ∷ []) old new rows.items) → IfOk r (λ rows. IsPermutation (map shown (filter (has_number number) held)) rows.items)
  at_shown h =
      subst (λ (mine : List Row). IfOk r (λ rows. IsPermutation (map shown (filter (has_number number) mine)) rows.items)) (untouched version old.now.trees) (rows_shown (reads_at version) (Int (pos number) ∷ []) old new has r h)

  pub above_shown : IfOk r (λ rows. Shown above_text (Int (pos number) ∷ []) old new rows.items) → IfOk r (λ rows. rows.items ≡ [] ↔ filter (is_above number) held ≡ [])
  above_shown h =
      subst (λ (mine : List Row). IfOk r (λ rows. rows.items ≡ [] ↔ filter (is_above number) mine ≡ [])) (untouched version old.now.trees) (none_shown (reads_above version) (Int (pos number) ∷ []) old new has r h)

  pub below_shown : IfOk r (λ rows. Shown below_text (Int (pos number) ∷ []) old new rows.items) → IfOk r (λ rows. rows.items ≡ [] ↔ filter (is_below number) held ≡ [])
  below_shown h =
      subst (λ (mine : List Row). IfOk r (λ rows. rows.items ≡ [] ↔ filter (is_below number) mine ≡ [])) (untouched version old.now.trees) (none_shown (reads_below version) (Int (pos number) ∷ []) old new has r h)

module _ (version : Version) (old new : State) (has : old.now.schema ≡ schema_in version) (number : ℤ) (r : Result (Vec Row Global) Error) where
  module _ (open' : IsTrue old.is_open) where
    pub at_caused : IfErr r (FailsToQuery at_text (Int number ∷ []) old new) → IfErr r (ForCause old new)
    at_caused h = plain_caused (reads_at version) (Int number ∷ []) old new has open' (at_whole version) (at_typed version number) r h

    pub above_caused : IfErr r (FailsToQuery above_text (Int number ∷ []) old new) → IfErr r (ForCause old new)
    above_caused h = plain_caused (reads_above version) (Int number ∷ []) old new has open' (above_whole version) (above_typed version number) r h

    pub below_caused : IfErr r (FailsToQuery below_text (Int number ∷ []) old new) → IfErr r (ForCause old new)
    below_caused h = plain_caused (reads_below version) (Int number ∷ []) old new has open' (below_whole version) (below_typed version number) r h

-- ---- the row of a number

numbered : IsNumbered register_table 20
numbered = record { key = refl; last = refl; size = refl }

-- the columns in their own order
in_order : (s r k b a i u q c m d l t e p v x y z n g s' r' k' b' a' i' u' q' c' m' d' l' t' e' p' v' x' y' z' n' g' : Value)
    → (s ∷ r ∷ k ∷ b ∷ a ∷ i ∷ u ∷ q ∷ c ∷ m ∷ d ∷ l ∷ t ∷ e ∷ p ∷ v ∷ x ∷ y ∷ z ∷ n ∷ g ∷ []) ≡ (s' ∷ r' ∷ k' ∷ b' ∷ a' ∷ i' ∷ u' ∷ q' ∷ c' ∷ m' ∷ d' ∷ l' ∷ t' ∷ e' ∷ p' ∷ v' ∷ x' ∷ y' ∷ z' ∷ n' ∷ g' ∷ [])
    → (n ∷ s ∷ r ∷ k ∷ g ∷ b ∷ a ∷ i ∷ u ∷ q ∷ c ∷ m ∷ d ∷ l ∷ t ∷ e ∷ p ∷ v ∷ x ∷ y ∷ z ∷ []) ≡ (n' ∷ s' ∷ r' ∷ k' ∷ g' ∷ b' ∷ a' ∷ i' ∷ u' ∷ q' ∷ c' ∷ m' ∷ d' ∷ l' ∷ t' ∷ e' ∷ p' ∷ v' ∷ x' ∷ y' ∷ z' ∷ [])
in_order s r k b a i u q c m d l t e p v x y z n g s' r' k' b' a' i' u' q' c' m' d' l' t' e' p' v' x' y' z' n' g' same = cc

shown_whole : (version : Version) (row : Row) (number : ℕ) (kept : Kept) → shown row ≡ shown_kept version number kept → shown_by 20 row ≡ given_in version number kept.entry kept.reply
shown_whole version row number kept same = in_order _ _ _ _ _ _ _ _ _ _ _ _ _ _ _ _ _ _ _ _ _ _ _ _ _ _ _ _ _ _ _ _ _ _ _ _ _ _ _ _ _ _ same

all_whole : (version : Version) (mine : List Row) (number : ℕ) (kept : Kept) → map shown mine ≡ shown_kept version number kept ∷ [] → map (shown_by 20) mine ≡ given_in version number kept.entry kept.reply ∷ []
all_whole version [] number kept only = absurd (cc)
all_whole version (r ∷ []) number kept only = (let first : shown r ≡ shown_kept version number kept = cc in ap (λ x. x ∷ []) (shown_whole version r number kept first))
all_whole version (r ∷ (s ∷ more)) number kept only = absurd (cc)

one_row : (version : Version) (rows items : List Row) (number : ℕ) (kept : Kept) → AllByRecursion (HasForm register_table) rows → IsPermutation (map shown (filter (has_number number) rows)) items → items ≡ shown_kept version number kept ∷ []
    → HasOne rows number (values_in version kept.entry kept.reply)
one_row version rows items number kept formed same is =
    let mine = filter (has_number number) rows in
    let back = IsPermutation-sym (map shown mine) items same in
    let only : map shown mine ≡ shown_kept version number kept ∷ [] = one_permutation (shown_kept version number kept) (map shown mine) (subst (λ (xs : List Row). IsPermutation xs (map shown mine)) is back) in
    is_its_row register_table 20 numbered rows (map (shown_by 20) mine) number (values_in version kept.entry kept.reply) refl formed (IsPermutation-refl (map (shown_by 20) mine)) (all_whole version mine number kept only)

pub found : (version : Version) (rows items shown_rows : List Row) (number : ℕ) (r : Result Found Error) → AllByRecursion (HasForm register_table) rows → IsPermutation (map shown (filter (has_number number) rows)) items → shown_rows ≡ items
    → IfOk r (λ it. IsShownAs version shown_rows number it) → IfOk r (λ it. IsFound version rows number it)
found version rows items shown_rows number (Ok Nothing) formed same is h = tt
found version rows items shown_rows number (Ok Another) formed same is h = tt
found version rows items shown_rows number (Ok (Entry kept)) formed same is h = record { row = one_row version rows items number kept formed same (sym is ∙ h.is); formed = h.formed; said = h.said }
found version rows items shown_rows number (Err e) formed same is h = tt

-- where the row of a number is one that was written, it is all that is shown
shown_there : (version : Version) (rows items : List Row) (number : ℕ) (kept : Kept) → IsPermutation (map shown (filter (has_number number) rows)) items → HasOne rows number (values_in version kept.entry kept.reply)
    → items ≡ shown_kept version number kept ∷ []
shown_there version rows items number kept same one = one_permutation (shown_kept version number kept) items (subst (λ (mine : List Row). IsPermutation (map shown mine) items) one same)

pub found_exact : (version : Version) (rows items shown_rows : List Row) (number : ℕ) (r : Result Found Error) → IsPermutation (map shown (filter (has_number number) rows)) items → shown_rows ≡ items
    → ((kept : Kept) → IsShownRow version shown_rows number kept → HasShortNumbers kept.reply → IfOk r (λ it. it ≡ Entry kept)) → (kept : Kept) → IsRowOf version rows number kept → HasShortNumbers kept.reply → IfOk r (λ it. it ≡ Entry kept)
found_exact version rows items shown_rows number r same is exact kept row short = exact kept (record { is = is ∙ shown_there version rows items number kept same row.row; formed = row.formed; said = row.said }) short

pub nothing_found : (rows items shown_rows : List Row) (number : ℕ) (r : Result Found Error) → IsPermutation (map shown (filter (has_number number) rows)) items → shown_rows ≡ items
    → IfOk r (λ it. (it ≡ Nothing) ↔ (shown_rows ≡ [])) → IfOk r (λ it. (it ≡ Nothing) ↔ (filter (has_number number) rows ≡ []))
nothing_found rows items shown_rows number (Ok it) same is h = (
  λ nothing. nothing_there shown (filter (has_number number) rows) items same (sym is ∙ h.0 nothing),
  λ none. h.1 (is ∙ nothing_shown shown (filter (has_number number) rows) items same none),
)
nothing_found rows items shown_rows number (Err e) same is h = tt

-- rows that are shown are as wide as the text names columns, and so a row is not read for want of memory alone
as_wide : (rows : List Row) → AllByRecursion (λ row. length (shown row) ≡ 21) rows
as_wide [] = tt
as_wide (row ∷ rows) = (refl, as_wide rows)

pub found_caused : (old new : State) (rows items shown_rows : List Row) (r : Result Found Error) → IsPermutation (map shown rows) items → shown_rows ≡ items
    → (AllByRecursion (λ row. length row ≡ 21) shown_rows → IfErr r (λ e. e ≡ SqliteFailure OutOfMemory)) → IfErr r (ForCause old new)
found_caused old new rows items shown_rows r same is fails =
    let Wide : Row → Type 0 = λ row. length row ≡ 21 in
    let wide : AllByRecursion Wide items = all-permutation Wide (map shown rows) items same (all-map Wide shown rows (as_wide rows)) in
    memory_caused old new r (fails (subst (AllByRecursion Wide) (sym is) wide))

-- ---- no other number

empty_of : (rows : List Row) → (length rows == 0) ≡ true → rows ≡ []
empty_of [] none = refl
empty_of (row ∷ rows) none = absurd (omega (arith, eqb-true (length (row ∷ rows)) 0 none))

pub some_other : (tree : List Row) (count : ℕ) (shown_rows : List Row) (b : Bool) → (shown_rows ≡ []) ↔ (filter (is_above count) tree ≡ []) → b ≡ (length shown_rows == 0) → b ≡ false → IsTrue false ↔ HasNoOther tree count
some_other tree count shown_rows b same is some = (
  λ no. absurd cc,
  λ none. sym some ∙ is ∙ ap (λ (xs : List Row). length xs == 0) (same.1 none.above),
)

pub none_other : (tree : List Row) (count : ℕ) (over under : List Row) (a b : Bool) → (over ≡ []) ↔ (filter (is_above count) tree ≡ []) → (under ≡ []) ↔ (filter (is_below 1) tree ≡ [])
    → a ≡ (length over == 0) → a ≡ true → b ≡ (length under == 0) → IsTrue b ↔ HasNoOther tree count
none_other tree count over under a b above_is below_is is_a none is_b = (
  λ yes. record { above = above_is.0 (empty_of over (sym is_a ∙ none)); below = below_is.0 (empty_of under (sym is_b ∙ yes)) },
  λ no_other. is_b ∙ ap (λ (xs : List Row). length xs == 0) (below_is.1 no_other.below),
)

-- ---- values in another order

plain_at : (xs : List ValueRef) (k : ℕ) → AllByRecursion (λ value. IsPlain (owned value)) xs → IsPlain (owned (get_or xs k unset))
plain_at [] zero all = tt
plain_at [] (suc k) all = tt
plain_at (x ∷ xs) zero all = all.0
plain_at (x ∷ xs) (suc k) all = plain_at xs k all.1

pub plain_reordered : (xs : List ValueRef) (places : List ℕ) → AllByRecursion (λ value. IsPlain (owned value)) xs → AllByRecursion (λ value. IsPlain (owned value)) (map (λ k. get_or xs k unset) places)
plain_reordered xs [] all = tt
plain_reordered xs (k ∷ ks) all = (plain_at xs k all, plain_reordered xs ks all)

bound_at : (xs : List ValueRef) (ys : Row) (k : ℕ) → bound xs ≡ ys → k < length ys → bound_value (owned (get_or xs k unset)) ≡ get_or ys k Null
bound_at xs ys k same low =
    let size : length xs ≡ length ys = sym (length-map xs (λ v. bound_value (owned v))) ∙ ap length same in
    sym (get_or-map (λ v. bound_value (owned v)) xs k unset Null (omega (arith, low, size))) ∙ ap (λ (vs : Row). get_or vs k Null) same

pub reordered : (xs : List ValueRef) (ys : Row) (places : List ℕ) → bound xs ≡ ys → list_all (λ k. nat_lt k (length ys)) places ≡ true
    → map (λ k. bound_value (owned (get_or xs k unset))) places ≡ map (λ k. get_or ys k Null) places
reordered xs ys [] same within = refl
reordered xs ys (k ∷ ks) same within =
    let parts = and_parts (nat_lt k (length ys)) (list_all (λ k. nat_lt k (length ys)) ks) within in
    ap (λ v. v ∷ map (λ k. bound_value (owned (get_or xs k unset))) ks) (bound_at xs ys k same (ltb-true k (length ys) parts.0)) ∙ ap (λ (vs : Row). get_or ys k Null ∷ vs) (reordered xs ys ks same parts.1)
