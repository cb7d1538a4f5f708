-- The rows of the register: which have a number, which is the last, and where one more goes.
use Rattle.std.proofs.Common.{◌≡◌, inl, inr, ℕ, zero, suc, ◌+◌, ◌<◌, ◌≤◌, pos, ◌==◌, List, [], ◌∷◌, ◌++◌, length, map, filter, Bool, false, cond, Option, None, Some, slice_get, refl, sym, ap, subst, ◌∙◌, arith}
use Rattle.std.specs.List.{AllByRecursion}
use Rattle.std.specs.List.Sorted.{IsPermutation}
use Rattle.std.specs.Ordering.{is_lt}
use Rattle.std.specs.declared.cmp.Ordering.TheVariants.{Less}
use Rattle.std.proofs.lemmas.List.{nil_from_length}
use Rattle.std.proofs.lemmas.List.Sorted.{length_permutation}
use Rattle.sqlite.proofs.Callers.{one_permutation}
use Rattle.std.proofs.lemmas.Bool.{eq-eqb, ne_eqb, cases_lt}
use Rattle.sqlite.specs.Order.{Row, column, value_cmp}
use Rattle.sqlite.specs.declared.types.Value.TheVariants.{Int}
use Rattle.sqlite.specs.Term.{Term, col, eval_all}
use Rattle.sqlite.specs.Ops.{binary}
use Rattle.sqlite.specs.Tree.{put_row, rowid}
use Rattle.desk_rules.specs.declared.answers.reply.Kept.{Kept}
use Rattle.desk_register.specs.Looked.{kept_at}
use Rattle.sql_tables.specs.Queries.{passes_all, falling, Among, IsFirst}
use Rattle.sql_tables.proofs.QueryLemmas.{all_kept, at_among}
use Rattle.sql_tables.proofs.EditLemmas.{put_last}
use Rattle.sql_tables.proofs.ValueLemmas.{and_true, equal_test, number_less}
use Rattle.sql_entries.specs.Entries.{row_in, row_of, rows_from, rows_in}
use Rattle.sql_entries.specs.Shown.{count_rows, row_if}
use Rattle.sql_entries.proofs.TextLemmas.{by_number}
use Rattle.sql_tables.specs.declared.versions.Version.{Version}
use Rattle.sql_tables.specs.declared.versions.Version.TheVariants.{Third}

-- ---- the rows of a number

one_shown : {X : Type 0} (shows : X → Row) (found : Option X) (rows : List Row) → IsPermutation (row_if shows found) rows → rows ≡ row_if shows found
one_shown shows None rows same = nil_from_length rows (length_permutation [] rows same)
one_shown shows (Some x) rows same = one_permutation (shows x) rows same

abbrev has_number : ℕ → Row → Bool
has_number number = passes_all (by_number ∷ []) (Int (pos number) ∷ [])

module _ (version : Version) where
  abbrev numbered_in : ℕ → Kept → Row
  numbered_in n kept = row_in version n kept.entry kept.reply

  tells_number : (number m : ℕ) (kept : Kept) → has_number number (numbered_in m kept) ≡ m == number
  unfolding binary
  tells_number number m kept = rw (equal_test m number) (and_true (m == number))

  passed : (number n : ℕ) (register : List Kept) → number ≤ n → filter (has_number number) (rows_in version n register) ≡ []
  passed number n [] low = refl
  passed number n (kept ∷ more) low =
      ap (λ b. cond b (numbered_in (n + 1) kept ∷ filter (has_number number) (rows_in version (n + 1) more)) (filter (has_number number) (rows_in version (n + 1) more))) (tells_number number (n + 1) kept ∙ ne_eqb (n + 1) number (λ e. omega arith))
      ∙ passed number (n + 1) more (omega arith)

  found_at : (k n number : ℕ) (register : List Kept) → number ≡ n + k + 1 → filter (has_number number) (rows_in version n register) ≡ row_if (numbered_in number) (slice_get register k)
  found_at zero n number [] is = refl
  found_at (suc k) n number [] is = refl
  found_at zero n number (kept ∷ more) is =
      let here : n + 1 ≡ number = omega arith in
      ap (λ b. cond b (numbered_in (n + 1) kept ∷ filter (has_number number) (rows_in version (n + 1) more)) (filter (has_number number) (rows_in version (n + 1) more))) (tells_number number (n + 1) kept ∙ eq-eqb (n + 1) number here)
      ∙ ap (λ rows. numbered_in (n + 1) kept ∷ rows) (passed number (n + 1) more (omega arith))
      ∙ ap (λ m. numbered_in m kept ∷ []) here
  found_at (suc k) n number (kept ∷ more) is =
      ap (λ b. cond b (numbered_in (n + 1) kept ∷ filter (has_number number) (rows_in version (n + 1) more)) (filter (has_number number) (rows_in version (n + 1) more))) (tells_number number (n + 1) kept ∙ ne_eqb (n + 1) number (λ e. omega arith))
      ∙ found_at k (n + 1) number more (omega arith)

  pub found_in : (number : ℕ) (register : List Kept) → filter (has_number number) (rows_in version 0 register) ≡ row_if (numbered_in number) (kept_at register number)
  found_in zero register = passed 0 0 register (omega arith)
  found_in (suc k) register = found_at k 0 (suc k) register (omega arith)

abbrev numbered : ℕ → Kept → Row
numbered n kept = row_of n kept.entry kept.reply

found : (number : ℕ) (register : List Kept) → filter (has_number number) (rows_from 0 register) ≡ row_if (numbered number) (kept_at register number)
found = found_in Third

-- what is shown of the row of a number
pub shows_number : (terms : List Term) (number : ℕ) (shows : Kept → Row) (register : List Kept) (held rows : List Row) → held ≡ rows_from 0 register
    → ((kept : Kept) → eval_all terms ((Int (pos number) ∷ []) ∷ numbered number kept ∷ []) ≡ shows kept)
    → IsPermutation (map (λ row. eval_all terms ((Int (pos number) ∷ []) ∷ row ∷ [])) (filter (has_number number) held)) rows → rows ≡ row_if shows (kept_at register number)
shows_number terms number shows register held rows is same h =
    let one : (found' : Option Kept) → map (λ row. eval_all terms ((Int (pos number) ∷ []) ∷ row ∷ [])) (row_if (numbered number) found') ≡ row_if shows found' = each in
    one_shown shows (kept_at register number) rows (subst (λ xs. IsPermutation xs rows)
    (ap (λ all. map (λ row. eval_all terms ((Int (pos number) ∷ []) ∷ row ∷ [])) (filter (has_number number) all)) is ∙ ap (map (λ row. eval_all terms ((Int (pos number) ∷ []) ∷ row ∷ []))) (found number register) ∙ one (kept_at register number)) h)
  where
    each : (found' : Option Kept) → map (λ row. eval_all terms ((Int (pos number) ∷ []) ∷ row ∷ [])) (row_if (numbered number) found') ≡ row_if shows found'
    each None = refl
    each (Some kept) = ap (λ row. row ∷ []) (same kept)

-- ---- the last row

-- the row's rowid is a number above n and at most the last
abbrev IsNumberedIn : ℕ → ℕ → Row → Type 0
IsNumberedIn n last row = (m : ℕ) × (column row 0 ≡ Int (pos m)) × (n < m) × (m ≤ last)

wider : (a b last : ℕ) (rows : List Row) → a ≤ b → AllByRecursion (IsNumberedIn b last) rows → AllByRecursion (IsNumberedIn a last) rows
wider a b last [] low all = tt
wider a b last (row ∷ rows) low all = ((all.0.0, all.0.1, omega (arith, low, all.0.2), all.0.3), wider a b last rows low all.1)

all_numbered : (n : ℕ) (register : List Kept) → AllByRecursion (IsNumberedIn n (n + length register)) (rows_from n register)
all_numbered n [] = tt
all_numbered n (kept ∷ more) =
    let same : n + 1 + length more ≡ n + length (kept ∷ more) = omega arith in
    let later : AllByRecursion (IsNumberedIn (n + 1) (n + length (kept ∷ more))) (rows_from (n + 1) more) = subst (λ last. AllByRecursion (IsNumberedIn (n + 1) last) (rows_from (n + 1) more)) same (all_numbered (n + 1) more) in
    ((n + 1, refl, omega arith, omega arith), wider n (n + 1) (n + length (kept ∷ more)) (rows_from (n + 1) more) (omega arith) later)

-- the last of them has the last number
last_among : (n : ℕ) (kept : Kept) (more : List Kept) → (row : Row) × Among (rows_from n (kept ∷ more)) row × (column row 0 ≡ Int (pos (n + length (kept ∷ more))))
last_among n kept [] = let same : n + 1 ≡ n + length (kept ∷ []) = omega arith in (numbered (n + 1) kept, inl refl, ap (λ m. Int (pos m)) same)
last_among n kept (next ∷ more) =
    let it = last_among (n + 1) next more in
    let same : n + 1 + length (next ∷ more) ≡ n + length (kept ∷ next ∷ more) = omega arith in
    (it.0, inr it.1, it.2 ∙ ap (λ m. Int (pos m)) same)

count_shown : (n : ℕ) → 0 < n → count_rows n ≡ (Int (pos n) ∷ []) ∷ []
count_shown zero some = absurd (omega arith)
count_shown (suc n) some = refl

pub last_shown : (register : List Kept) (held rows : List Row) → held ≡ rows_from 0 register → IsFirst (filter (passes_all [] []) held) [] (col 1 0 ∷ []) (col 1 0) falling rows → rows ≡ count_rows (length register)
last_shown register held rows is first = go register (subst (λ mine. IsFirst mine [] (col 1 0 ∷ []) (col 1 0) falling rows) (all_kept held ∙ is) first)
  where
    go : (entries : List Kept) → IsFirst (rows_from 0 entries) [] (col 1 0 ∷ []) (col 1 0) falling rows → rows ≡ count_rows (length entries)
    go [] (inl none) = none.0
    go [] (inr some) = absurd some.1
    go (kept ∷ more) (inl none) = absurd (let e = none.1 in cc)
    go (kept ∷ more) (inr some) =
        let at = at_among (IsNumberedIn 0 (0 + length (kept ∷ more))) (rows_from 0 (kept ∷ more)) (all_numbered 0 (kept ∷ more)) some.0 some.1 in
        let last = last_among 0 kept more in
        let least : is_lt (value_cmp (column some.0 0) (column last.0 0)) ≡ false = some.3 last.0 last.1 in
        let under : is_lt (value_cmp (Int (pos at.0)) (Int (pos (0 + length (kept ∷ more))))) ≡ false = ap is_lt (ap (λ v. value_cmp v (Int (pos (0 + length (kept ∷ more))))) (sym at.1) ∙ ap (value_cmp (column some.0 0)) (sym last.2)) ∙ least in
        let top : at.0 ≡ length (kept ∷ more) = elim (cases_lt at.0 (0 + length (kept ∷ more))) [
          | inl low ↦ absurd (let e = ap is_lt (sym (number_less at.0 (0 + length (kept ∷ more)) low)) ∙ under in cc)
          | inr high ↦ omega (arith, at.3)
        ] in
        some.2 ∙ ap (λ v. (v ∷ []) ∷ []) (at.1 ∙ ap (λ n. Int (pos n)) top) ∙ sym (count_shown (length (kept ∷ more)) (omega arith))

-- ---- one row more

pub all_below : (n last : ℕ) (register : List Kept) → n + length register < last → AllByRecursion (λ row. value_cmp (rowid row) (Int (pos last)) ≡ Less) (rows_from n register)
all_below n last [] low = tt
all_below n last (kept ∷ more) low = (number_less (n + 1) last (omega arith), all_below (n + 1) last more (omega arith))

rows_more : (n : ℕ) (register : List Kept) (kept : Kept) → rows_from n register ++ numbered (n + length register + 1) kept ∷ [] ≡ rows_from n (register ++ kept ∷ [])
rows_more n [] kept = let same : n + 0 + 1 ≡ n + 1 = omega arith in ap (λ k. numbered k kept ∷ []) same
rows_more n (next ∷ more) kept =
    let same : n + length (next ∷ more) + 1 ≡ n + 1 + length more + 1 = omega arith in
    ap (λ k. numbered (n + 1) next ∷ (rows_from (n + 1) more ++ numbered k kept ∷ [])) same ∙ ap (λ ys. numbered (n + 1) next ∷ ys) (rows_more (n + 1) more kept)

pub one_more : (register : List Kept) (number : ℕ) (kept : Kept) → number ≡ length register + 1 → put_row (numbered number kept) (rows_from 0 register) ≡ rows_from 0 (register ++ kept ∷ [])
one_more register number kept is =
    let same : number ≡ 0 + length register + 1 = omega arith in
    put_last (numbered number kept) (rows_from 0 register) (all_below 0 number register (omega arith)) ∙ ap (λ k. rows_from 0 register ++ numbered k kept ∷ []) same ∙ rows_more 0 register kept
