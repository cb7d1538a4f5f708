-- The rows of a list of messages.
use Rattle.std.proofs.Common.{◌≡◌, ◌⊎◌, inl, inr, ℕ, zero, suc, ◌+◌, ◌<◌, ◌≤◌, ◌==◌, ◌^◌, pos, List, [], ◌∷◌, ◌++◌, length, filter, Bool, true, false, cond, None, Some, Option, slice_get, refl, sym, ap, subst, ◌∙◌, arith}
use Rattle.std.specs.List.{AllByRecursion, find}
use Rattle.std.specs.declared.cmp.Ordering.TheVariants.{Less}
use Rattle.std.proofs.lemmas.Bool.{cases_Bool, eq-eqb, ne_eqb}
use Rattle.sqlite.specs.Order.{Row, value_cmp}
use Rattle.sqlite.specs.declared.types.Value.TheVariants.{Int}
use Rattle.sqlite.specs.Tree.{rowid, IsTable}
use Rattle.desk_rules.specs.declared.answers.reply.Sent.{Sent}
use Rattle.desk_rules.specs.Questions.{sent_at}
use Rattle.sql_rows.specs.Messages.{stored, rows_from}
use Rattle.sql_tables.specs.Queries.{Among}
use Rattle.sql_tables.proofs.ValueLemmas.{number_less}

pub kept : {X : Type 0} (p : X → Bool) (x : X) (xs : List X) → p x ≡ true → filter p (x ∷ xs) ≡ x ∷ filter p xs
kept p x xs is = ap (λ b. cond b (x ∷ filter p xs) (filter p xs)) is

pub dropped : {X : Type 0} (p : X → Bool) (x : X) (xs : List X) → p x ≡ false → filter p (x ∷ xs) ≡ filter p xs
dropped p x xs is = ap (λ b. cond b (x ∷ filter p xs) (filter p xs)) is

-- ---- numbers

abbrev pub IsUpTo : ℕ → Row → Type 0
IsUpTo most row = (number : ℕ) × (rowid row ≡ Int (pos number)) × (number ≤ most)

abbrev pub HasLast : ℕ → List Row → Type 0
HasLast last rows = ((rows ≡ []) × (last ≡ 0)) ⊎ ((r : Row) × Among rows r × (rowid r ≡ Int (pos last)))

pub numbers_up_to : (most before : ℕ) (ms : List Sent) → before + length ms ≤ most → AllByRecursion (IsUpTo most) (rows_from (before + 1) ms)
numbers_up_to most before [] high = tt
numbers_up_to most before (m ∷ ms) high = ((before + 1, refl, omega (arith, high)), numbers_up_to most (before + 1) ms (omega (arith, high)))

last_number : (before : ℕ) (ms : List Sent) → ((ms ≡ []) × (rows_from (before + 1) ms ≡ [])) ⊎ ((r : Row) × Among (rows_from (before + 1) ms) r × (rowid r ≡ Int (pos (before + length ms))))
last_number before [] = inl (refl, refl)
last_number before (m ∷ ms) = elim (last_number (before + 1) ms) [
  | inl none ↦ inr (stored (before + 1) m, inl refl, ap (λ n. Int (pos n)) (let e = ap length none.0 in omega (arith, e)))
  | inr one ↦ inr (one.0, inr one.1, one.2 ∙ ap (λ n. Int (pos n)) (omega arith))
]

pub has_last_number : (ms : List Sent) → HasLast (length ms) (rows_from 1 ms)
has_last_number ms = elim (last_number 0 ms) [
  | inl none ↦ inl (none.1, ap length none.0)
  | inr one ↦ inr (one.0, one.1, one.2 ∙ ap (λ n. Int (pos n)) (omega arith))
]

-- all rows are below a higher number, and above a lower one
pub all_below : (last number : ℕ) (ms : List Sent) → number + length ms ≤ last → AllByRecursion (λ r. value_cmp (rowid r) (Int (pos last)) ≡ Less) (rows_from number ms)
all_below last number [] low = tt
all_below last number (m ∷ ms) low = (number_less number last (omega (arith, low)), all_below last (number + 1) ms (omega (arith, low)))

all_above : (first number : ℕ) (ms : List Sent) → first < number → AllByRecursion (λ r. value_cmp (Int (pos first)) (rowid r) ≡ Less) (rows_from number ms)
all_above first number [] low = tt
all_above first number (m ∷ ms) low = (number_less first number low, all_above first (number + 1) ms (omega (arith, low)))

pub rows_rise : (number : ℕ) (ms : List Sent) → IsTable (rows_from number ms)
rows_rise number [] = tt
rows_rise number (m ∷ ms) = (all_above number (number + 1) ms (omega arith), rows_rise (number + 1) ms)

-- ---- one message more

pub rows_more : (number : ℕ) (ms : List Sent) (m : Sent) → rows_from number (ms ++ m ∷ []) ≡ rows_from number ms ++ stored (number + length ms) m ∷ []
rows_more number [] m = ap (λ n. stored n m ∷ []) (omega arith)
rows_more number (x ∷ xs) m = ap (λ rows. stored number x ∷ rows) (rows_more (number + 1) xs m ∙ ap (λ n. rows_from (number + 1) xs ++ stored n m ∷ []) (omega arith))

pub all_more : {X : Type 0} (P : X → Type 0) (xs : List X) (x : X) → AllByRecursion P xs → P x → AllByRecursion P (xs ++ x ∷ [])
all_more P [] x all here = (here, tt)
all_more P (y ∷ ys) x all here = (all.0, all_more P ys x all.1 here)

-- ---- the row of a number

-- a message's row, with some number
abbrev pub IsRowOf : Row → Sent → Type 0
IsRowOf row m = (number : ℕ) × (row ≡ stored number m)

abbrev pub AreRowsOf : List Row → Option Sent → Type 0
AreRowsOf rows None = rows ≡ []
AreRowsOf rows (Some m) = (m.about < 2 ^ 64) × ((row : Row) × (rows ≡ row ∷ []) × IsRowOf row m)

module _ (at : ℕ) (p : Row → Bool) (most : ℕ) (means : (number : ℕ) (m : Sent) → number ≤ most → p (stored number m) ≡ (number == at)) where
  others : (number : ℕ) (m : Sent) (ms : List Sent) → number ≤ most → (number ≡ at → ⊥) → filter p (rows_from number (m ∷ ms)) ≡ filter p (rows_from (number + 1) ms)
  others number m ms low apart = dropped p (stored number m) (rows_from (number + 1) ms) (means number m low ∙ ne_eqb number at apart)

  -- no later row has a number that is past
  none_later : (before : ℕ) (ms : List Sent) → before + length ms ≤ most → at ≤ before → filter p (rows_from (before + 1) ms) ≡ []
  none_later before [] low past = refl
  none_later before (m ∷ ms) low past = others (before + 1) m ms (omega (arith, low)) (λ is. omega (arith, is, past)) ∙ none_later (before + 1) ms (omega (arith, low)) (omega (arith, past))

  -- the row of the number after so many is that of the message after as many
  found_later : (before : ℕ) (ms : List Sent) (j : ℕ) → AllByRecursion (λ m. m.about < 2 ^ 64) ms → before + length ms ≤ most → at ≡ before + j + 1 → AreRowsOf (filter p (rows_from (before + 1) ms)) (slice_get ms j)
  found_later before [] zero fit low is = refl
  found_later before [] (suc j) fit low is = refl
  found_later before (m ∷ ms) zero fit low is =
      let row = stored (before + 1) m in
      let here : before + 1 ≡ at = omega (arith, is) in (
        fit.0,
        (
          row,
          kept p row (rows_from (before + 1 + 1) ms) (means (before + 1) m (omega (arith, low)) ∙ eq-eqb (before + 1) at here)
              ∙ ap (λ rows. row ∷ rows) (none_later (before + 1) ms (omega (arith, low)) (omega (arith, is))),
          (before + 1, refl),
        ),
      )
  found_later before (m ∷ ms) (suc j) fit low is =
      subst (λ rows. AreRowsOf rows (slice_get ms j)) (sym (others (before + 1) m ms (omega (arith, low)) (λ same. omega (arith, same, is))))
      (found_later (before + 1) ms j fit.1 (omega (arith, low)) (omega (arith, is)))

  -- the row of a number among all
  pub found_at : (ms : List Sent) → AllByRecursion (λ m. m.about < 2 ^ 64) ms → length ms ≤ most → AreRowsOf (filter p (rows_from 1 ms)) (sent_at ms at)
  found_at ms fit low = go at refl
    where
      go : (k : ℕ) → at ≡ k → AreRowsOf (filter p (rows_from 1 ms)) (sent_at ms k)
      go zero is = none_later 0 ms (omega (arith, low)) (omega (arith, is))
      go (suc j) is = found_later 0 ms j fit (omega (arith, low)) (omega (arith, is))

-- ---- the first row that passes a test of messages

abbrev pub BeginsWith : List Row → Option Sent → Type 0
BeginsWith rows None = rows ≡ []
BeginsWith rows (Some m) = (m.about < 2 ^ 64) × ((row : Row) × (rest : List Row) × (rows ≡ row ∷ rest) × IsRowOf row m)

module _ (c : Sent → Bool) (p : Row → Bool) (means : (number : ℕ) (m : Sent) → m.about < 2 ^ 64 → p (stored number m) ≡ c m) where
  pub found_first : (number : ℕ) (ms : List Sent) → AllByRecursion (λ m. m.about < 2 ^ 64) ms → BeginsWith (filter p (rows_from number ms)) (find c ms)
  found_first number [] fit = refl
  found_first number (m ∷ ms) fit =
      let row = stored number m in
      let rest = rows_from (number + 1) ms in
      elim (cases_Bool (c m)) [
        | inl is ↦ subst (BeginsWith (filter p (row ∷ rest))) (sym (ap (λ b. cond b (Some m) (find c ms)) is))
            (fit.0, (row, filter p rest, kept p row rest (means number m fit.0 ∙ is), (number, refl)))
        | inr is ↦ subst (BeginsWith (filter p (row ∷ rest))) (sym (ap (λ b. cond b (Some m) (find c ms)) is))
            (subst (λ xs. BeginsWith xs (find c ms)) (sym (dropped p row rest (means number m fit.0 ∙ is))) (found_first (number + 1) ms fit.1))
      ]
