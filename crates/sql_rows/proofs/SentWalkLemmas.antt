-- The messages to one participant, one after the other.
use Rattle.std.proofs.Common.{◌≡◌, ◌⊎◌, inl, inr, ℕ, zero, suc, ◌+◌, ◌<◌, ◌≤◌, List, [], ◌∷◌, length, filter, drop, bytes_eq, Bool, true, false, None, Some, Option, is_some, unwrap_or, slice_get, refl, sym, ap, subst, ◌∙◌, arith}
use Rattle.std.proofs.Math.Seq.{drop-nil}
use Rattle.std.proofs.lemmas.Bool.{cases_Bool}
use Rattle.std.proofs.lemmas.Option.{slice_get_past, slice_get_within}
use Rattle.sqlite.specs.Order.{Row}
use Rattle.desk_rules.specs.declared.answers.reply.Sent.{Sent}
use Rattle.desk_rules.specs.Questions.{sent_at}
use Rattle.sql_rows.specs.Messages.{sent_to, stored, rows_from, left_to, IsNext}
use Rattle.sql_rows.proofs.SentRowLemmas.{kept, dropped}

-- ---- lists of which the front is passed

get_behind : {X : Type 0} (n : ℕ) (xs : List X) (j : ℕ) → slice_get (drop n xs) j ≡ slice_get xs (n + j)
get_behind zero xs j = ap (slice_get xs) (omega arith)
get_behind (suc n) [] j = slice_get_past [] j (omega arith) ∙ sym (slice_get_past [] (suc n + j) (omega arith))
get_behind (suc n) (x ∷ xs) j = let more : suc (n + j) ≡ suc n + j = omega arith in get_behind n xs j ∙ ap (slice_get (x ∷ xs)) more

drop_behind : {X : Type 0} (n : ℕ) (xs : List X) (j : ℕ) → drop j (drop n xs) ≡ drop (n + j) xs
drop_behind zero xs j = ap (λ k. drop k xs) (omega arith)
drop_behind (suc n) [] j = drop-nil j ∙ sym (drop-nil (suc n + j))
drop_behind (suc n) (x ∷ xs) j = let more : suc (n + j) ≡ suc n + j = omega arith in drop_behind n xs j ∙ ap (λ k. drop k (x ∷ xs)) more

-- what is left begins with what stands behind the front
left_first : {X : Type 0} (xs : List X) (n : ℕ) (y : X) (ys : List X) → drop n xs ≡ y ∷ ys → (slice_get xs n ≡ Some y) × (drop (suc n) xs ≡ ys)
left_first [] zero y ys is = absurd (let e = is in cc)
left_first [] (suc n) y ys is = absurd (let e = is in cc)
left_first (x ∷ xs) zero y ys is = (let same : x ≡ y = cc in ap Some same, let rest : xs ≡ ys = cc in rest)
left_first (x ∷ xs) (suc n) y ys is = left_first xs n y ys is

left_none : {X : Type 0} (xs : List X) (n : ℕ) → drop n xs ≡ [] → length xs ≤ n
left_none [] n is = omega arith
left_none (x ∷ xs) zero is = absurd (let e = is in cc)
left_none (x ∷ xs) (suc n) is = let rest = left_none xs n is in omega (arith, rest)

-- ---- the row of the next number

-- of the rows of messages behind so many, none is to a participant, or this is the first
abbrev IsFirstTo : List ℕ → ℕ → List Sent → List Row → Type 0
IsFirstTo bic before ms rows =
    ((rows ≡ []) × (sent_to ms bic ≡ []))
    ⊎ ((j : ℕ) × (m : Sent) × (rest : List Row) × (rows ≡ stored (before + j + 1) m ∷ rest) × (slice_get ms j ≡ Some m) × (sent_to ms bic ≡ m ∷ sent_to (drop (suc j) ms) bic))

-- rows that are none, or begin with that of a number
abbrev pub BeginsAt : List Row → Option ℕ → Type 0
BeginsAt rows None = rows ≡ []
BeginsAt rows (Some number) = (m : Sent) × (rest : List Row) × (rows ≡ stored number m ∷ rest)

module _ (bic : List ℕ) (after : ℕ) (p : Row → Bool) (past : (number : ℕ) (m : Sent) → after < number → p (stored number m) ≡ bytes_eq m.bic bic)
    (passed : (number : ℕ) (m : Sent) → number ≤ after → p (stored number m) ≡ false) where
  first_to : (before : ℕ) (ms : List Sent) → after ≤ before → IsFirstTo bic before ms (filter p (rows_from (before + 1) ms))
  first_to before [] low = inl (refl, refl)
  first_to before (m ∷ ms) low =
      let row = stored (before + 1) m in
      let rest = rows_from (before + 1 + 1) ms in
      let is_to = λ (message : Sent). bytes_eq message.bic bic in
      elim (cases_Bool (bytes_eq m.bic bic)) [
        | inl is ↦ inr (0, m, filter p rest, kept p row rest (past (before + 1) m (omega (arith, low)) ∙ is) ∙ ap (λ n. stored n m ∷ filter p rest) (omega arith), refl, kept is_to m ms is)
        | inr is ↦ (
            let here = dropped p row rest (past (before + 1) m (omega (arith, low)) ∙ is) in
            let gone = dropped is_to m ms is in
            elim (first_to (before + 1) ms (omega (arith, low))) [
              | inl none ↦ inl (here ∙ none.0, gone ∙ none.1)
              | inr one ↦ inr (suc one.0, one.1, one.2, here ∙ one.3 ∙ ap (λ n. stored n one.1 ∷ one.2) (omega arith), one.4, gone ∙ one.5)
            ])
      ]

  -- the rows up to the number do not pass
  rows_passed : (before d : ℕ) (ms : List Sent) → before + d ≡ after → filter p (rows_from (before + 1) ms) ≡ filter p (rows_from (after + 1) (drop d ms))
  rows_passed before zero ms is = let same : before ≡ after = omega (arith, is) in ap (λ n. filter p (rows_from (n + 1) ms)) same
  rows_passed before (suc d) [] is = refl
  rows_passed before (suc d) (m ∷ ms) is =
      dropped p (stored (before + 1) m) (rows_from (before + 1 + 1) ms) (passed (before + 1) m (omega (arith, is))) ∙ rows_passed (before + 1) d ms (omega (arith, is))

  pub next_row : (messages : List Sent) → (found : Option ℕ) × BeginsAt (filter p (rows_from 1 messages)) found × IsNext messages bic after found
  next_row messages =
      let all = rows_passed 0 after messages (omega arith) in
      elim (first_to after (drop after messages) (omega arith)) [
        | inl none ↦ (None, all ∙ none.0, none.1)
        | inr one ↦ (
            let number : suc (after + one.0) ≡ after + one.0 + 1 = omega arith in
            let behind : after + suc one.0 ≡ after + one.0 + 1 = omega arith in (
              Some (after + one.0 + 1),
              (one.1, one.2, all ∙ one.3),
              (
                one.1,
                subst (λ n. sent_at messages n ≡ Some one.1) number (sym (get_behind after messages one.0) ∙ one.4),
                one.5 ∙ ap (λ ms. one.1 ∷ sent_to ms bic) (drop_behind after messages (suc one.0)) ∙ ap (λ n. one.1 ∷ left_to messages bic n) behind,
              ),
            ))
      ]

-- ---- so many were passed

-- the message of this number is the one of this place to the participant, and behind it is left what is left of those; of place 0
-- there is none
pub record HasPassed (messages : List Sent) (bic : List ℕ) (number place : ℕ) : Type 0 where
  pub message : sent_at messages number ≡ sent_at (sent_to messages bic) place
  pub left : drop place (sent_to messages bic) ≡ left_to messages bic number
  pub within : number ≤ length messages

pub none_passed : (messages : List Sent) (bic : List ℕ) → HasPassed messages bic 0 0
none_passed messages bic = record { message = refl; left = refl; within = omega arith }

number_within : (messages : List Sent) (number : ℕ) (m : Sent) → sent_at messages number ≡ Some m → number ≤ length messages
number_within messages zero m is = absurd (let e = is in cc)
number_within messages (suc n) m is = slice_get_within messages n m is

module _ (messages : List Sent) (bic : List ℕ) (number place : ℕ) (has : HasPassed messages bic number place) where
  -- one more is passed where there is a next
  pub one_more_passed : (found : Option ℕ) → is_some found ≡ true → IsNext messages bic number found → HasPassed messages bic (unwrap_or found 0) (place + 1)
  one_more_passed None some is = absurd (let e = some in cc)
  one_more_passed (Some next) some is =
      let more : suc place ≡ place + 1 = omega arith in
      let it = left_first (sent_to messages bic) place is.0 (left_to messages bic next) (has.left ∙ is.2) in
      record {
        message = is.1 ∙ subst (λ k. Some is.0 ≡ sent_at (sent_to messages bic) k) more (sym it.0);
        left = subst (λ k. drop k (sent_to messages bic) ≡ left_to messages bic next) more it.1;
        within = number_within messages next is.0 is.1;
      }

  -- else there is no place past these
  pub none_more : (found : Option ℕ) → is_some found ≡ false → IsNext messages bic number found → (at : ℕ) → place < at → sent_at (sent_to messages bic) at ≡ None
  none_more (Some next) none is at low = absurd (let e = none in cc)
  none_more None none is zero low = absurd (omega (arith, low))
  none_more None none is (suc n) low = let few = left_none (sent_to messages bic) place (has.left ∙ is) in slice_get_past (sent_to messages bic) n (omega (arith, low, few))
