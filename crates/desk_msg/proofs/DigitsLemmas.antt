-- Digits from the last to the first.
use Rattle.std.proofs.Common.{◌≡◌, ℕ, ◌+◌, ◌<◌, ◌/◌, ◌%◌, List, [], ◌∷◌, ◌++◌, length, drop, set, refl, sym, ap, ◌∙◌, append_assoc, add-one, ◌-◌, ◌≤◌, subst, arith, zero, suc}
use Rattle.std.proofs.lemmas.List.{drop-set}
use Rattle.desk_msg.specs.OwnText.{last_digits}

last_digits-more : (k n : ℕ) → last_digits (k + 1) n ≡ last_digits k (n / 10) ++ (48 + n % 10) ∷ []
unfolding last_digits
last_digits-more k n = rw add-one refl

pub no_digits : (n : ℕ) → last_digits 0 n ≡ []
unfolding last_digits
no_digits n = refl

pub digit_step : (whole digits : List ℕ) (k rest : ℕ) → k < length digits → whole ≡ last_digits (k + 1) rest ++ drop (k + 1) digits → whole ≡ last_digits k (rest / 10) ++ drop k (set digits k (48 + rest % 10))
digit_step whole digits k rest lt e =
    e ∙ ap (λ z. z ++ drop (k + 1) digits) (last_digits-more k rest) ∙ append_assoc (last_digits k (rest / 10)) _ (drop (k + 1) digits) ∙ ap (λ z. last_digits k (rest / 10) ++ z) (sym (drop-set digits k (48 + rest % 10) lt))

pub step_down : (whole digits : List ℕ) (place rest : ℕ) → 0 < place → place ≤ length digits → whole ≡ last_digits place rest ++ drop place digits → whole ≡ last_digits (place - 1) (rest / 10) ++ drop (place - 1) (set digits (place - 1) (48 + rest % 10))
step_down whole digits place rest some within e =
    let same : place ≡ place - 1 + 1 = omega arith in
    let P : ℕ → Type 0 = λ k. whole ≡ last_digits k rest ++ drop k digits in
    digit_step whole digits (place - 1) rest (omega arith) (subst P same e)

pub all_written : (whole digits : List ℕ) (place rest : ℕ) → place ≤ 0 → whole ≡ last_digits place rest ++ drop place digits → digits ≡ whole
unfolding last_digits
all_written whole digits zero rest le e = sym e
all_written whole digits (suc k) rest le e = absurd (omega arith)
