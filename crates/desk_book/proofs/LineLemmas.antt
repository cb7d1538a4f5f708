-- The lines of a text.
use Rattle.std.proofs.Common.{◌≡◌, ℕ, suc, ◌+◌, ◌-◌, ◌<◌, Bool, true, false, cond, eqb, List, [], ◌∷◌, length, take, drop, arith, refl, ap, sym}
use Rattle.std.proofs.lemmas.List.{take_all, length-drop}
use Rattle.std.proofs.lemmas.Bool.{false≢true}
use Rattle.std.specs.List.{onto_first, position_or_len}
use Rattle.desk_book.specs.Lines.{script_lines}

abbrev pub line_feed_at : List ℕ → ℕ
line_feed_at text = position_or_len (λ c. eqb c 10) text

first_at : (c : ℕ) (text : List ℕ) (b : Bool) → eqb c 10 ≡ b
    → (line_feed_at text < length text → script_lines text ≡ take (line_feed_at text + 1) text ∷ script_lines (drop (line_feed_at text + 1) text))
    → line_feed_at (c ∷ text) < length (c ∷ text)
    → script_lines (c ∷ text) ≡ take (line_feed_at (c ∷ text) + 1) (c ∷ text) ∷ script_lines (drop (line_feed_at (c ∷ text) + 1) (c ∷ text))
first_at c text true is later h = rw is refl
first_at c text false is later h =
    let lt = rw is at h in
    let e : 1 + line_feed_at text + 1 ≡ suc (line_feed_at text + 1) = omega arith in
    rw (is, e) (ap (onto_first c) (later (omega (arith, lt))))

-- a line feed ends the first line
pub lines_of_first : (text : List ℕ) → line_feed_at text < length text → script_lines text ≡ take (line_feed_at text + 1) text ∷ script_lines (drop (line_feed_at text + 1) text)
lines_of_first [] h = absurd (omega arith)
lines_of_first (c ∷ text) h = first_at c text (eqb c 10) refl (lines_of_first text) h

one_at : (c d : ℕ) (text : List ℕ) (b : Bool) → eqb c 10 ≡ b → (line_feed_at (d ∷ text) ≡ length (d ∷ text) → script_lines (d ∷ text) ≡ (d ∷ text) ∷ [])
    → line_feed_at (c ∷ d ∷ text) ≡ length (c ∷ d ∷ text) → script_lines (c ∷ d ∷ text) ≡ (c ∷ d ∷ text) ∷ []
one_at c d text true is later h = absurd (omega (arith, rw is at h))
one_at c d text false is later h = rw is (ap (onto_first c) (later (omega (arith, rw is at h))))

either : (b : Bool) {x : List (List ℕ)} → cond b x x ≡ x
either true = refl
either false = refl

-- a text without a line feed is one line
pub lines_of_one : (c : ℕ) (text : List ℕ) → line_feed_at (c ∷ text) ≡ length (c ∷ text) → script_lines (c ∷ text) ≡ (c ∷ text) ∷ []
lines_of_one c [] h = either (eqb c 10)
lines_of_one c (d ∷ text) h = one_at c d text (eqb c 10) refl (lines_of_one d text) h

pub whole_line : (text : List ℕ) → eqb (length text) 0 ≡ false → line_feed_at text ≡ length text → script_lines text ≡ text ∷ []
whole_line [] some at = absurd (false≢true (sym some))
whole_line (c ∷ text) some at = lines_of_one c text at

pub first_of_lines : (text : List ℕ) (i : ℕ) → i ≡ line_feed_at text → i < length text
    → script_lines text ≡ take (i + 1) text ∷ script_lines (take (length text - (i + 1)) (drop (i + 1) text))
first_of_lines text i at lt =
    let whole : take (length text - (i + 1)) (drop (i + 1) text) ≡ drop (i + 1) text = take_all _ _ (omega (arith, length-drop (i + 1) text)) in
    rw (whole, at) (lines_of_first text (omega arith))
