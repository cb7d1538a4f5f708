-- No day is after 31 December 9999.
use Rattle.std.proofs.Common.{◌≡◌, ℕ, ◌+◌, ◌-◌, ◌*◌, ◌<◌, ◌≤◌, ◌^◌, Bool, true, false, if◌then◌else◌, List, [], ◌∷◌, length, take, codes, arith}
use Rattle.std.proofs.lemmas.Int.{ints}
use Rattle.std.specs.Prelude.{pos, ◌≤ℤ◌}
use Rattle.std.proofs.lemmas.List.Elements.{All-take}
use Rattle.desk_codes.specs.Characters.{IsDigit}
use Rattle.desk_codes.specs.Day.{IsDay, day_of_month, month_of, year_of}
use Rattle.desk_codes.specs.Number.{number_of}
use Rattle.desk_codes.proofs.DayLemmas.{front_below}
use Rattle.desk_codes.proofs.NumberLemmas.{number_below}

by_digits : (a b c d e f g h : ℕ)
    → 10 * (10 * (10 * (10 * (10 * (10 * (10 * (10 * 0 + a) + b) + c) + d) + e) + f) + g) + h
    ≡ 10000 * (10 * (10 * (10 * (10 * 0 + a) + b) + c) + d) + 100 * (10 * (10 * 0 + e) + f) + (10 * (10 * 0 + g) + h)
by_digits a b c d e f g h = omega arith

-- eight digits are four, two and two
by_parts : (text : List ℕ) → length text ≡ 8 → number_of text ≡ 10000 * year_of text + 100 * month_of text + day_of_month text
by_parts [] len = absurd (omega arith)
by_parts (a ∷ []) len = absurd (omega arith)
by_parts (a ∷ b ∷ []) len = absurd (omega arith)
by_parts (a ∷ b ∷ c ∷ []) len = absurd (omega arith)
by_parts (a ∷ b ∷ c ∷ d ∷ []) len = absurd (omega arith)
by_parts (a ∷ b ∷ c ∷ d ∷ e ∷ []) len = absurd (omega arith)
by_parts (a ∷ b ∷ c ∷ d ∷ e ∷ f ∷ []) len = absurd (omega arith)
by_parts (a ∷ b ∷ c ∷ d ∷ e ∷ f ∷ g ∷ []) len = absurd (omega arith)
by_parts (a ∷ b ∷ c ∷ d ∷ e ∷ f ∷ g ∷ h ∷ []) len = by_digits (a - 48) (b - 48) (c - 48) (d - 48) (e - 48) (f - 48) (g - 48) (h - 48)
by_parts (a ∷ b ∷ c ∷ d ∷ e ∷ f ∷ g ∷ h ∷ i ∷ more) len = absurd (omega arith)

-- no month has more days
most_days : (is_february is_leap is_short : Bool) (day : ℕ) → day ≤ (if is_february then (if is_leap then 29 else 28) else (if is_short then 30 else 31)) → day ≤ 31
most_days true true is_short day le = omega arith
most_days true false is_short day le = omega arith
most_days false is_leap true day le = omega arith
most_days false is_leap false day le = omega arith

from_pos : (m n : ℕ) → pos m ≤ℤ pos n → m ≤ n
from_pos m n le = omega (arith, ints)

pub last_of_all : (text : List ℕ) → IsDay text → number_of text ≤ number_of (codes "99991231")
last_of_all text day =
    let year : year_of text < 10 ^ 4 = front_below (year_of text) 4 text (number_below (take 4 text) (All-take IsDigit 4 text day.digits)) in
    let month : month_of text ≤ 12 = from_pos _ _ day.exists.1.1 in
    let days : day_of_month text ≤ 31 = most_days _ _ _ (day_of_month text) (from_pos _ _ day.exists.2.1) in
    let parts = by_parts text day.len in
    omega arith
