-- Rows that follow on one another, with one row more.
use Rattle.std.proofs.Common.{◌≡◌, ◌≢◌, ℕ, ◌+◌, ◌-◌, ◌<◌, ◌≤◌, List, Option, None, refl, sym, subst, arith, length, get_or, below_more}
use Rattle.std.proofs.Math.ListN.{set}
use Rattle.std.proofs.lemmas.List.{get_or-set_other}
use Rattle.std.proofs.lemmas.Grind.{get_or-set_at}
use Rattle.memory_rows.specs.FollowOn.{FollowOn}

module _ {X : Type 0} (follows : Option X → Option X → Type 0) (rows : List (Option X)) where
  -- a first row
  pub one_row : (found : Option X) → 0 < length rows → get_or (set rows 0 found) 0 None ≡ found
  one_row found some = get_or-set_at rows 0 0 found None refl some

  pub follows_none : FollowOn follows rows 1
  follows_none = record { each = λ k below. absurd (omega arith) }

  module _ (count : ℕ) (found : Option X) (within : count < length rows) (some : 1 ≤ count) where
    before : (k : ℕ) → k < count → get_or (set rows count found) k None ≡ get_or rows k None
    before k below = let differs : k ≢ count = omega arith in get_or-set_other rows count k found None differs

    here : (k : ℕ) → k ≡ count → get_or (set rows count found) k None ≡ found
    here k is = get_or-set_at rows count k found None is within

    pub first_row : get_or (set rows count found) 0 None ≡ get_or rows 0 None
    first_row = before 0 (omega arith)

    pub last_row : get_or (set rows count found) (count + 1 - 1) None ≡ found
    last_row = here (count + 1 - 1) (omega arith)

    pub one_more : FollowOn follows rows count → follows (get_or rows (count - 1) None) found → FollowOn follows (set rows count found) (count + 1)
    one_more follow next =
        let at : (k : ℕ) (a b : Option X) → get_or (set rows count found) k None ≡ a → get_or (set rows count found) (k + 1) None ≡ b → follows a b
        → follows (get_or (set rows count found) k None) (get_or (set rows count found) (k + 1) None)
        = λ k a b one two holds. subst (λ z. follows z (get_or (set rows count found) (k + 1) None)) (sym one) (subst (follows a) (sym two) holds) in
        record {
          each = λ k below. below_more (λ j. follows (get_or (set rows count found) j None) (get_or (set rows count found) (j + 1) None)) (count - 1)
              (λ j early. at j (get_or rows j None) (get_or rows (j + 1) None) (before j (omega arith)) (before (j + 1) (omega arith)) (follow.each j (omega arith)))
              (at (count - 1) (get_or rows (count - 1) None) found (before (count - 1) (omega arith)) (here (count - 1 + 1) (omega arith)) next)
              k (omega arith);
        }
