-- The first pair that is to be tried.
use Rattle.std.proofs.Common.{◌≡◌, ℕ, ◌<◌, ◌≤◌, true, false, Option, Some, None, refl, sym, ◌∙◌, arith, ◌⊎◌, inl, inr}
use Rattle.std.proofs.lemmas.Bool.{cases_lt, false_from_ne_true}
use Rattle.std.specs.Ordering.{nat_cmp, ordering_then}
use Rattle.std.specs.declared.cmp.Ordering.TheVariants.{Less}
use Rattle.std.specs.BTreeMap.Range.{IsLeBy}
use Rattle.std.specs.BTreeSet.{contains}
use Rattle.desk_rules.specs.declared.history.pair.Place.{Place}
use Rattle.desk_rules.specs.Content.{Content}
use Rattle.desk_rules.specs.Settlement.{is_before, is_past}
use Rattle.desk_rules.proofs.PlaceLemmas.{before_day, before_number, before_true}
use Rattle.desk_register.specs.Looked.{IsDue}
use Rattle.desk_register.specs.Short.{IsToTryAfter, StaysShort}
use Rattle.memory_short.specs.DuePlaces.{beginning, place_at}
use Rattle.desk_rules.specs.Places.{place_cmp}
use Rattle.memory_short.specs.Shortages.{KnowsShort, is_to_try}
use Rattle.memory_short.specs.Wants.{want_cmp}
use Rattle.memory_short.specs.declared.shortages.Shortages.{Shortages}
use Rattle.memory_short.specs.declared.wants.Want.{Want}
use Rattle.memory_short.proofs.DueLemmas.{behind_beginning, not_above, not_gt_days}
use Rattle.memory_short.proofs.ShortageLemmas.{short_of_noted}

-- Where all others stay short, the first of those to be tried has none but these before it.

past_beginning : (above : Option Place) (day number : ℕ) → place_cmp (beginning above) (place_at day number) ≡ Less → is_past above (record { day = day; number = number }) ≡ true
past_beginning None day number e = refl
past_beginning (Some a) day number e = by_parts a (record { day = day; number = number }) (apart_days a.day day a.number number e)
  where
    apart_days : (a b i j : ℕ) → ordering_then (nat_cmp a b) (nat_cmp i j) ≡ Less → (a < b) ⊎ ((a ≡ b) × (i < j))
    apart_days a b i j e = elim (cases_lt a b) [ inl lt ↦ inl lt | inr ge ↦ inr (grind arith, grind arith) ]

    by_parts : (a p : Place) → (a.day < p.day) ⊎ ((a.day ≡ p.day) × (a.number < p.number)) → is_before a p ≡ true
    by_parts a p (inl lt) = before_day a p lt
    by_parts a p (inr both) = before_number a p both.0 both.1

module _ (s : Shortages) (content : Content) (day : ℕ) (above : Option Place) (known : s.is_known ≡ true) (none : (want : Want) → contains want_cmp s.brought want ≡ false) (knows : KnowsShort s content) where
  short_unless : (q : Place) → IsDue content day above q → (is_to_try s.to_try q ≡ true → ⊥) → StaysShort content q.number
  short_unless q due tried = short_of_noted s content knows none known q due.pair (false_from_ne_true (is_to_try s.to_try q) tried)

  behind : (q : Place) → IsDue content day above q → place_cmp (beginning above) q ≡ Less
  behind q due = let pair = due.pair in let less = pair.is_earlier in behind_beginning above q (omega arith) due.above

  pub none_to_try : ((q : Place) → place_cmp (beginning above) q ≡ Less → is_to_try s.to_try q ≡ false) → IsToTryAfter content day above None
  none_to_try out q due = short_unless q due (λ there. let bad = sym there ∙ out q (behind q due) in cc)

  module _ (k : Place) (least : (q : Place) → place_cmp (beginning above) q ≡ Less → is_to_try s.to_try q ≡ true → IsLeBy place_cmp k q) where
    pub past_all : day < k.day → IsToTryAfter content day above None
    past_all late q due = short_unless q due (λ there.
        let order = not_gt_days k.day q.day k.number q.number (least q (behind q due) there) in
        let by = due.by in
        omega arith)

    pub first_of_tried : k.day ≤ day → place_cmp (beginning above) k ≡ Less → is_to_try s.to_try k ≡ true → IsToTryAfter content day above (Some k)
    first_of_tried in_time low there = (
      record { pair = (knows.each k).tried there; by = in_time; above = past_beginning above k.day k.number low },
      λ q due before. short_unless q due (λ tried. not_above k.day q.day k.number q.number (least q (behind q due) tried) (before_true q k before)),
    )
