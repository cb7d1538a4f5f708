-- The look-ups after a number was taken out.
use Rattle.std.proofs.Common.{◌≡◌, ◌≢◌, ℕ, ◌<◌, length, false, Some, ap, sym, ◌∙◌, arith}
use Rattle.std.specs.Ordering.{is_eq, nat_cmp}
use Rattle.std.specs.declared.cmp.Ordering.{Ordering}
use Rattle.std.specs.Cmp.{tied_then}
use Rattle.std.specs.BTreeSet.{BTreeSet, contains}
use Rattle.desk_msg.specs.declared.writing.status.Reason.{Reason}
use Rattle.desk_rules.specs.declared.history.entry.Instructed.{Instructed}
use Rattle.desk_rules.specs.declared.history.standing.State.TheVariants.{Matched, Unmatched}
use Rattle.desk_rules.specs.declared.history.pair.Place.{Place}
use Rattle.desk_rules.specs.History.{instruction_at}
use Rattle.desk_rules.proofs.HistoryLemmas.{instruction_at-known}
use Rattle.std.proofs.lemmas.List.{length-map}
use Rattle.desk_rules.specs.Content.{Content, history_of}
use Rattle.memory_short.specs.DuePlaces.{HasDue, place_at}
use Rattle.desk_rules.specs.Places.{place_cmp}
use Rattle.memory_short.proofs.PlaceCases.{no_second}
use Rattle.memory_register.specs.NumbersByKey.{numbered_cmp}
use Rattle.memory_register.specs.Open.{HasOpen, key_of, match_cmp}
use Rattle.memory_register.specs.declared.pairs.match_key.MatchKey.{MatchKey}

other_number : (i j : ℕ) → i ≢ j → is_eq (nat_cmp i j) ≡ false
other_number i j apart = grind (arith, apart)

pub other_numbered : {K : Type 0} (R : K → K → Ordering) (a b : K) (i j : ℕ) → i ≢ j → is_eq (numbered_cmp R (a, i) (b, j)) ≡ false
other_numbered R a b i j apart = sym (tied_then (R a b) (nat_cmp i j)) ∙ no_second (is_eq (R a b)) (is_eq (nat_cmp i j)) (other_number i j apart)

pub open_without : (old new : BTreeSet (MatchKey × ℕ)) (content : Content) (key : MatchKey) (n : ℕ) → ((content.standing n).state ≡ Unmatched → ⊥)
    → ((q : MatchKey × ℕ) → is_eq (numbered_cmp match_cmp (key, n) q) ≡ false → contains (numbered_cmp match_cmp) new q ≡ contains (numbered_cmp match_cmp) old q)
    → HasOpen old content → HasOpen new content
open_without old new content key n matched rest has = record {
  each = λ m i is unmatched. rest (key_of i, m) (other_numbered match_cmp key (key_of i) n m (λ same. matched (ap (λ k. (content.standing k).state) same ∙ unmatched))) ∙ has.each m i is unmatched;
}

pub due_without : (old new : BTreeSet Place) (content : Content) (day n : ℕ) → ((reason : Reason) → (content.standing n).state ≡ Matched reason → ⊥)
    → ((q : Place) → is_eq (place_cmp (place_at day n) q) ≡ false → contains place_cmp new q ≡ contains place_cmp old q)
    → HasDue old content → HasDue new content
due_without old new content day n settled rest has = record {
  each = λ p pair. rest p (other_numbered nat_cmp day p.day n p.number (λ same. settled pair.reason (ap (λ k. (content.standing k).state) same ∙ pair.matched))) ∙ has.each p pair;
}

-- a content with fewer entries has no instruction of the number
known_below : (content : Content) (n m : ℕ) (i : Instructed) → length content.register < n → instruction_at (history_of content) m ≡ Some i → n ≢ m
known_below content n m i fewer at same =
    let known = instruction_at-known (history_of content) m i at in
    let most = known.1 in
    let size : length (history_of content) ≡ length content.register = length-map content.register (λ kept. kept.entry) in
    omega arith

pub open_without_later : (old new : BTreeSet (MatchKey × ℕ)) (key : MatchKey) (n : ℕ)
    → ((q : MatchKey × ℕ) → is_eq (numbered_cmp match_cmp (key, n) q) ≡ false → contains (numbered_cmp match_cmp) new q ≡ contains (numbered_cmp match_cmp) old q)
    → (mark : Content) → length mark.register < n → HasOpen old mark → HasOpen new mark
open_without_later old new key n rest mark fewer has = record {
  each = λ m i is unmatched. rest (key_of i, m) (other_numbered match_cmp key (key_of i) n m (known_below mark n m i fewer is)) ∙ has.each m i is unmatched;
}

pub due_without_later : (old new : BTreeSet Place) (day n : ℕ) → ((q : Place) → is_eq (place_cmp (place_at day n) q) ≡ false → contains place_cmp new q ≡ contains place_cmp old q)
    → (mark : Content) → length mark.register < n → HasDue old mark → HasDue new mark
due_without_later old new day n rest mark fewer has = record {
  each = λ p pair. rest p (other_numbered nat_cmp day p.day n p.number (known_below mark n p.number pair.later fewer pair.is_later)) ∙ has.each p pair;
}
