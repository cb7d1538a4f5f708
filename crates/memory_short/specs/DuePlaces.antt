-- Where matched pairs are found: by their settlement day and number. Only private contracts and proofs speak of it.
use Rattle.std.specs.Prelude.{◌≡◌, ◌≢◌, ℕ, ◌==◌, true, false, List, ◌++◌, Option, Some, None, option_map}
use Rattle.std.specs.List.{list_any}
use Rattle.std.specs.BTreeSet.{BTreeSet, contains}
use Rattle.desk_codes.specs.Number.{number_of}
use Rattle.desk_rules.specs.declared.history.entry.Entry.{Entry}
use Rattle.desk_rules.specs.declared.history.entry.Instructed.{Instructed}
use Rattle.desk_rules.specs.declared.history.pair.Place.{Place}
use Rattle.desk_rules.specs.Content.{Content, history_of}
use Rattle.desk_rules.specs.History.{instruction_at}
use Rattle.desk_rules.specs.Places.{place_cmp}
use Rattle.desk_rules.specs.Settlement.{is_before}
use Rattle.desk_register.specs.declared.register.Stage.TheVariants.{Failed}
use Rattle.desk_register.specs.Looked.{IsDue, IsMatchedPair}
use Rattle.desk_register.specs.View.{View}

-- the place of a day and a number
abbrev pub place_at : ℕ → ℕ → Place
place_at day number = record { day = day; number = number }

-- each matched pair is found by its place
pub record HasDue (places : BTreeSet Place) (content : Content) : Type 0 where
  pub each : (p : Place) → IsMatchedPair content p → contains place_cmp places p ≡ true

-- the pair that stands at a place, where it is due, or none is
abbrev pub IsDueAt : Content → ℕ → Option Place → Place → Option Place → Type 0
IsDueAt content day above at None = IsDue content day above at → ⊥
IsDueAt content day above at (Some p) = IsDue content day above p × (p ≡ at)

-- the place behind which the search begins; no entry has the number 0
abbrev pub beginning : Option Place → Place
beginning None = place_at 0 0
beginning (Some p) = p

-- what was found is found
abbrev pub HoldsDue : BTreeSet Place → BTreeSet Place → Type 0
HoldsDue old new = (q : Place) → contains place_cmp old q ≡ true → contains place_cmp new q ≡ true

-- an instruction's place is found
abbrev pub PlacedAt : BTreeSet Place → Option Instructed → ℕ → Type 0
PlacedAt places None n = Unit {0}
PlacedAt places (Some i) n = contains place_cmp places (place_at (number_of i.instruction.day) n) ≡ true

-- the settlement day of the instruction of a number
abbrev pub day_at : List Entry → ℕ → Option ℕ
day_at history n = option_map (λ i. number_of i.instruction.day) (instruction_at history n)

-- each place is that of an instruction
pub record ArePlaced (places : BTreeSet Place) (history : List Entry) : Type 0 where
  pub each : (at : Place) → contains place_cmp places at ≡ true → day_at history at.number ≡ Some at.day

-- each place is that of a matched pair, but for those of some numbers
pub record AreMatched (places : BTreeSet Place) (content : Content) (touched : List ℕ) : Type 0 where
  pub each : (at : Place) → contains place_cmp places at ≡ true → list_any (λ n. n == at.number) touched ≡ false → IsMatchedPair content at

-- What is found among the matched pairs, in what is held and in what `back` goes back to. After a call that failed nothing is
-- said of what is held.
pub record HoldsMatched (view : View) (places : BTreeSet Place) (noted : List Entry) (touched : List ℕ) : Type 0 where
  pub placed : ArePlaced places (history_of view.mark ++ noted)
  pub marked : AreMatched places view.mark touched
  pub now : view.stage ≢ Failed → AreMatched places view.content touched

-- no place was put in
abbrev pub FewerDue : BTreeSet Place → BTreeSet Place → Type 0
FewerDue old new = (q : Place) → contains place_cmp new q ≡ true → contains place_cmp old q ≡ true

-- a pair that is due and found among some places
pub record IsDueOf (places : BTreeSet Place) (content : Content) (day : ℕ) (above : Option Place) (p : Place) : Type 0 where
  pub due : IsDue content day above p
  pub there : contains place_cmp places p ≡ true

-- the first such pair, or there is none
abbrev pub IsFirstDueOf : BTreeSet Place → Content → ℕ → Option Place → Option Place → Type 0
IsFirstDueOf places content day above None = (p : Place) → IsDueOf places content day above p → ⊥
IsFirstDueOf places content day above (Some p) = IsDue content day above p × ((q : Place) → IsDueOf places content day above q → is_before q p ≡ false)
