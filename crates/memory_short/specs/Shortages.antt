-- Which matched pairs are known to stay short. Only the invariant of the register, private contracts and proofs speak of it.
use Rattle.std.specs.Prelude.{◌≡◌, ◌≢◌, ℕ, ◌<◌, ◌≤◌, Bool, true, false, is_some, Option, Some, None}
use Rattle.std.specs.BTreeMap.{BTreeMap, get}
use Rattle.std.specs.BTreeSet.{contains}
use Rattle.std.specs.Ordering.{is_eq}
use Rattle.desk_codes.specs.Number.{number_of}
use Rattle.desk_rules.specs.declared.history.entry.Instructed.{Instructed}
use Rattle.desk_rules.specs.declared.history.pair.Lack.{Lack}
use Rattle.desk_rules.specs.declared.history.pair.Lack.TheVariants.{Money}
use Rattle.desk_rules.specs.declared.history.standing.State.TheVariants.{Matched}
use Rattle.desk_rules.specs.declared.history.pair.Place.{Place}
use Rattle.desk_rules.specs.Content.{Content}
use Rattle.desk_rules.specs.Standing.{reason_of_lack}
use Rattle.desk_register.specs.declared.outcome.Outcome.{Outcome}
use Rattle.desk_register.specs.declared.outcome.Outcome.TheVariants.{Settled, Lacks}
use Rattle.desk_register.specs.declared.register.Stage.TheVariants.{Failed}
use Rattle.desk_register.specs.Changes.{IsPairAt}
use Rattle.desk_register.specs.Looked.{IsMatchedPair}
use Rattle.desk_register.specs.View.{View}
use Rattle.memory_rows.specs.Transfers.{Transfer, transfer_of}
use Rattle.desk_rules.specs.Places.{place_cmp}
use Rattle.memory_short.specs.Wants.{AreWaiting, IsWantOf, Waits, cash_want, is_waiting, less_given, more_taken, want_cmp}
use Rattle.memory_short.specs.declared.shortages.Shortages.{Shortages}
use Rattle.memory_short.specs.declared.wants.Want.{Want}
use Rattle.memory_short.specs.declared.wants.Want.TheVariants.{MoreHeld, LessHeld, MoreCash}

-- a place is to be tried
abbrev pub is_to_try : BTreeMap Place ℕ → Place → Bool
is_to_try counts at = is_some (get place_cmp counts at)

-- A matched pair, by the number of its later instruction, of which both are said to lack this; it may have come since. Where
-- that is money, some is to be paid.
pub record StandsShort (content : Content) (n : ℕ) : Type 0 where
  pub mate : ℕ
  pub earlier : Instructed
  pub later : Instructed
  pub lack : Lack
  pub pair : IsPairAt content n mate earlier later
  pub two : mate < n
  pub back : (content.standing mate).mate ≡ Some n
  pub earlier_waits : (content.standing mate).state ≡ Matched (reason_of_lack (Some lack))
  pub later_waits : (content.standing n).state ≡ Matched (reason_of_lack (Some lack))
  pub pays : lack ≡ Money → is_some later.instruction.cash ≡ true

-- the pair of a place stands short, and its place waits for all that the pair waits for
pub record IsNoted (waits : Waits) (content : Content) (at : Place) : Type 0 where
  pub short : StandsShort content at.number
  pub waiting : AreWaiting waits (transfer_of short.earlier short.later) short.lack at

-- the pair of a place, which is not to be tried, stands short and waits for so much of this
pub record IsWaitOf (to_try : BTreeMap Place ℕ) (content : Content) (want : Want) (amount : ℕ) (at : Place) : Type 0 where
  pub short : StandsShort content at.number
  pub day : number_of short.later.instruction.day ≡ at.day
  pub wanted : IsWantOf (transfer_of short.earlier short.later) short.lack want amount
  pub out : is_to_try to_try at ≡ false

-- so much of what is wanted has not come
abbrev pub IsUncovered : Content → Want → ℕ → Type 0
IsUncovered content (MoreHeld account isin) amount = content.position account isin < amount
IsUncovered content (LessHeld account isin) amount = amount ≤ content.position account isin
IsUncovered content (MoreCash bic ccy) amount = content.cash bic ccy < amount

-- What is known of a place. A matched pair is to be tried, or noted; what is to be tried is a matched pair, and what waits is
-- one that stands short. What it waits for has not come, unless it was brought and is not taken up.
pub record KnowsAt (s : Shortages) (content : Content) (at : Place) : Type 0 where
  pub noted : s.is_known ≡ true → IsMatchedPair content at → is_to_try s.to_try at ≡ false → IsNoted s.waits content at
  pub tried : is_to_try s.to_try at ≡ true → IsMatchedPair content at
  pub waits : (want : Want) (amount : ℕ) → is_waiting s.waits want amount at ≡ true → IsWaitOf s.to_try content want amount at
  pub uncovered : (want : Want) (amount : ℕ) → is_waiting s.waits want amount at ≡ true → contains want_cmp s.brought want ≡ false → IsUncovered content want amount

-- of all places
pub record KnowsShort (s : Shortages) (content : Content) : Type 0 where
  pub each : (at : Place) → KnowsAt s content at

-- of what is held; after a call that failed nothing is said
pub record HoldsShort (view : View) (s : Shortages) : Type 0 where
  pub now : view.stage ≢ Failed → KnowsShort s view.content

-- a place is to be tried as before, and waits as before
pub record Agrees (old new : Shortages) (at : Place) : Type 0 where
  pub to_try : is_to_try new.to_try at ≡ is_to_try old.to_try at
  pub waits : (want : Want) (amount : ℕ) → is_waiting new.waits want amount at ≡ is_waiting old.waits want amount at

-- what is known of other places is known as before; more may have been brought
pub record KeepsOthers (here : Place) (old new : Shortages) : Type 0 where
  pub known : new.is_known ≡ true → old.is_known ≡ true
  pub others : (at : Place) → is_eq (place_cmp here at) ≡ false → Agrees old new at
  pub brought : (want : Want) → contains want_cmp old.brought want ≡ true → contains want_cmp new.brought want ≡ true

-- the place of a pair waits for no more than before; if it was not to be tried, for nothing that the pair may wait for
pub record LetsGo (t : Transfer) (here : Place) (old new : Shortages) : Type 0 where
  pub fewer : (want : Want) (amount : ℕ) → is_waiting new.waits want amount here ≡ true → is_waiting old.waits want amount here ≡ true
  pub none : is_to_try old.to_try here ≡ false → (lack : Lack) (want : Want) (amount : ℕ) → IsWantOf t lack want amount → is_waiting new.waits want amount here ≡ false

-- the pair of a place is known no more
pub record TakesOut (t : Transfer) (here : Place) (old new : Shortages) : Type 0 where
  pub keeps : KeepsOthers here old new
  pub out : is_to_try new.to_try here ≡ false
  pub gone : LetsGo t here old new

-- a place is to be tried, and waits as before
pub record PutsIn (here : Place) (old new : Shortages) : Type 0 where
  pub keeps : KeepsOthers here old new
  pub there : is_to_try new.to_try here ≡ true
  pub waits : (want : Want) (amount : ℕ) → is_waiting new.waits want amount here ≡ is_waiting old.waits want amount here

-- who waits for this is known to be brought it
pub record IsBrought (s : Shortages) (want : Want) : Type 0 where
  pub each : (amount : ℕ) (at : Place) → is_waiting s.waits want amount at ≡ true → contains want_cmp s.brought want ≡ true

abbrev pub IsBroughtIfAny : Shortages → Option Want → Type 0
IsBroughtIfAny s None = Unit {0}
IsBroughtIfAny s (Some want) = IsBrought s want

-- more may have been brought, and nothing else is known otherwise
pub record Brings (old new : Shortages) : Type 0 where
  pub known : new.is_known ≡ old.is_known
  pub to_try : new.to_try ≡ old.to_try
  pub waits : new.waits ≡ old.waits
  pub more : (want : Want) → contains want_cmp old.brought want ≡ true → contains want_cmp new.brought want ≡ true

-- a pair settled
pub record IsNotedSettled (t : Transfer) (here : Place) (old new : Shortages) : Type 0 where
  pub taken : TakesOut t here old new
  pub more_taken : IsBrought new (more_taken t)
  pub less_given : IsBrought new (less_given t)
  pub more_paid : IsBroughtIfAny new (cash_want t.deliverer t.cash)

-- a pair lacks something: it is to be tried still, or else waits for what it lacks and for nothing else
pub record IsNotedLack (t : Transfer) (lack : Lack) (here : Place) (old new : Shortages) : Type 0 where
  pub keeps : KeepsOthers here old new
  pub stays : is_to_try new.to_try here ≡ true → LetsGo t here old new
  pub waiting : is_to_try new.to_try here ≡ false → AreWaiting new.waits t lack here
  pub only : is_to_try new.to_try here ≡ false → (want : Want) (amount : ℕ) → is_waiting new.waits want amount here ≡ true → is_waiting old.waits want amount here ≡ false → IsWantOf t lack want amount
  pub was : is_to_try new.to_try here ≡ false → is_to_try old.to_try here ≡ true

-- how a pair fared
abbrev pub IsNotedTried : Outcome → Transfer → Place → Shortages → Shortages → Type 0
IsNotedTried Settled t here old new = IsNotedSettled t here old new
IsNotedTried (Lacks lack) t here old new = IsNotedLack t lack here old new
