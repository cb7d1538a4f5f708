-- What pairs that are short wait for. Only the invariant of the register, private contracts and proofs speak of it.
use Rattle.std.specs.Prelude.{◌≡◌, ℕ, ◌≤◌, Bool, true, false, List, Option, Some, None}
use Rattle.std.specs.BTreeMap.{BTreeMap, get}
use Rattle.std.specs.BTreeSet.{BTreeSet, btree_set_len, contains}
use Rattle.std.specs.Ordering.{is_eq, nat_cmp}
use Rattle.std.specs.declared.cmp.Ordering.{Ordering}
use Rattle.desk_codes.specs.declared.currency.Ccy.{Ccy}
use Rattle.desk_msg.specs.declared.instruction.Cash.{Cash}
use Rattle.desk_rules.specs.declared.history.entry.Entry.{Entry}
use Rattle.desk_rules.specs.declared.history.entry.Entry.TheVariants.{Issue, Redeem, PayIn}
use Rattle.desk_rules.specs.declared.history.pair.Lack.{Lack}
use Rattle.desk_rules.specs.declared.history.pair.Lack.TheVariants.{Securities, Money}
use Rattle.desk_rules.specs.declared.history.pair.Place.{Place}
use Rattle.memory_rows.specs.Transfers.{Transfer}
use Rattle.desk_rules.specs.Places.{place_cmp}
use Rattle.memory_short.specs.PlacesByKey.{placed_cmp}
use Rattle.memory_short.specs.declared.wants.Want.{Want}
use Rattle.memory_short.specs.declared.wants.Want.TheVariants.{MoreHeld, LessHeld, MoreCash}
use Rattle.memory_short.specs.contracts.wants.WantOrd.TheImpl as want_ord

-- more on the deliverer's account, less on it, and more on the receiver's account
abbrev pub more_given : Transfer → Want
more_given t = MoreHeld t.given t.isin

abbrev pub less_given : Transfer → Want
less_given t = LessHeld t.given t.isin

abbrev pub more_taken : Transfer → Want
more_taken t = MoreHeld t.taken t.isin

-- more of the currency in which cash is, if there is cash
abbrev pub cash_want : List ℕ → Option Cash → Option Want
cash_want bic None = None
cash_want bic (Some asked) = Some (MoreCash bic asked.ccy)

-- so much of this currency is asked
abbrev pub IsAsked : Option Cash → Ccy → ℕ → Type 0
IsAsked None ccy amount = ⊥
IsAsked (Some asked) ccy amount = (ccy ≡ asked.ccy) × (amount ≡ asked.amount)

-- A pair waits for so much of this, by what it lacks: that the deliverer holds the quantity. One that lacks money lacks no
-- securities: it waits for the receiver to have the amount, or the deliverer to hold less than the quantity.
abbrev pub IsWantOf : Transfer → Lack → Want → ℕ → Type 0
IsWantOf t lack (MoreHeld account isin) amount = (lack ≡ Securities) × (account ≡ t.given) × (isin ≡ t.isin) × (amount ≡ t.quantity)
IsWantOf t lack (LessHeld account isin) amount = (lack ≡ Money) × (account ≡ t.given) × (isin ≡ t.isin) × (amount ≡ t.quantity)
IsWantOf t lack (MoreCash bic ccy) amount = (lack ≡ Money) × (bic ≡ t.receiver) × IsAsked t.cash ccy amount

-- what an entry brings about, of what a pair can wait for
abbrev pub woken_by : Entry → Option Want
woken_by (Issue movement) = Some (MoreHeld movement.account movement.isin)
woken_by (Redeem movement) = Some (LessHeld movement.account movement.isin)
woken_by (PayIn payment) = Some (MoreCash payment.bic payment.ccy)
woken_by entry = None

-- the order of what is waited for, and of who waits for how much of it
abbrev pub want_cmp : Want → Want → Ordering
want_cmp = (want_ord.ghosts).cmp

abbrev pub amount_cmp : ℕ × Place → ℕ × Place → Ordering
amount_cmp = placed_cmp nat_cmp

-- The places that wait, behind how much they wait for, under what they wait for. A place waits for so much of this, and so many
-- wait for it.
abbrev pub Waits : Type 0
Waits = BTreeMap Want (BTreeSet (ℕ × Place))

abbrev pub is_among : Option (BTreeSet (ℕ × Place)) → ℕ → Place → Bool
is_among None amount at = false
is_among (Some places) amount at = contains amount_cmp places (amount, at)

abbrev pub is_waiting : Waits → Want → ℕ → Place → Bool
is_waiting waits want amount at = is_among (get want_cmp waits want) amount at

abbrev pub how_many_of : Option (BTreeSet (ℕ × Place)) → ℕ
how_many_of None = 0
how_many_of (Some places) = btree_set_len places

abbrev pub how_many : Waits → Want → ℕ
how_many waits want = how_many_of (get want_cmp waits want)

-- the place of a pair waits for all that the pair waits for
pub record AreWaiting (waits : Waits) (t : Transfer) (lack : Lack) (at : Place) : Type 0 where
  pub each : (want : Want) (amount : ℕ) → IsWantOf t lack want amount → is_waiting waits want amount at ≡ true

-- no place waits for this
pub record NoneWaits (waits : Waits) (want : Want) : Type 0 where
  pub each : (amount : ℕ) (at : Place) → is_waiting waits want amount at ≡ false

-- other places wait as before
pub record KeepsOtherWaits (here : Place) (old new : Waits) : Type 0 where
  pub each : (want : Want) (amount : ℕ) (at : Place) → is_eq (place_cmp here at) ≡ false → is_waiting new want amount at ≡ is_waiting old want amount at

-- what waits has waited
pub record FewerWait (old new : Waits) : Type 0 where
  pub each : (want : Want) (amount : ℕ) (at : Place) → is_waiting new want amount at ≡ true → is_waiting old want amount at ≡ true
  pub len : (want : Want) → how_many new want ≤ how_many old want
