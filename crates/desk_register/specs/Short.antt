-- Pairs that stay short: each lacks what it is said to lack, so that to try it changes nothing.
use Rattle.std.specs.Prelude.{◌≡◌, ℕ, ◌<◌, ◌≤◌, true, Option, Some, None}
use Rattle.desk_rules.specs.declared.history.entry.Instructed.{Instructed}
use Rattle.desk_rules.specs.declared.history.pair.Lack.{Lack}
use Rattle.desk_rules.specs.declared.history.pair.Lack.TheVariants.{Securities, Money}
use Rattle.desk_rules.specs.declared.history.pair.Place.{Place}
use Rattle.desk_rules.specs.declared.history.standing.State.TheVariants.{Matched}
use Rattle.desk_rules.specs.Content.{Content}
use Rattle.desk_rules.specs.Settlement.{is_before}
use Rattle.desk_rules.specs.Standing.{reason_of_lack}
use Rattle.desk_register.specs.Changes.{IsPairAt, LacksCash, delivering_side, receiving_side}
use Rattle.desk_register.specs.Looked.{IsDue}

-- what the two instructions of a pair lack: the deliverer holds too little, or it holds enough and the receiver has too
-- little cash
abbrev pub LacksNow : Content → Instructed → Instructed → Lack → Type 0
LacksNow content earlier later Securities = content.position (delivering_side earlier later).instruction.account later.instruction.isin < later.instruction.quantity
LacksNow content earlier later Money =
    (later.instruction.quantity ≤ content.position (delivering_side earlier later).instruction.account later.instruction.isin)
    × LacksCash content.cash (receiving_side earlier later).sender later.instruction.cash

-- A matched pair, by its number, that lacks what both its instructions are said to lack.
pub record StaysShort (content : Content) (n : ℕ) : Type 0 where
  pub mate : ℕ
  pub earlier : Instructed
  pub later : Instructed
  pub lack : Lack
  pub pair : IsPairAt content n mate earlier later
  pub two : mate < n
  pub back : (content.standing mate).mate ≡ Some n
  pub earlier_waits : (content.standing mate).state ≡ Matched (reason_of_lack (Some lack))
  pub later_waits : (content.standing n).state ≡ Matched (reason_of_lack (Some lack))
  pub lacks : LacksNow content earlier later lack

-- A matched pair that is due by a day, above a place, before which each such pair stays short; or each does.
abbrev pub IsToTryAfter : Content → ℕ → Option Place → Option Place → Type 0
IsToTryAfter content day place None = (q : Place) → IsDue content day place q → StaysShort content q.number
IsToTryAfter content day place (Some p) = IsDue content day place p × ((q : Place) → IsDue content day place q → is_before q p ≡ true → StaysShort content q.number)
