-- What a pair lacks that is tried.
use Rattle.std.specs.Prelude.{◌<◌, ◌≤◌, Option, Some, None}
use Rattle.desk_register.specs.Changes.{HasCash, LacksCash, delivering_side, receiving_side}
use Rattle.desk_rules.specs.Content.{Content}
use Rattle.desk_rules.specs.declared.history.entry.Instructed.{Instructed}
use Rattle.desk_rules.specs.declared.history.pair.Lack.{Lack}
use Rattle.desk_rules.specs.declared.history.pair.Lack.TheVariants.{Money, Securities}

-- securities are told first; a pair that lacks nothing is covered
abbrev pub IsLackOf : Content → Instructed → Instructed → Option Lack → Type 0
IsLackOf content earlier later None =
    (later.instruction.quantity ≤ content.position (delivering_side earlier later).instruction.account later.instruction.isin)
    × HasCash content.cash (receiving_side earlier later).sender later.instruction.cash
IsLackOf content earlier later (Some Securities) = content.position (delivering_side earlier later).instruction.account later.instruction.isin < later.instruction.quantity
IsLackOf content earlier later (Some Money) =
    (later.instruction.quantity ≤ content.position (delivering_side earlier later).instruction.account later.instruction.isin)
    × LacksCash content.cash (receiving_side earlier later).sender later.instruction.cash
