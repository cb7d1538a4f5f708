-- What a cancellation names by its key. Only private contracts and proofs speak of it.
use Rattle.std.specs.Prelude.{ℕ, List, Option, None}
use Rattle.desk_rules.specs.declared.history.entry.Entry.{Entry}
use Rattle.desk_rules.specs.declared.history.entry.Entry.TheVariants.{Cancel}
use Rattle.desk_rules.specs.declared.history.entry.Sender.TheVariants.{Participant as FromParticipant}
use Rattle.desk_rules.specs.History.{number_of_key}

-- the number of the entry with the key that a cancellation names, of whatever type
abbrev pub number_named : List Entry → Entry → Option ℕ
number_named history (Cancel sender order) = number_of_key history (FromParticipant sender) order.previous
number_named history entry = None
