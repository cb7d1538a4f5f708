-- The instructions that stand unmatched.
use Rattle.std.specs.Prelude.{ℕ, Option, None}
use Rattle.desk_rules.specs.declared.history.entry.Instructed.{Instructed}
use Rattle.desk_rules.specs.declared.history.standing.State.{State}
use Rattle.desk_rules.specs.declared.history.standing.State.TheVariants.{Unmatched}
use Rattle.desk_rules.specs.Content.{Content, history_of}
use Rattle.desk_rules.specs.History.{instruction_at}

-- an instruction, where it stands unmatched
abbrev pub if_unmatched : State → Option Instructed → Option Instructed
if_unmatched Unmatched found = found
if_unmatched state found = None

-- the unmatched instruction of a number; none where the entry is no instruction, or stands otherwise
abbrev pub unmatched_in : Content → ℕ → Option Instructed
unmatched_in content n = if_unmatched (content.standing n).state (instruction_at (history_of content) n)
