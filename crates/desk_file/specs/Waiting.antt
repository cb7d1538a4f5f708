-- Tries of a pair that change nothing: both its instructions wait for what it lacks.
use Rattle.std.specs.Prelude.{◌≡◌, ℕ, Option, Some}
use Rattle.desk_msg.specs.declared.writing.status.Reason.{Reason}
use Rattle.desk_rules.specs.declared.history.standing.Standing.{Standing}
use Rattle.desk_rules.specs.declared.history.standing.State.TheVariants.{Matched}
use Rattle.desk_rules.specs.Content.{Content}
use Rattle.desk_rules.specs.Standing.{reason_of_lack}
use Rattle.desk_register.specs.declared.outcome.Outcome.{Outcome}
use Rattle.desk_register.specs.declared.outcome.Outcome.TheVariants.{Lacks}

-- an instruction waits for this reason, as the mate of another one
pub record WaitsWith (standing : Standing) (mate : ℕ) (reason : Reason) : Type 0 where
  pub mate_is : standing.mate ≡ Some mate
  pub waits : standing.state ≡ Matched reason

-- the instruction of a number and its mate, each the other's, wait for this reason
pub record BothWait (content : Content) (n : ℕ) (reason : Reason) : Type 0 where
  pub mate : ℕ
  pub here : WaitsWith (content.standing n) mate reason
  pub there : WaitsWith (content.standing mate) n reason

-- what a try tells is why both wait already
abbrev pub IsInVain : Option Reason → Outcome → Type 0
IsInVain (Some reason) (Lacks lack) = reason ≡ reason_of_lack (Some lack)
IsInVain reason outcome = ⊥
