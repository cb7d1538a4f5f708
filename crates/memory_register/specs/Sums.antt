-- The rows of securities, and of what is outstanding, that were found together. Only the invariant of the register, private
-- contracts and proofs speak of it.
use Rattle.std.specs.Prelude.{◌≡◌, ◌≢◌, ℕ, ◌-◌, ◌<◌, List, Option, None}
use Rattle.std.proofs.Common.{get_or}
use Rattle.desk_rules.specs.Content.{Content, history_of}
use Rattle.desk_register.specs.declared.register.Stage.TheVariants.{Failed}
use Rattle.desk_register.specs.Looked.{IsSecurityAfter}
use Rattle.desk_register.specs.View.{View}
use Rattle.memory_rows.specs.FollowOn.{FollowOn}
use Rattle.memory_rows.specs.Walk.{AreTotals}
use Rattle.memory_register.specs.declared.sums.Sums.{Sums}

-- each security that is known, but the first, is the next one after the row before; and what is outstanding is so much
pub record IsSums (content : Content) (sums : Sums) : Type 0 where
  pub follow : FollowOn (IsSecurityAfter (history_of content)) sums.securities sums.known
  pub totals : AreTotals content sums.totals sums.counted

-- of what is held; after a call that failed nothing is said
pub record HoldsSums (view : View) (sums : Sums) : Type 0 where
  pub now : view.stage ≢ Failed → IsSums view.content sums

-- the next row is known, and the one before it is of this security
pub record IsNext (sums : Sums) (above : Option (List ℕ)) : Type 0 where
  pub later : 0 < sums.told
  pub there : sums.told < sums.known
  pub before : get_or sums.securities (sums.told - 1) None ≡ above
