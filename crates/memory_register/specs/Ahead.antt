-- The rows of an account that were found together. Only the invariant of the register, private contracts and proofs speak of it.
use Rattle.std.specs.Prelude.{◌≡◌, ◌≢◌, ℕ, ◌-◌, ◌<◌, List, Option, Some, None, option_map}
use Rattle.std.proofs.Common.{get_or}
use Rattle.desk_rules.specs.Content.{Content}
use Rattle.desk_register.specs.declared.register.Stage.TheVariants.{Failed}
use Rattle.desk_register.specs.View.{View}
use Rattle.memory_rows.specs.Walk.{AreNextHoldings}
use Rattle.memory_register.specs.declared.ahead.Ahead.{Ahead}

-- each row that is known, but the first, is what the account holds next after the row before
pub record IsAhead (content : Content) (ahead : Ahead) : Type 0 where
  pub rows : (account : List ℕ) → ahead.account ≡ Some account → AreNextHoldings content account ahead.rows ahead.known

-- of what is held; after a call that failed nothing is said
pub record HoldsAhead (view : View) (ahead : Ahead) : Type 0 where
  pub now : view.stage ≢ Failed → IsAhead view.content ahead

-- the next row is known, and the one before it is of this security
pub record IsNext (ahead : Ahead) (account : List ℕ) (above : Option (List ℕ)) : Type 0 where
  pub own : ahead.account ≡ Some account
  pub later : 0 < ahead.told
  pub there : ahead.told < ahead.known
  pub before : option_map (λ holding. holding.isin) (get_or ahead.rows (ahead.told - 1) None) ≡ above
