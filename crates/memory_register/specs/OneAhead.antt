-- That rows are known, of holdings or of totals, is a fact: there is one proof of it at most.
use Rattle.std.proofs.Common.{ℕ, List, Option, Some, None}
use Rattle.std.specs.Prelude.{IfSome}
use Rattle.std.proofs.Props.{props}
use Rattle.desk_rules.specs.declared.history.entry.Entry.{Entry}
use Rattle.desk_rules.specs.Content.{Content}
use Rattle.desk_register.specs.declared.holding.Holding.{Holding}
use Rattle.desk_register.specs.Looked.{IsAboveText, IsHoldingAfter, IsSecurityAfter}
use Rattle.desk_register.specs.View.{View}
use Rattle.memory_rows.specs.Walk.{IsTotal}
use Rattle.memory_register.specs.Ahead.{HoldsAhead}
use Rattle.memory_register.specs.Sums.{HoldsSums}
use Rattle.memory_register.specs.declared.ahead.Ahead.{Ahead}
use Rattle.memory_register.specs.declared.sums.Sums.{Sums}

above_prop : (above : Option (List ℕ)) (isin : List ℕ) → IsProp (IsAboveText above isin)
above_prop None isin = hlevel props
above_prop (Some a) isin = hlevel props

after_prop : (content : Content) (account : List ℕ) (above : Option (List ℕ)) (found : Option Holding) → IsProp (IsHoldingAfter content account above found)
after_prop content account above None = hlevel (props, above_prop)
after_prop content account above (Some holding) = hlevel (props, above_prop)

pub holds_ahead_prop : (view : View) (ahead : Ahead) → IsProp (HoldsAhead view ahead)
holds_ahead_prop view ahead = hlevel (props, after_prop)

security_prop : (history : List Entry) (above found : Option (List ℕ)) → IsProp (IsSecurityAfter history above found)
security_prop history above None = hlevel (props, above_prop)
security_prop history above (Some isin) = hlevel (props, above_prop)

total_prop : (content : Content) (total : Option Holding) → IsProp (IfSome total (IsTotal content))
total_prop content None = hlevel props
total_prop content (Some total) = hlevel props

pub holds_sums_prop : (view : View) (sums : Sums) → IsProp (HoldsSums view sums)
holds_sums_prop view sums = hlevel (props, security_prop, total_prop)
