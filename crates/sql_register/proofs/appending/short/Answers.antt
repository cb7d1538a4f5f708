use Rattle.std.proofs.Common.{◌<◌, ◌^◌, ℕ, Option, IfSome, subst, sym}
use Rattle.sql_register.proofs.appending.short.Goals as goal

pub returns-in-Some : goal.returns-in-Some
returns-in-Some c = record { status = c.bounded.ensures; mt = subst (λ (o : Option ℕ). IfSome o (λ mt. mt < 2 ^ 16)) (sym c.in-Some.is) c.bounded-in-Some.ensures }
