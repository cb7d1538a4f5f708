-- What is paid in of a currency is one amount, or none.
use Rattle.std.proofs.Common.{◌≡◌, ℕ, ◌+◌, List, Option, Some, None, refl, ap, arith}
use Rattle.std.specs.List.{list_any}
use Rattle.std.proofs.lemmas.Bool.{both_ways}
use Rattle.desk_codes.specs.declared.currency.Ccy.{Ccy}
use Rattle.desk_rules.specs.declared.history.entry.Entry.{Entry}
use Rattle.desk_register.specs.Looked.{IsPaid, pays_in}

pub one_paid : (history : List Entry) (ccy : Ccy) (a b : Option ℕ) → IsPaid history ccy a → IsPaid history ccy b → a ≡ b
one_paid history ccy None None p q = refl
one_paid history ccy None (Some n) p q = absurd (both_ways (list_any (pays_in ccy) history) p q.0)
one_paid history ccy (Some m) None p q = absurd (both_ways (list_any (pays_in ccy) history) q p.0)
one_paid history ccy (Some m) (Some n) p q = ap Some (let a = p.1 in let b = q.1 in omega arith)
