-- What an entry registers. Only private contracts and proofs speak of it.
use Rattle.std.specs.Prelude.{ℕ, List, Option, Some, None}
use Rattle.desk_rules.specs.declared.history.entry.Entry.{Entry}
use Rattle.desk_rules.specs.declared.history.entry.Entry.TheVariants.{Security}

-- the security that an entry registers
abbrev pub security_by : Entry → Option (List ℕ)
security_by (Security reference isin kind) = Some isin
security_by entry = None
