-- What is known of the entries by a key. Only private contracts and proofs speak of it.
use Rattle.std.specs.Prelude.{List}
use Rattle.desk_rules.specs.declared.history.entry.Entry.{Entry}
use Rattle.memory_register.specs.declared.entries.known.Known.{Known}
use Rattle.memory_register.specs.Keys.{AreKeysOf}
use Rattle.memory_register.specs.Registered.{AreRegistered}

-- the keys are those of these entries, and so is what is registered
pub record AreKnown (known : Known) (history : List Entry) : Type 0 where
  pub keys : AreKeysOf known.keys history
  pub registered : AreRegistered known.registered history
