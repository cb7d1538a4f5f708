-- What instructions that are near to each other have in common. Only private contracts and proofs speak of it.
use Rattle.std.specs.Prelude.{not}
use Rattle.std.specs.declared.cmp.Ordering.{Ordering}
use Rattle.desk_msg.specs.MessageType.{is_delivery}
use Rattle.desk_rules.specs.declared.history.entry.Instructed.{Instructed}
use Rattle.desk_report.specs.declared.unmatched.near.NearKey.{NearKey}
use Rattle.desk_report.specs.contracts.unmatched.near.NearKeyOrd.TheImpl as near_ord

-- the order of the keys
abbrev pub near_cmp : NearKey → NearKey → Ordering
near_cmp = (near_ord.ghosts).cmp

-- an instruction's key
abbrev pub key_of : Instructed → NearKey
key_of one = record { isin = one.instruction.isin; sender = one.sender; counterparty = one.instruction.counterparty; delivers = is_delivery one.instruction.mt }

-- the key of the instructions that are near to one
abbrev pub near_key : Instructed → NearKey
near_key one = record { isin = one.instruction.isin; sender = one.instruction.counterparty; counterparty = one.sender; delivers = not (is_delivery one.instruction.mt) }
