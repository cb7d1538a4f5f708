use Rattle.std.proofs.Common.{◌≡◌, map, take}
use Rattle.serde_json.specs.View.{view}
use Rattle.desk_journal.specs.JournalData.{key_data}
use Rattle.desk_journal.proofs.rows.json.keys_value.Given as goal

abbrev pub invariant-loop-message : goal.invariant-loop-message
invariant-loop-message l = map view l.keys.items ≡ map key_data (take l.message-index l.messages)
