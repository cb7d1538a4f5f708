use Rattle.std.proofs.Common.{◌≡◌, drop, find}
use Rattle.desk_msg.specs.Finding.{found_all}
use Rattle.desk_reasons.specs.FieldFaults.{is_misspelt}
use Rattle.desk_reasons.proofs.fields.first_misspelt.Given as goal

-- none so far
abbrev pub invariant-loop-field : goal.invariant-loop-field
invariant-loop-field l = find (is_misspelt l.word) (found_all l.fields) ≡ find (is_misspelt l.word) (found_all (drop l.field-index l.fields))
