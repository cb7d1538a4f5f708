use Rattle.std.proofs.Common.{◌≡◌, drop}
use Rattle.desk_msg.specs.Finding.{found_among}
use Rattle.desk_msg.proofs.reading.find.next_of_tag.Given as goal

abbrev pub invariant-loop-index : goal.invariant-loop-index
invariant-loop-index l = found_among l.row l.fields ≡ found_among l.row (drop l.index l.fields)
