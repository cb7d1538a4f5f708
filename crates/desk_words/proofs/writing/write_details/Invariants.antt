use Rattle.std.proofs.Common.{take}
use Rattle.std.specs.List.{flat_map}
use Rattle.std.specs.Io.KnownBytes.{Appends}
use Rattle.desk_words.specs.Topics.{detail_text, value_of_detail}
use Rattle.desk_words.proofs.writing.write_details.Given as goal

abbrev pub invariant-loop-detail : goal.invariant-loop-detail
invariant-loop-detail g l = Appends (g.W.Write.contents l.initial.writer) (g.W.Write.contents l.writer) (flat_map (λ detail. detail_text (value_of_detail detail)) (take l.detail-index l.details))
