use Rattle.std.proofs.Common.{◌≡◌, drop}
use Rattle.std.specs.Str.{bytes_eq}
use Rattle.std.specs.List.{list_any}
use Rattle.desk_text.specs.Seen.{texts}
use Rattle.desk_reasons.proofs.rows.has_tag.Given as goal

abbrev pub invariant-loop-other : goal.invariant-loop-other
invariant-loop-other l = list_any (bytes_eq l.tag) (texts l.tags) ≡ list_any (bytes_eq l.tag) (texts (drop l.other-index l.tags))
