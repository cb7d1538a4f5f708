use Rattle.std.proofs.Common.{◌≡◌, map, take}
use Rattle.httparse.specs.Spans.{header_bytes}
use Rattle.desk_http.specs.Length.{values_of}
use Rattle.desk_http.specs.Values.{values_in}
use Rattle.desk_http.proofs.field.values_of.Given as goal

-- the values of the fields so far
abbrev pub invariant-loop-field : goal.invariant-loop-field
invariant-loop-field l = values_of l.name (map (header_bytes l.front) (take l.field-index l.fields)) ≡ values_in l.found
