use Rattle.std.proofs.Common.{◌≤◌, ◌-◌, vec_len, vec_capacity}
use Rattle.std.specs.Io.KnownBytes.{Consumes}
use Rattle.desk_http.proofs.reading.read_request.Given as goal

-- what was read is what the reader has lost
abbrev pub invariant-reads : goal.invariant-reads
invariant-reads g l = record {
  taken : Consumes (g.R.Read.remaining l.fn.reader) (g.R.Read.remaining l.reader) l.input.items;
  limit : vec_len l.input ≤ 73728;
  room : 73728 ≤ vec_capacity l.input;
}

abbrev pub decreases-reads : goal.decreases-reads
decreases-reads g l = 73728 - vec_len l.input
