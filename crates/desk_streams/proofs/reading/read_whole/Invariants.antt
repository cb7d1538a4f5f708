use Rattle.std.proofs.Common.{◌≤◌, ◌+◌, ◌-◌, vec_len, vec_capacity}
use Rattle.std.specs.Io.KnownBytes.{Consumes}
use Rattle.desk_streams.proofs.reading.read_whole.Given as goal

-- what was read is what the reader has lost
abbrev pub invariant-reads : goal.invariant-reads
invariant-reads g l = record {
  taken : Consumes (g.R.Read.remaining l.fn.reader) (g.R.Read.remaining l.reader) l.text.items;
  fits : vec_len l.text ≤ l.longest + 1;
  room : l.longest + 1 ≤ vec_capacity l.text;
}

abbrev pub decreases-reads : goal.decreases-reads
decreases-reads g l = l.longest + 1 - vec_len l.text
