use Rattle.std.proofs.Common.{◌<◌, ◌≤◌, length}
use Rattle.std.specs.Prelude.{vec_capacity, vec_len}
use Rattle.desk_streams.proofs.OutboxLemmas.{IsAddedTo}
use Rattle.desk_streams.proofs.outbox.add.Given as goal

abbrev pub invariant-pieces : goal.invariant-pieces
invariant-pieces g l = record {
  few : vec_len l.waiting < 8192;
  room : 8192 ≤ vec_capacity l.waiting;
  added : IsAddedTo (g.W.Write.contents l.fn.writer) l.fn.waiting.items (g.W.Write.contents l.writer) l.waiting.items l.text l.rest;
}

abbrev pub decreases-pieces : goal.decreases-pieces
decreases-pieces g l = length l.rest
