-- A piece is full, and was written.
use Rattle.std.proofs.Common.{◌≡◌, ◌-◌, ◌++◌, rules}
use Rattle.std.specs.Prelude.{take}
use Rattle.desk_streams.proofs.OutboxLemmas.{piece_added}
use Rattle.desk_streams.proofs.outbox.add.Goals as goal

pub pieces-preserved : goal.pieces-preserved
pieces-preserved g c =
    let i = c.pieces.invariant in
    let left = 8192 - c.len-in-pieces.result in
    let filled : c.deref.result.now ≡ c.pieces.waiting.items ++ take left c.pieces.rest.now = search rules in
    record {
      few = search rules;
      room = search rules;
      added = rw (c.clear.ensures.items, c.split_at.ensures.back)
          (piece_added (g.W.Write.contents c.args.writer.now) c.args.waiting.now.items (g.W.Write.contents c.pieces.writer) (g.W.Write.contents c.put.new.self)
          c.pieces.waiting.items c.args.text.now c.pieces.rest.now c.deref.result.now left i.added filled c.in_ok-put.ensures.bytes);
    }
