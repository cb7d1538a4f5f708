use Rattle.std.proofs.Common.{length}
use Rattle.desk_rules.specs.Books.{Books}
use Rattle.std.specs.Io.KnownBytes.{append_known}
use Rattle.desk_book.specs.Held.{Holds}
use Rattle.desk_book.specs.Left.{LeavesDesk}
use Rattle.desk_streams.specs.Waiting.{HasRoom, waits}
use Rattle.desk_book.proofs.PlayLemmas.{SoFar}
use Rattle.desk_book.proofs.desk.Desk.answer_script.Given as goal

abbrev pub invariant-items : goal.invariant-items
invariant-items g l = record {
  left : LeavesDesk g.R.Register.view g.R.Register.in_memory l.fn.self l.self;
  room : HasRoom l.outbox;
  played : (books : Books) → (g.R.Register.view l.self.register).is_honest → Holds l.fn.self.is_closed (g.R.Register.view l.fn.self.register) books
      → SoFar l.fn.self.is_closed books l.script l.rest (append_known (g.O.Write.contents l.fn.writer) (waits l.fn.outbox)) (append_known (g.O.Write.contents l.writer) (waits l.outbox)) l.self.is_closed (g.R.Register.view l.fn.self.register) (g.R.Register.view l.self.register);
}

abbrev pub decreases-items : goal.decreases-items
decreases-items g l = length l.rest
