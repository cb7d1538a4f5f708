use Rattle.std.proofs.Common.{◌≡◌, ◌≤◌, length, map}
use Rattle.std.specs.Prelude.{vec_len, vec_capacity}
use Rattle.desk_register.specs.View.{IfCounted}
use Rattle.desk_book.specs.Answered.{AreBlamed}
use Rattle.desk_book.specs.Left.{LeavesDesk}
use Rattle.desk_drop.specs.Folder.{file_of}
use Rattle.desk_drop.specs.Places.{IsOrder}
use Rattle.desk_drop.proofs.TakingLemmas.{SoFar}
use Rattle.desk_drop.proofs.taking.take.Given as goal

abbrev pub invariant-places : goal.invariant-places
invariant-places g l = record {
  room : length l.place-items ≤ vec_capacity l.replies;
  count : vec_len l.replies ≡ l.place-index;
  order : IsOrder (map file_of l.files) (map (λ place. (place.0.now, place.1)) l.place-items);
  left : LeavesDesk g.R.Register.view g.R.Register.in_memory l.fn.desk l.desk;
  blame : IfCounted (g.R.Register.view l.desk.register) (AreBlamed (map (λ reply. reply.answer) l.replies.items) (g.R.Register.view l.fn.desk.register).device.failures (g.R.Register.view l.desk.register).device.failures);
  so_far : SoFar (map file_of l.files) (map (λ place. (place.0.now, place.1)) l.place-items) l.place-index (map (λ reply. reply.index) l.replies.items) (map (λ reply. reply.answer) l.replies.items) l.fn.desk.is_closed l.desk.is_closed
      (g.R.Register.view l.fn.desk.register) (g.R.Register.view l.desk.register);
}
