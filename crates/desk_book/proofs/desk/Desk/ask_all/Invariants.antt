use Rattle.std.proofs.Common.{◌≡◌, ◌≤◌, true, All, map, take, length}
use Rattle.std.specs.Prelude.{vec_len, vec_capacity}
use Rattle.desk_rules.specs.Books.{Books}
use Rattle.desk_register.specs.View.{IfCounted}
use Rattle.desk_book.specs.Answered.{AnsweredInTurn, AreBlamed, says_closed}
use Rattle.desk_book.specs.Asked.{asked_by}
use Rattle.desk_book.specs.Held.{Holds}
use Rattle.desk_book.specs.Left.{LeavesDesk}
use Rattle.desk_book.proofs.desk.Desk.ask_all.Given as goal

abbrev pub invariant-requests : goal.invariant-requests
invariant-requests g l = record {
  room : length l.requests ≤ vec_capacity l.answers;
  count : vec_len l.answers ≡ l.request-index;
  left : LeavesDesk g.R.Register.view g.R.Register.in_memory l.fn.self l.self;
  closed : l.fn.self.is_closed ≡ true → All (λ answer. says_closed answer ≡ true) l.answers.items;
  blame : IfCounted (g.R.Register.view l.self.register) (AreBlamed l.answers.items (g.R.Register.view l.fn.self.register).device.failures (g.R.Register.view l.self.register).device.failures);
  in_turn : (books : Books) → (g.R.Register.view l.self.register).is_honest → Holds l.fn.self.is_closed (g.R.Register.view l.fn.self.register) books
      → (last : Books) × AnsweredInTurn (g.R.Register.view l.fn.self.register).room l.fn.self.is_closed books (map asked_by (take l.request-index l.requests)) l.answers.items l.self.is_closed last
      × Holds l.self.is_closed (g.R.Register.view l.self.register) last;
}
