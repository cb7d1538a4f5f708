use Rattle.desk_book.proofs.SummingLemmas.{Cashing}
use Rattle.desk_book.proofs.answers.summing.write_currencies.Given as goal

abbrev pub invariant-currencies : goal.invariant-currencies
invariant-currencies g l = Cashing (g.R.Register.view l.fn.register) (g.R.Register.view l.register) l.index l.is_later (g.W.Write.contents l.fn.writer) (g.W.Write.contents l.writer)
