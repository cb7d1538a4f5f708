use Rattle.desk_book.proofs.SummingLemmas.{Listing}
use Rattle.desk_book.proofs.answers.summing.write_securities.Given as goal

abbrev pub invariant-securities : goal.invariant-securities
invariant-securities g l =
    Listing (g.R.Register.view l.fn.register) (g.R.Register.view l.register) l.count l.last l._told (g.W.Write.contents l.fn.writer) (g.W.Write.contents l.writer)
