use Rattle.std.specs.Prelude.{◌≡◌}
use Rattle.desk_report.specs.declared.format.Format.TheVariants.{Json}
use Rattle.desk_journal.proofs.WritingLemmas.{Writing}
use Rattle.desk_journal.proofs.walk.write_rows.Given as goal

abbrev pub invariant-numbers : goal.invariant-numbers
invariant-numbers g l =
    Writing l.from l.sending (l.format ≡ Json) (g.R.Register.view l.fn.register) l.count (g.R.Register.view l.register) l.before l.is_later (g.W.Write.contents l.fn.writer) (g.W.Write.contents l.writer)
