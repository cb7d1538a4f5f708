use Rattle.std.specs.Prelude.{◌≡◌}
use Rattle.desk_report.specs.declared.format.Format.TheVariants.{Json}
use Rattle.desk_report.proofs.UnmatchedWritingLemmas.{Writing}
use Rattle.desk_report.proofs.unmatched.walk.write_rows.Given as goal

abbrev pub invariant-numbers : goal.invariant-numbers
invariant-numbers g l =
    Writing (l.format ≡ Json) (g.R.Register.view l.fn.register) (g.R.Register.view l.register) l.count l.before l.is_later (g.W.Write.contents l.fn.writer) (g.W.Write.contents l.writer)
