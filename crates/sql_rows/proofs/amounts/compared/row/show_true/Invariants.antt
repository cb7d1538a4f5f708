use Rattle.std.proofs.Common.{ℕ, ◌<◌, slice_index_or}
use Rattle.sqlite.specs.Order.{Row}
use Rattle.desk_register.specs.View.{HasRead, IfTrusted}
use Rattle.sql_rows.specs.Shown.{ShowsTrue}
use Rattle.sql_rows.proofs.amounts.compared.row.show_true.Given as goal

-- each row so far shows what the register has, or nothing
abbrev pub invariant-loop-row : goal.invariant-loop-row
invariant-loop-row g l = record {
  read : HasRead (g.R.Register.view l.fn.register) (g.R.Register.view l.register);
  show : IfTrusted (g.R.Register.view l.fn.register) (g.R.Register.view l.register)
      ((k : ℕ) (d : Row) → k < l.row-index → ShowsTrue (g.R.Register.view l.fn.register).content l.ledger (slice_index_or l.rows k d));
}
