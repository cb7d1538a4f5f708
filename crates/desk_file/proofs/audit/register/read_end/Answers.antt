use Rattle.std.proofs.Common.{Bool, ◌+◌}
use Rattle.sql_tables.proofs.LookLemmas.{look_ok, look_passed}
use Rattle.desk_file.specs.declared.audit.register.Reading.TheVariants.{Stops, Whole}
use Rattle.desk_file.proofs.audit.register.read_end.Goals as goal

pub returns-in_err-has_no_other-clause-look : goal.returns-in_err-has_no_other-clause-look
returns-in_err-has_no_other-clause-look g c = λ version.
    look_passed Bool c.in_err-has_no_other.field-0.0 c.from_residual.result c.from_residual.ensures.1 (g.S.Session.state c.args.conn.now) (g.S.Session.state c.has_no_other.new.conn) (c.in_err-has_no_other.ensures.look version)

pub returns-then-branch-clause-look : goal.returns-then-branch-clause-look
returns-then-branch-clause-look g c = λ version. look_ok c.in_ok-has_no_other.field-0 Whole (g.S.Session.state c.args.conn.now) (g.S.Session.state c.has_no_other.new.conn) (c.in_ok-has_no_other.ensures.look version)

pub returns-else-branch-clause-look : goal.returns-else-branch-clause-look
returns-else-branch-clause-look g c = λ version. look_ok c.in_ok-has_no_other.field-0 (Stops (c.args.count + 1)) (g.S.Session.state c.args.conn.now) (g.S.Session.state c.has_no_other.new.conn) (c.in_ok-has_no_other.ensures.look version)
