use Rattle.std.proofs.Common.{subst, sym}
use Rattle.desk_register.specs.View.{IsRead}
use Rattle.desk_register.proofs.ReadLemmas.{read_more, read_one}
use Rattle.desk_report.proofs.SumLemmas.{not_read}
use Rattle.desk_report.proofs.sums.write_security.Goals as goal

pub returns-in_err-outstanding-clause-read : goal.returns-in_err-outstanding-clause-read
returns-in_err-outstanding-clause-read g c =
    let v0 = g.R.Register.view c.args.register.now in
    let v1 = g.R.Register.view c.held.new.self in
    not_read c.in_err-outstanding.field-0.0 c.from_residual-in_err-outstanding.result v0 v1 (g.R.Register.view c.outstanding.new.self) c.from_residual-in_err-outstanding.ensures.1
    (read_one c.in_ok-held.held v0 v1 c.in_ok-held.ensures.read) c.in_err-outstanding.ensures.read

pub returns-clause-read : goal.returns-clause-read
returns-clause-read g c =
    let v0 = g.R.Register.view c.args.register.now in
    let v1 = g.R.Register.view c.held.new.self in
    let v2 = g.R.Register.view c.outstanding.new.self in
    subst (λ r. IsRead r v0 v2) (sym c.write_security_total.ensures.register)
    (read_more c.in_ok-outstanding.outstanding v0 v1 v2 (read_one c.in_ok-held.held v0 v1 c.in_ok-held.ensures.read) c.in_ok-outstanding.ensures.read)
